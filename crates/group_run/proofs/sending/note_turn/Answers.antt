use Rattle.std.proofs.Common.{arith}
use Rattle.group_run.proofs.NoteLemmas.{no_pair}
use Rattle.group_run.proofs.SentLemmas.{noted_still, sent_same}
use Rattle.group_run.proofs.sending.note_turn.Goals as goal

pub returns-in_default : goal.returns-in_default
returns-in_default c = record {
  noted = λ entries at noted.
      noted_still c.args.pushes.now.items entries c.args.entry.now (no_pair c.args.entry.now.answer c.in_default.not-Batched c.requires.no_opening) noted;
  sent = λ entries at sent. sent_same c.args.pushes.now.items entries c.args.entry.now sent;
  spare = omega arith;
}
