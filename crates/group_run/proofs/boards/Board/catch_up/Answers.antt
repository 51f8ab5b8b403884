use Rattle.std.proofs.Common.{◌∙◌, ◌∷◌, ◌++◌, [], arith, ap, refl}
use Rattle.std.proofs.lemmas.Option.{slice_get_within}
use Rattle.group_steps.specs.Shows.{pairs_shown}
use Rattle.group_run.proofs.BoardLemmas.{one_more_shown}
use Rattle.group_run.proofs.MailLemmas.{read_there}
use Rattle.group_run.proofs.boards.Board.catch_up.Goals as goal

pub loop-entry-preserved : goal.loop-entry-preserved
loop-entry-preserved c =
    let was = c.loop-entry.invariant in
    let entries = c.args.entries.now in
    let upto = c.loop-entry.self.upto in
    let entry = c.in-Some.entry.now in
    let is_there = read_there upto entries entry c.in-Some.ensures.lookup.0 c.in-Some.ensures.lookup.1 in
    record {
      publishes = c.publish.ensures.board ∙ was.publishes;
      reads = was.reads;
      within = omega (arith, slice_get_within entries upto entry is_there);
      published = c.publish.ensures.pairs entry refl ∙ ap (λ pairs. pairs ++ pairs_shown (entry ∷ [])) was.published
          ∙ one_more_shown entries upto entry is_there;
    }
