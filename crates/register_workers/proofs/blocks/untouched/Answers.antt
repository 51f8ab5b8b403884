use Rattle.std.proofs.Common.{refl}
use Rattle.register_workers.proofs.blocks.untouched.Goals as goal

pub returns-clause-ended : goal.returns-clause-ended
returns-clause-ended g c workers = record {
  short = refl;
  same_lines = refl;
  same_server = c.into_book.ensures.server;
  same_entries = c.into_book.ensures.entries;
}
