use Rattle.std.proofs.Common.{Some}
use Rattle.register_workers.specs.Blocks.{start_of}
use Rattle.register_workers.proofs.blocks.run_block.Given as goal

abbrev pub ghosts-run_from : goal.ghosts-run_from
ghosts-run_from g a = record { start = Some (start_of a.book) }
