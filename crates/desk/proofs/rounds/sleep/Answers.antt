use Rattle.std.proofs.Common.{arith}
use Rattle.desk.proofs.rounds.sleep.Goals as goal

pub peek-requires : goal.peek-requires
peek-requires g c = let words = c.requires.words in omega (arith, words)
