use Rattle.std.proofs.Common.{inr, arith}
use Rattle.gd_cipher.proofs.ExpandLemmas.{AreBytes-front, round_keys}
use Rattle.gd_cipher.proofs.UnmixLemmas.{opening_keys}
use Rattle.gd_cipher.proofs.keys.Key256.opening_words.Goals as goal

pub returns-clause-key : goal.returns-clause-key
returns-clause-key c = AreBytes-front 32 c.self.inside.words c.args.self.now (omega arith) c.self.view_is

pub returns-clause-words : goal.returns-clause-words
returns-clause-words c =
    opening_keys c.args.self.now 14 c.self.inside.words c.unmix.new.words (inr (returns-clause-key c))
    (round_keys 8 c.self.inside.words c.args.self.now (omega arith) c.self.invariant c.self.view_is) (c.unmix.ensures 14 (omega arith))
