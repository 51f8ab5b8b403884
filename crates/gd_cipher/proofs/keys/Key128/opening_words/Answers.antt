use Rattle.std.proofs.Common.{inl, arith}
use Rattle.gd_cipher.proofs.ExpandLemmas.{AreBytes-front, round_keys}
use Rattle.gd_cipher.proofs.UnmixLemmas.{opening_keys}
use Rattle.gd_cipher.proofs.keys.Key128.opening_words.Goals as goal

pub returns-clause-key : goal.returns-clause-key
returns-clause-key c = AreBytes-front 16 c.self.inside.words c.args.self.now (omega arith) c.self.view_is

pub returns-clause-words : goal.returns-clause-words
returns-clause-words c =
    opening_keys c.args.self.now 10 c.self.inside.words c.unmix.new.words (inl (returns-clause-key c))
    (round_keys 4 c.self.inside.words c.args.self.now (omega arith) c.self.invariant c.self.view_is) (c.unmix.ensures 10 (omega arith))
