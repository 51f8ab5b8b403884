use Rattle.std.proofs.Common.{arith}
use Rattle.gd_cipher.proofs.ExpandLemmas.{AreBytes-front, round_keys}
use Rattle.gd_cipher.proofs.keys.Key128.words.Goals as goal

pub returns-clause-words : goal.returns-clause-words
returns-clause-words c = round_keys 4 c.self.inside.words c.args.self.now (omega arith) c.self.invariant c.self.view_is

pub returns-clause-key : goal.returns-clause-key
returns-clause-key c = AreBytes-front 16 c.self.inside.words c.args.self.now (omega arith) c.self.view_is
