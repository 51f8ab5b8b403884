use Rattle.std.proofs.Common.{rules}
use Rattle.gd_cipher.proofs.ExpandLemmas.{key_made}
use Rattle.gd_cipher.proofs.keys.Key256.new.Goals as goal

pub invariant_of-result : goal.invariant_of-result
invariant_of-result c = (key_made 8 52 c.args.key c.read_u32_into.new.dst c.expand.new.words (search rules) (λ i. search rules) (search rules) c.read_u32_into.ensures c.expand.ensures).1

pub returns : goal.returns
returns c = (key_made 8 52 c.args.key c.read_u32_into.new.dst c.expand.new.words (search rules) (λ i. search rules) (search rules) c.read_u32_into.ensures c.expand.ensures).0
