-- The first table is that of the rule, which computes, and the others are turned.
use Rattle.std.proofs.Common.{refl}
use Rattle.gd_cipher.specs.Fields.{substitute}
use Rattle.gd_cipher.proofs.ByteLemmas.{substitute-small}
use Rattle.gd_cipher.proofs.TableLemmas.{tables_are}
use Rattle.gd_cipher.proofs.tables.substituted.Goals as goal

pub returns : goal.returns
returns c = tables_are substitute 1 0 0 0 _ _ (λ byte small. substitute-small byte) refl refl
