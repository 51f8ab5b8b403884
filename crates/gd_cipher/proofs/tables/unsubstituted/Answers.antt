-- The first table is that of the rule, which computes, and the others are turned.
use Rattle.std.proofs.Common.{refl}
use Rattle.gd_cipher.specs.Fields.{undo_substitute}
use Rattle.gd_cipher.proofs.ByteLemmas.{undo_substitute-small}
use Rattle.gd_cipher.proofs.TableLemmas.{tables_are}
use Rattle.gd_cipher.proofs.tables.unsubstituted.Goals as goal

pub returns : goal.returns
returns c = tables_are undo_substitute 1 0 0 0 _ _ (λ byte small. undo_substitute-small byte) refl refl
