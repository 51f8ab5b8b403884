-- A store, and what was read of it, as their callers see them.
use Rattle.std.specs.Prelude.{ℕ, Bool, Option, Result, Ok, Err}
use Rattle.key_tree.specs.Present.{Present}
use Rattle.group_records.specs.declared.heads.Head.{Head}
use Rattle.tree_journal.specs.declared.refusals.FormatRefusal.{FormatRefusal}
use Rattle.tree_store.specs.declared.dues.Due.{Due}

-- its disk; whether it is closed, as after a fault of the disk; the place of the record after the batches that were read, and that of the closed
-- gate, once it was found; and the head
pub record View (D : Type 0) : Type 0 where
  pub disk : D
  pub closed : Bool
  pub at : ℕ
  pub end : Option ℕ
  pub head : Head

-- the disk that an answer has, or gives back
abbrev pub store_disk : {D : Type 0} → Result (View D) (FormatRefusal D) → D
store_disk (Ok store) = store.disk
store_disk (Err refused) = refused.disk

-- the tree after all batches that were read but the last one, and that one, if it is not in the tree yet
pub record ReadSoFar : Type 0 where
  pub tree : Present
  pub last : Option Due
