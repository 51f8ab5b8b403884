-- A core as its callers see it.
use Rattle.std.specs.Prelude.{Bool, List}
use Rattle.group_terms.specs.declared.changes.Change.{Change}
use Rattle.key_tree.specs.Present.{Present}
use Rattle.group_records.specs.declared.heads.Head.{Head}

-- its disk, signer and draws; the head of the group; its key tree; the changes that wait; and whether it has to be
-- opened again
pub record View (D G R : Type 0) : Type 0 where
  pub disk : D
  pub signer : G
  pub draws : R
  pub head : Head
  pub tree : Present
  pub queue : List Change
  pub needs_reopen : Bool
