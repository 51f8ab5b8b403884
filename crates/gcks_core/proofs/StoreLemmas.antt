-- Storing a batch that is due.
use Rattle.std.proofs.Common.{◌≡◌, ℕ, List, [], ◌∷◌, ◌++◌, sym, subst}
use Rattle.gd_disk.specs.Disks.{Knows}
use Rattle.gd_disk.specs.MomentLaws.{shown_before}
use Rattle.gd_disk.specs.Moments.{shown, Keeps}
use Rattle.gd_disk.specs.declared.disks.Disk.{Ghosts}
use Rattle.group_terms.specs.declared.changes.Change.{Change}
use Rattle.group_values.specs.Values.{Made, batches_made}
use Rattle.key_tree.specs.Present.{Present}
use Rattle.group_records.specs.declared.batches.Stored.{Stored}
use Rattle.group_records.specs.declared.heads.Head.{Head}
use Rattle.group_records.specs.Records.{IsBatchOf}
use Rattle.tree_store.specs.Groups.{HasGroup, IsDue, IsDueAfter, IsGroup}
use Rattle.gcks_core.specs.Prepares.{PreparedBatch}
use Rattle.gcks_core.specs.Private.Stores.{IsStorable}
use Rattle.gcks_core.specs.Stored.{stored_after, stored_list}
use Rattle.gcks_core.proofs.ListLemmas.{stored_batches, stored_more}

-- ---- what the store asks, and what it says

abbrev pub OneGroup : Type 0
OneGroup = (file : List ℕ) (head other : Head) (list others : List Stored) → IsGroup file head list → IsGroup file other others → (head ≡ other) × (list ≡ others)

module _ (head : Head) (present : Present) (changes : List Change) (list : List Made) (ready : PreparedBatch) (storable : IsStorable head present changes list ready) where
  abbrev made : Made
  made = record { changes = changes; values = ready.values }

  abbrev pub stored_next : Stored
  stored_next = stored_after head.depth (batches_made list) made

  pub due_to_list : IsDue head (stored_list head.depth list) stored_next
  due_to_list = subst (λ b. IsDueAfter head.depth head.limit b stored_next) (sym (stored_batches head.depth list)) storable.due

  -- the record is due whatever group the file has, since it has one
  pub due_to_store : OneGroup → (file : List ℕ) → IsGroup file head (stored_list head.depth list) → (other : Head) (others : List Stored) → IsGroup file other others
      → (stored : Stored) × IsBatchOf ready.text stored × IsDue other others stored
  due_to_store one file is other others has =
      let same = one file head other (stored_list head.depth list) others is has in (
        stored_next,
        storable.text_is,
        subst (λ (both : Head × List Stored). IsDue both.0 both.1 stored_next) (λ i. (same.0 i, same.1 i)) due_to_list,
      )

  -- the list with the batch
  pub group_more : (file : List ℕ) → IsGroup file head (stored_list head.depth list ++ stored_next ∷ [])
      → IsGroup file head (stored_list head.depth (list ++ made ∷ []))
  group_more file is = subst (IsGroup file head) (sym (stored_more head.depth list made)) is

module _ {D : Type 0} (g : Ghosts D) (old new : D) (keeps : Keeps g old new) (head : Head) (before after : List Stored) where
  -- what is shown afterwards was shown before
  pub known_after : Knows (shown g old) (λ file. IsGroup file head before) → (HasGroup (shown g old) head before → HasGroup (shown g new) head after)
      → Knows (shown g new) (λ file. IsGroup file head after)
  known_after was goes file is =
      let old_file = shown_before g old new keeps file is in
      let has = goes (old_file.0, old_file.1, was old_file.0 old_file.1) in
      let same : has.0 ≡ file = cc (has.1, is) in
      subst (λ file. IsGroup file head after) same has.2
