-- What was read of a journal, batch after batch.
-- What was read so far is one record with the first store in it (`IsReading`), and each way out of the loop takes its fields.
use Rattle.std.proofs.Common.{◌≡◌, ◌∙◌, ◌+◌, ◌^◌, false, List, [], ◌∷◌, ◌++◌, length, Option, None, Some, refl, sym, subst}
use Rattle.std.proofs.lemmas.List.Elements.{All-nil, All-push}
use Rattle.std.specs.List.{All}
use Rattle.gd_disk.specs.Disks.{Knows}
use Rattle.gd_disk.specs.Moments.{shown, Keeps, LeavesOnly}
use Rattle.gd_disk.specs.declared.disks.Disk.{Ghosts}
use Rattle.group_values.specs.Values.{KeepsLast, Made, batches_made}
use Rattle.key_tree.specs.Marks.{IsMarkedFor}
use Rattle.key_tree.specs.Present.{Present, StandsFor}
use Rattle.group_pushes.specs.Fits.{MadeFits}
use Rattle.group_records.specs.declared.heads.Head.{Head}
use Rattle.tree_store.specs.declared.dues.Due.{Due}
use Rattle.tree_store.specs.Groups.{IsDueAfter, IsGroupTo, made_of}
use Rattle.tree_store.specs.Replays.{IsLastOf, IsReadAfter, IsReplayOf, IsTreeOf}
use Rattle.tree_store.specs.Views.{ReadSoFar, View}
use Rattle.gcks_core.specs.Private.Cores.{IsGroupOf}
use Rattle.gcks_core.specs.Private.Reads.{IsLast, IsRead}
use Rattle.gcks_core.specs.Stored.{AreDue, stored_list}
use Rattle.gcks_core.proofs.ListLemmas.{due_is, due_more, stored_batches, stored_more, unstored}

-- a group without a batch
pub begun_group : (head : Head) (present : Present) → present.depth ≡ head.depth → StandsFor present [] → length present.kept.nodes ≡ 2 ^ (present.depth + 1)
    → KeepsLast present.kept [] → IsGroupOf head present []
begun_group head present same stands room keeps = record {
  depth = same;
  tree = stands;
  room = room;
  keeps = keeps;
  due = tt;
  fit = All-nil MadeFits;
}

-- the group of a tree that was read
group_read : (head : Head) (present : Present) (list : List Made) → IsTreeOf head present (stored_list head.depth list) → AreDue head.depth head.limit list
    → All MadeFits list → IsGroupOf head present list
group_read head present list made due fit = record {
  depth = made.depth;
  tree = subst (StandsFor present) (stored_batches head.depth list) made.stands;
  room = made.room;
  keeps = subst (KeepsLast present.kept) (unstored head.depth list) made.keeps;
  due = due;
  fit = fit;
}

-- before the first batch
pub read_none : (head : Head) (replay : ReadSoFar) → IsReplayOf head replay [] → replay.last ≡ None → IsRead head replay []
read_none head replay is none =
    let before : [] ≡ is.before = subst (λ (last : Option Due). IsLastOf head replay.tree is.before last []) none is.last in
    let made : IsTreeOf head replay.tree [] = subst (IsTreeOf head replay.tree) (sym before) is.tree in
    record {
      replayed = is;
      due = tt;
      fit = All-nil MadeFits;
      before = [];
      group = group_read head replay.tree [] made tt (All-nil MadeFits);
      last = subst (λ (last : Option Due). IsLast head replay.tree [] last []) (sym none) (refl, refl);
    }

-- one batch further
module _ (head : Head) (replay after : ReadSoFar) (list : List Made) (next : Due) (was : IsRead head replay list)
    (read : IsReadAfter head (stored_list head.depth list) next after) where
  is_due : IsDueAfter head.depth head.limit (batches_made list) next.stored
  is_due = subst (λ b. IsDueAfter head.depth head.limit b next.stored) (stored_batches head.depth list) read.due.due

  pub there : stored_list head.depth list ++ next.stored ∷ [] ≡ stored_list head.depth (list ++ made_of next.stored ∷ [])
  there =
      (λ i. stored_list head.depth list ++ due_is head.depth head.limit (batches_made list) next.stored is_due i ∷ [])
      ∙ sym (stored_more head.depth list (made_of next.stored))

  pub read_more : MadeFits (made_of next.stored) → IsRead head after (list ++ made_of next.stored ∷ [])
  read_more fits = record {
    replayed = subst (IsReplayOf head after) there read.replayed;
    due = due_more head.depth head.limit list (made_of next.stored) was.due
        (subst (IsDueAfter head.depth head.limit (batches_made list)) (due_is head.depth head.limit (batches_made list) next.stored is_due) is_due);
    fit = All-push MadeFits list (made_of next.stored) was.fit fits;
    before = list;
    group = group_read head after.tree list read.tree was.due was.fit;
    last = subst (λ (last : Option Due). IsLast head after.tree list last (list ++ made_of next.stored ∷ [])) (sym read.last) (is_due, read.due.marked, refl);
  }

-- of the batch that was read last
module _ (head : Head) (replay : ReadSoFar) (list : List Made) where
  pub read_last : (next : Due) → (read : IsRead head replay list) → replay.last ≡ Some next
      → IsDueAfter head.depth head.limit (batches_made read.before) next.stored × IsMarkedFor replay.tree next.stored.batch head.limit next.marked
      × (list ≡ read.before ++ made_of next.stored ∷ [])
  read_last next read is = subst (λ (last : Option Due). IsLast head replay.tree read.before last list) is read.last

  -- where there is none
  pub read_nothing : (read : IsRead head replay list) → replay.last ≡ None → (list ≡ []) × (read.before ≡ list)
  read_nothing read none =
      let both : (read.before ≡ []) × (list ≡ []) = subst (λ (last : Option Due). IsLast head replay.tree read.before last list) none read.last in
      (both.1, both.0 ∙ sym both.1)

-- so far read, since a store was opened
pub record IsReading {D : Type 0} (g : Ghosts D) (first now : View D) (head : Head) (replay : ReadSoFar) : Type 0 where
  pub list : List Made
  pub begins : Knows (shown g first.disk) (λ file. IsGroupTo file head (stored_list head.depth list) now.at)
  pub read : IsRead head replay list
  pub open_still : now.closed ≡ false
  pub same_head : now.head ≡ head
  pub shows : shown g now.disk ≡ shown g first.disk
  pub moments : Knows (shown g first.disk) (λ file. LeavesOnly g first.disk now.disk (λ c. c ≡ file))
  pub unfaulted : g.faults now.disk ≡ g.faults first.disk
  pub keeps : Keeps g first.disk now.disk
