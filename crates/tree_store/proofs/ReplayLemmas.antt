-- What is known of the next record of a file, and what was read so far.
-- A tree stands for batches and keeps their values apart from each other (`IsTreeAfter`, `KeepsLast`).
use Rattle.std.proofs.Common.{◌≡◌, ◌∙◌, inr, ℕ, ◌+◌, ◌^◌, List, [], ◌∷◌, ◌++◌, length, map, Option, None, Some, false, true, refl, sym, subst}
use Rattle.std.specs.Prelude.{is_some}
use Rattle.std.proofs.lemmas.List.{map-append}
use Rattle.group_values.specs.Values.{KeepsLast}
use Rattle.key_tree.specs.Present.{IsTreeAfter, Present, StandsFor}
use Rattle.group_records.specs.declared.batches.Stored.{Stored}
use Rattle.group_records.specs.declared.heads.Head.{Head}
use Rattle.group_records.specs.Records.{Record, a_head, a_batch, IsReadAs}
use Rattle.tree_journal.specs.Records.{IsRecordAt}
use Rattle.tree_store.specs.declared.dues.Due.{Due}
use Rattle.tree_store.specs.Groups.{IsAfter, IsDue, IsDueAfter, IsGroupTo, HasNoneAt, batches_of, made_of}
use Rattle.tree_store.specs.Private.Dues.{IsNext}
use Rattle.tree_store.specs.Views.{ReadSoFar}
use Rattle.tree_store.specs.Replays.{IsDueIn, IsLastOf, IsReadAfter, IsReplayOf, IsTreeOf}
use Rattle.tree_store.proofs.GroupLemmas.{group_then}

module _ (file : List ℕ) (head : Head) (tree : Present) (body : List ℕ) (at : ℕ) (list : List Stored) (made : IsTreeOf head tree list) where
  none_after : IsNext body tree head.limit None → (next : Record) (after : List Stored) → IsReadAs body next → IsAfter head list next after → ⊥
  none_after none (a_head other) after read step = step
  none_after none (a_batch stored) after read step =
      none (batches_of list) made.stands stored read (subst (λ (d : ℕ). IsDueAfter d head.limit (batches_of list) stored) (sym made.depth) step.0)

  -- a record that may not come
  pub none_at : IsNext body tree head.limit None → IsRecordAt file at body → HasNoneAt file head list at
  none_at none there = inr (body, there, none_after none)

  -- a record of a batch that is due
  module _ (next : Due) (found : IsNext body tree head.limit (Some next)) where
    pub is_due : IsDue head list next.stored
    is_due = subst (λ (d : ℕ). IsDueAfter d head.limit (batches_of list) next.stored) made.depth (found.1.2 (batches_of list) made.stands)

    pub one_more : (to : ℕ) → IsRecordAt file at body → at + 5 + length body ≡ to → IsGroupTo file head list at → IsGroupTo file head (list ++ next.stored ∷ []) to
    one_more to there place is =
        subst (λ (k : ℕ). IsGroupTo file head (list ++ next.stored ∷ []) k) place (group_then head file list at body next.stored there found.0 is_due is)

    -- the replay that has it as its last one
    pub read_after : (replay : ReadSoFar) → replay ≡ record { tree = tree; last = Some next } → IsReadAfter head list next replay
    read_after replay is =
        let due : IsDueIn head tree list next = record { due = is_due; marked = found.1.0 } in
        subst (IsReadAfter head list next) (sym is)
        (record { tree = made; due = due; last = refl; replayed = record { before = list; tree = made; last = (due, refl) } })

-- whether there is a last batch
pub some_last : (last : Option Due) → true ≡ is_some last → (next : Due) × (last ≡ Some next)
some_last None is = absurd (cc is)
some_last (Some next) is = (next, refl)

pub no_last : (last : Option Due) → false ≡ is_some last → last ≡ None
no_last None is = refl
no_last (Some next) is = absurd (cc is)

-- once the last batch is in the tree
module _ (head : Head) (tree now : Present) (before : List Stored) (next : Due) (made : IsTreeOf head tree before) (due : IsDueIn head tree before next) where
  abbrev after : List Stored
  after = before ++ next.stored ∷ []

  batches_after : batches_of after ≡ batches_of before ++ next.stored.batch ∷ []
  batches_after = map-append (λ (batch : Stored). batch.batch) before (next.stored ∷ [])

  pub tree_next : IsTreeAfter tree next.stored.batch head.limit (Some now) → length now.kept.nodes ≡ 2 ^ (now.depth + 1)
      → KeepsLast now.kept (map made_of before ++ made_of next.stored ∷ []) → IsTreeOf head now after
  tree_next stands room keeps =
      let found = stands (batches_of before) made.stands in
      record {
        depth = found.0 ∙ made.depth;
        stands = subst (StandsFor now) (sym batches_after) found.1;
        room = room;
        keeps = subst (KeepsLast now.kept) (sym (map-append made_of before (next.stored ∷ []))) keeps;
      }

-- what was read, where the last batch is this one
pub with_last : (head : Head) (replay : ReadSoFar) (list : List Stored) (last : Option Due) → IsReplayOf head replay list → replay.last ≡ last
    → (before : List Stored) × IsTreeOf head replay.tree before × IsLastOf head replay.tree before last list
with_last head replay list last is same = (is.before, is.tree, subst (λ (found : Option Due). IsLastOf head replay.tree is.before found list) same is.last)

-- the tree has all of them
pub settled : (head : Head) (tree : Present) (list : List Stored) → IsTreeOf head tree list → (replay : ReadSoFar) → replay ≡ record { tree = tree; last = None }
    → IsReplayOf head replay list
settled head tree list made replay is =
    subst (λ (read : ReadSoFar). IsReplayOf head read list) (sym is) (record { before = list; tree = made; last = refl })
