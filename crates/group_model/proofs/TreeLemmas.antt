-- What a batch makes of the tree of an epoch is the tree of the next one.
use Rattle.std.proofs.Common.{◌≡◌, ℕ, ◌+◌, ◌^◌, ◌<◌, ◌≤◌, false, cond, eqb, ◌||◌, List, [], ◌∷◌, ◌++◌, Some, None, length, map, take, get_or, replicate, sym, refl, ap, ◌∙◌, arith, add-one}
use Rattle.std.specs.List.{range_with_len}
use Rattle.std.proofs.lemmas.List.{take_more}
use Rattle.std.proofs.lemmas.List.FromFn.{get_or-map-range_with_len, length-map-range_with_len, fill_by_all}
use Rattle.group_terms.specs.Positions.{some_leaf_below}
use Rattle.group_terms.specs.declared.changes.Change.{Change}
use Rattle.group_model.specs.declared.trees.Tree.{Tree}
use Rattle.group_model.specs.Places.{no_holders, holders_after, holders_of, holders_at}
use Rattle.group_model.specs.Fresh.{changed_leaves, last_change}
use Rattle.group_model.specs.LastChanges.{changes_at}
use Rattle.group_model.specs.Private.Trees.{StandsAt}
use Rattle.group_model.specs.LastChanges.{renewed_at, renewed}
use Rattle.group_model.proofs.EpochLemmas.{fold-append_one, last_change-append, get_or-changes_at, length-changes_at, changes_at-first}

-- functions that agree below n make one list of the numbers below n
map-range_agree : {X : Type 0} (f g : ℕ → X) (n : ℕ) (d : X) → ((v : ℕ) → v < n → f v ≡ g v) → map f (range_with_len 0 n) ≡ map g (range_with_len 0 n)
map-range_agree f g n d agree =
    fill_by_all g (map f (range_with_len 0 n)) n d (length-map-range_with_len f 0 n) (λ k low. get_or-map-range_with_len f 0 n k k d low (omega arith) ∙ agree k low)

module _ (depth place : ℕ) (batches : List (List Change)) where
  -- the holders of the next epoch
  holders_at-step : (changes : List Change) → place < length batches → changes ≡ get_or batches place changes → holders_at depth batches (place + 1) ≡ holders_after (holders_at depth batches place) changes
  holders_at-step changes low is =
      ap (holders_of depth) (take_more batches place changes low ∙ ap (λ last. take place batches ++ last ∷ []) (sym is))
      ∙ fold-append_one holders_after (no_holders depth) (take place batches) changes

  -- its last changes
  last_change-step : (v : ℕ) → last_change depth batches (place + 1) v ≡ cond (eqb v 1 || some_leaf_below depth (changed_leaves (holders_at depth batches place) (holders_at depth batches (place + 1))) v) (Some (place + 1)) (last_change depth batches place v)
  unfolding last_change
  last_change-step v = rw add-one refl

  pub changes_at-step : renewed (place + 1) (changes_at depth batches place) (map (some_leaf_below depth (changed_leaves (holders_at depth batches place) (holders_at depth batches (place + 1)))) (range_with_len 0 (2 ^ (depth + 1)))) ≡ changes_at depth batches (place + 1)
  changes_at-step =
      let changed = changed_leaves (holders_at depth batches place) (holders_at depth batches (place + 1)) in
      let marks = map (some_leaf_below depth changed) (range_with_len 0 (2 ^ (depth + 1))) in
      let one = renewed_at (place + 1) (changes_at depth batches place) marks in
      ap (λ n. map one (range_with_len 0 n)) (length-changes_at depth batches place)
      ∙ map-range_agree one (last_change depth batches (place + 1)) (2 ^ (depth + 1)) None (λ v low.
      ap (λ mark. cond (eqb v 1 || mark) (Some (place + 1)) (get_or (changes_at depth batches place) v None)) (get_or-map-range_with_len (some_leaf_below depth changed) 0 (2 ^ (depth + 1)) v v false low (omega arith))
      ∙ ap (λ last. cond (eqb v 1 || some_leaf_below depth changed v) (Some (place + 1)) last) (get_or-changes_at depth batches place v low)
      ∙ sym (last_change-step v))

  pub StandsAt-step : (changes : List Change) (was next : Tree) → place < length batches → changes ≡ get_or batches place changes → StandsAt depth batches place was → next.holders ≡ holders_after was.holders changes → next.made ≡ renewed (place + 1) was.made (map (some_leaf_below depth (changed_leaves was.holders next.holders)) (range_with_len 0 (2 ^ (depth + 1)))) → StandsAt depth batches (place + 1) next
  StandsAt-step changes was next low is stood held made =
      let holders : next.holders ≡ holders_at depth batches (place + 1) = held ∙ ap (λ hs. holders_after hs changes) stood.holders ∙ sym (holders_at-step changes low is) in
      record {
        holders = holders;
        made = made
            ∙ (λ j. renewed (place + 1) (stood.made j) (map (some_leaf_below depth (changed_leaves (stood.holders j) (holders j))) (range_with_len 0 (2 ^ (depth + 1)))))
            ∙ changes_at-step;
      }

-- a later batch changes nothing
pub changes_at-append : (depth epoch : ℕ) (batches : List (List Change)) (batch : List Change) → epoch ≤ length batches
    → changes_at depth (batches ++ batch ∷ []) epoch ≡ changes_at depth batches epoch
changes_at-append depth epoch batches batch early =
    map-range_agree (last_change depth (batches ++ batch ∷ []) epoch) (last_change depth batches epoch) (2 ^ (depth + 1)) None
    (λ v low. last_change-append depth batches batch epoch v early)

-- the empty tree is that of epoch 0
pub StandsAt-first : (depth : ℕ) (batches : List (List Change)) (tree : Tree) → tree.holders ≡ no_holders depth → tree.made ≡ replicate (2 ^ (depth + 1)) None → StandsAt depth batches 0 tree
StandsAt-first depth batches tree held made = record { holders = held; made = made ∙ changes_at-first depth batches }
