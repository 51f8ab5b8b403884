-- The key tree stands for the batches that made it, and after one batch more for one batch more.
use Rattle.std.proofs.Common.{◌≡◌, ℕ, suc, ◌+◌, ◌-◌, ◌^◌, cond, Bool, List, [], ◌∷◌, ◌++◌, Option, None, length, map, replicate, refl, sym, ap, ◌∙◌, subst, arith}
use Rattle.std.specs.List.{list_any, range_with_len}
use Rattle.std.proofs.lemmas.List.{length-append}
use Rattle.group_terms.specs.Positions.{some_leaf_below, marks_of}
use Rattle.group_terms.specs.declared.changes.Change.{Change}
use Rattle.group_values.specs.Values.{Kept}
use Rattle.group_model.specs.Fresh.{changed_leaves}
use Rattle.group_model.specs.LastChanges.{changes_at, renewed}
use Rattle.group_model.specs.Places.{Holders, no_holders, holders_after, holders_at, holders_of, Fits, IsValid}
use Rattle.group_model.specs.Stayed.{is_kept, kept_leaves, sequence_at, stayed_at}
use Rattle.key_tree.specs.Present.{Present, StandsFor}
use Rattle.tree_leaves.specs.Unchanged.{unchanged_holders}
use Rattle.group_model.proofs.EpochLemmas.{fold-append_one, holders_at-all, holders_at-append, FitInTurn-append, changes_at-first}
use Rattle.group_model.proofs.SequenceLemmas.{sequence_at-next}
use Rattle.group_model.proofs.TreeLemmas.{changes_at-append, changes_at-step}
use Rattle.group_model.proofs.WrapLemmas.{kept-unchanged_at, list_any-map_self}

-- before the first batch
pub StandsFor-first : (depth : ℕ) (holders : Holders) (made : List (Option ℕ)) (kept : Kept) → holders ≡ no_holders depth → made ≡ replicate (2 ^ (depth + 1)) None
    → StandsFor (record { depth = depth; epoch = 0; sequence = 0; holders = holders; changes = made; kept = kept }) []
unfolding sequence_at
StandsFor-first depth holders made kept held is = record {
  valid = tt;
  epoch = refl;
  sequence = refl;
  holders = held;
  changes = is ∙ changes_at-first depth [];
}

-- it does not say what the values are
pub stands_apart : (tree : Present) (kept : Kept) (batches : List (List Change)) → StandsFor tree batches → StandsFor (record tree { kept = kept }) batches
stands_apart tree kept batches h = record { valid = h.valid; epoch = h.epoch; sequence = h.sequence; holders = h.holders; changes = h.changes }

-- one batch more, which makes of the tree before it these holders, and over which somebody stayed or nobody did
module _ (was : Present) (batch : List Change) (after : Holders) (stayed : Bool) where
  abbrev pub after_batch : Present
  after_batch = record {
    depth = was.depth;
    epoch = was.epoch + 1;
    sequence = was.sequence + cond stayed 2 0;
    holders = after;
    changes = renewed (was.epoch + 1) was.changes (marks_of was.depth (changed_leaves was.holders after));
    kept = was.kept;
  }

  module _
      (fits : Fits was.holders batch)
      (held : after ≡ holders_after was.holders batch)
      (stays : stayed ≡ list_any (λ mark. mark) (unchanged_holders was.holders after)) (batches : List (List Change)) (stands : StandsFor was batches)
    where
      abbrev longer : List (List Change)
      longer = batches ++ batch ∷ []

      last_is : length longer ≡ length batches + 1
      last_is = length-append batches (batch ∷ [])

      pub before_is : was.holders ≡ holders_at was.depth longer (was.epoch + 1 - 1)
      before_is =
          stands.holders ∙ sym (holders_at-all was.depth batches (was.epoch + 1 - 1) (omega (arith, stands.epoch)))
          ∙ sym (holders_at-append was.depth batches batch (was.epoch + 1 - 1) (omega (arith, stands.epoch)))

      pub all_is : after ≡ holders_of was.depth longer
      all_is =
          held ∙ ap (λ holders. holders_after holders batch) stands.holders ∙ sym (fold-append_one holders_after (no_holders was.depth) batches batch)

      pub after_is : after ≡ holders_at was.depth longer (was.epoch + 1)
      after_is = all_is ∙ sym (holders_at-all was.depth longer (was.epoch + 1) (omega (arith, last_is, stands.epoch)))

      valid : IsValid was.depth longer
      valid = FitInTurn-append (no_holders was.depth) batches batch stands.valid (subst (λ holders. Fits holders batch) stands.holders fits)

      pub stayed_is : stayed ≡ stayed_at was.depth longer (was.epoch + 1)
      stayed_is =
          let same : was.epoch + 1 ≡ suc was.epoch = omega arith in
          let before : Holders = holders_at was.depth longer (was.epoch + 1 - 1) in
          let now : Holders = holders_at was.depth longer (was.epoch + 1) in
          let unchanged : unchanged_holders before now ≡ kept_leaves before now =
          subst (λ n. unchanged_holders (holders_at was.depth longer (n - 1)) (holders_at was.depth longer n)
          ≡ kept_leaves (holders_at was.depth longer (n - 1)) (holders_at was.depth longer n)) (sym same)
          (kept-unchanged_at was.depth longer was.epoch valid (omega (arith, last_is, stands.epoch))) in
          stays ∙ ap (list_any (λ mark. mark)) ((λ i. unchanged_holders (before_is i) (after_is i)) ∙ unchanged) ∙ list_any-map_self (is_kept before) now

      changes_are : renewed (was.epoch + 1) was.changes (marks_of was.depth (changed_leaves was.holders after)) ≡ changes_at was.depth longer (length batches + 1)
      changes_are =
          let earlier : was.changes ≡ changes_at was.depth longer (length batches) =
          stands.changes ∙ sym (changes_at-append was.depth (length batches) batches batch (omega arith)) in
          let before : was.holders ≡ holders_at was.depth longer (length batches) =
          stands.holders ∙ sym (holders_at-all was.depth batches (length batches) (omega arith)) ∙ sym (holders_at-append was.depth batches batch (length batches) (omega arith)) in
          let now : after ≡ holders_at was.depth longer (length batches + 1) = all_is ∙ sym (holders_at-all was.depth longer (length batches + 1) (omega (arith, last_is))) in
          (λ i. renewed (stands.epoch i + 1) (earlier i) (map (some_leaf_below was.depth (changed_leaves (before i) (now i))) (range_with_len 0 (2 ^ (was.depth + 1)))))
          ∙ changes_at-step was.depth (length batches) longer

      pub StandsFor-next : StandsFor after_batch longer
      StandsFor-next = record {
        valid = valid;
        epoch = ap (λ n. n + 1) stands.epoch ∙ sym last_is;
        sequence = (λ i. stands.sequence i + cond ((stayed_is ∙ ap (λ n. stayed_at was.depth longer (n + 1)) stands.epoch) i) 2 0)
            ∙ sym (sequence_at-next was.depth batches batch) ∙ ap (sequence_at was.depth longer) (sym last_is);
        holders = all_is;
        changes = changes_are ∙ ap (changes_at was.depth longer) (sym last_is);
      }
