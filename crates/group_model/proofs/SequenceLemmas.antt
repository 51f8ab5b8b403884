-- The sequence number after one batch more.
use Rattle.std.proofs.Common.{◌≡◌, ℕ, zero, suc, ◌+◌, ◌-◌, ◌≤◌, true, false, cond, List, [], ◌∷◌, ◌++◌, length, sym, refl, ap, ◌∙◌, subst, arith, add-one}
use Rattle.group_terms.specs.declared.changes.Change.{Change}
use Rattle.group_terms.specs.declared.keys.Wrap.{Wrap}
use Rattle.group_terms.specs.declared.keys.KeyName.TheVariants.{Node, Traffic}
use Rattle.group_model.specs.Places.{holders_at}
use Rattle.group_model.specs.Stayed.{stayed_at, somebody_stayed, sequence_at}
use Rattle.group_model.specs.Wraps.{node_wraps, wraps_at, is_nil}
use Rattle.group_model.proofs.EpochLemmas.{holders_at-append}

stayed_at-append : (depth : ℕ) (batches : List (List Change)) (batch : List Change) (epoch : ℕ) → epoch ≤ length batches → stayed_at depth (batches ++ batch ∷ []) epoch ≡ stayed_at depth batches epoch
stayed_at-append depth batches batch epoch early =
    ap (λ was. somebody_stayed was (holders_at depth (batches ++ batch ∷ []) epoch)) (holders_at-append depth batches batch (epoch - 1) (omega arith))
    ∙ ap (somebody_stayed (holders_at depth batches (epoch - 1))) (holders_at-append depth batches batch epoch early)

sequence_at-append : (depth : ℕ) (batches : List (List Change)) (batch : List Change) (epoch : ℕ) → epoch ≤ length batches → sequence_at depth (batches ++ batch ∷ []) epoch ≡ sequence_at depth batches epoch
unfolding sequence_at
sequence_at-append depth batches batch zero early = refl
sequence_at-append depth batches batch (suc epoch) early =
    ap (λ number. number + cond (stayed_at depth (batches ++ batch ∷ []) (suc epoch)) 2 0) (sequence_at-append depth batches batch epoch (omega arith))
    ∙ ap (λ stayed. sequence_at depth batches epoch + cond stayed 2 0) (stayed_at-append depth batches batch (suc epoch) early)

pub sequence_at-next : (depth : ℕ) (batches : List (List Change)) (batch : List Change) → sequence_at depth (batches ++ batch ∷ []) (length batches + 1)
    ≡ sequence_at depth batches (length batches) + cond (stayed_at depth (batches ++ batch ∷ []) (length batches + 1)) 2 0
unfolding sequence_at
sequence_at-next depth batches batch =
    let longer : List (List Change) = batches ++ batch ∷ [] in
    subst (λ epoch. sequence_at depth longer epoch ≡ sequence_at depth batches (length batches) + cond (stayed_at depth longer epoch) 2 0) (sym (add-one (length batches)))
    (ap (λ number. number + cond (stayed_at depth longer (suc (length batches))) 2 0) (sequence_at-append depth batches batch (length batches) (omega arith)))

not_nil : (wraps : List Wrap) (wrap : Wrap) → is_nil (wraps ++ wrap ∷ []) ≡ false
not_nil [] wrap = refl
not_nil (first ∷ wraps) wrap = refl

-- a batch encrypts something exactly where somebody stayed
two_or_none : (depth : ℕ) (batches : List (List Change)) (epoch : ℕ) → ◌≡◌ {A = ℕ} (cond (stayed_at depth batches epoch) 2 0) (cond (is_nil (wraps_at depth batches epoch)) 0 2)
unfolding wraps_at
two_or_none depth batches epoch = elim (stayed_at depth batches epoch) as (λ stayed. ◌≡◌ {A = ℕ} (cond stayed 2 0) (cond (is_nil (cond stayed (node_wraps depth batches epoch ++ record { by = Node 1 epoch; gives = Traffic epoch } ∷ []) [])) 0 2)) [
  | true ↦ sym (ap (λ none. cond {A = ℕ} none 0 2) (not_nil (node_wraps depth batches epoch) (record { by = Node 1 epoch; gives = Traffic epoch })))
  | false ↦ refl
]

pub sequence_at-new : (depth : ℕ) (batches : List (List Change)) (batch : List Change) → sequence_at depth (batches ++ batch ∷ []) (length batches + 1) ≡ sequence_at depth batches (length batches) + cond (is_nil (wraps_at depth (batches ++ batch ∷ []) (length batches + 1))) 0 2
sequence_at-new depth batches batch =
    sequence_at-next depth batches batch
    ∙ ap (λ more. sequence_at depth batches (length batches) + more) (two_or_none depth (batches ++ batch ∷ []) (length batches + 1))
