-- Lists of batches with their values, as a journal has them.
use Rattle.std.proofs.Common.{◌≡◌, ◌∙◌, ℕ, ◌+◌, List, [], ◌∷◌, ◌++◌, length, map, refl, sym, ap, subst}
use Rattle.std.proofs.lemmas.List.{length-append, length-map}
use Rattle.group_terms.specs.declared.changes.Change.{Change}
use Rattle.group_values.specs.Values.{Made, batches_made}
use Rattle.group_model.specs.Stayed.{sequence_at}
use Rattle.group_keys.specs.Drawn.{AreDrawnFrom, AreDrawn}
use Rattle.group_records.specs.declared.batches.Stored.{Stored}
use Rattle.tree_store.specs.Groups.{IsDueAfter, batches_of, made_of}
use Rattle.gcks_core.specs.Stored.{AreDue, AreDueFrom, stored_after, stored_from, stored_list}

-- one batch more
pub batches_more : (list : List Made) (made : Made) → batches_made (list ++ made ∷ []) ≡ batches_made list ++ made.changes ∷ []
batches_more [] made = refl
batches_more (first ∷ list) made = λ i. first.changes ∷ batches_more list made i

pub length_more : (list : List Made) (made : Made) → length (list ++ made ∷ []) ≡ length list + 1
length_more list made = length-append list (made ∷ [])

pub length_batches : (list : List Made) → length (batches_made list) ≡ length list
length_batches list = length-map list (λ (made : Made). made.changes)

append_one : (before : List (List Change)) (first : List Change) (rest : List (List Change)) → (before ++ first ∷ []) ++ rest ≡ before ++ first ∷ rest
append_one [] first rest = refl
append_one (b ∷ before) first rest = λ i. b ∷ append_one before first rest i

append_none : (before : List (List Change)) → before ++ [] ≡ before
append_none [] = refl
append_none (b ∷ before) = λ i. b ∷ append_none before i

module _ (depth : ℕ) where
  stored_from_more : (before : List (List Change)) (list : List Made) (made : Made)
      → stored_from depth before (list ++ made ∷ []) ≡ stored_from depth before list ++ stored_after depth (before ++ batches_made list) made ∷ []
  stored_from_more before [] made = λ i. stored_after depth (sym (append_none before) i) made ∷ []
  stored_from_more before (first ∷ list) made =
      (λ i. stored_after depth before first ∷ stored_from_more (before ++ first.changes ∷ []) list made i)
      ∙ (λ i. stored_after depth before first
      ∷ (stored_from depth (before ++ first.changes ∷ []) list ++ stored_after depth (append_one before first.changes (batches_made list) i) made ∷ []))

  pub stored_more : (list : List Made) (made : Made) → stored_list depth (list ++ made ∷ []) ≡ stored_list depth list ++ stored_after depth (batches_made list) made ∷ []
  stored_more list made = stored_from_more [] list made

  batches_from : (before : List (List Change)) (list : List Made) → batches_of (stored_from depth before list) ≡ batches_made list
  batches_from before [] = refl
  batches_from before (made ∷ list) = λ i. made.changes ∷ batches_from (before ++ made.changes ∷ []) list i

  pub stored_batches : (list : List Made) → batches_of (stored_list depth list) ≡ batches_made list
  stored_batches list = batches_from [] list

  module _ (limit : ℕ) where
    -- what is due is what the definition makes of its changes and values
    pub due_is : (before : List (List Change)) (stored : Stored) → IsDueAfter depth limit before stored → stored ≡ stored_after depth before (made_of stored)
    due_is before stored due = λ i. record {
      batch = stored.batch;
      epoch = due.epoch i;
      sequence = (due.sequence ∙ ap (sequence_at depth (before ++ stored.batch ∷ [])) due.epoch) i;
      values = stored.values;
    }

    due_from_more : (before : List (List Change)) (list : List Made) (made : Made) → AreDueFrom depth limit before list
        → IsDueAfter depth limit (before ++ batches_made list) (stored_after depth (before ++ batches_made list) made)
        → AreDueFrom depth limit before (list ++ made ∷ [])
    due_from_more before [] made are due =
        (subst (λ b. IsDueAfter depth limit b (stored_after depth b made)) (append_none before) due, tt)
    due_from_more before (first ∷ list) made are due = (
      are.0,
      due_from_more (before ++ first.changes ∷ []) list made are.1
          (subst (λ b. IsDueAfter depth limit b (stored_after depth b made)) (sym (append_one before first.changes (batches_made list))) due),
    )

    pub due_more : (list : List Made) (made : Made) → AreDue depth limit list → IsDueAfter depth limit (batches_made list) (stored_after depth (batches_made list) made)
        → AreDue depth limit (list ++ made ∷ [])
    due_more list made are due = due_from_more [] list made are due

    drawn_from : (before : List (List Change)) (list : List Made) → AreDueFrom depth limit before list → AreDrawnFrom depth before list
    drawn_from before [] are = tt
    drawn_from before (made ∷ list) are = (are.0.carried.drawn, drawn_from (before ++ made.changes ∷ []) list are.1)

    pub due_drawn : (list : List Made) → AreDue depth limit list → AreDrawn depth list
    due_drawn list are = drawn_from [] list are

-- what was stored has the batches
unstored_from : (depth : ℕ) (before : List (List Change)) (list : List Made) → map made_of (stored_from depth before list) ≡ list
unstored_from depth before [] = refl
unstored_from depth before (made ∷ list) = λ i. made ∷ unstored_from depth (before ++ made.changes ∷ []) list i

pub unstored : (depth : ℕ) (list : List Made) → map made_of (stored_list depth list) ≡ list
unstored depth list = unstored_from depth [] list
