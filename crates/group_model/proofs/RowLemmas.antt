-- One row more.
use Rattle.std.proofs.Common.{◌≡◌, ℕ, ◌+◌, ◌^◌, ◌<◌, List, [], ◌∷◌, ◌++◌, Option, Some, length, get_or, sym, ap, ◌∙◌, subst, arith, inl, inr}
use Rattle.std.specs.List.{zip}
use Rattle.std.proofs.lemmas.Bool.{cases_lt}
use Rattle.std.proofs.lemmas.List.{length-append, length-map, map-append, get_or_append_left, get_or_push}
use Rattle.group_terms.specs.declared.changes.Change.{Change}
use Rattle.group_model.specs.declared.history.Row.{Row}
use Rattle.group_model.specs.Places.{Holders, no_holders, holders_after, holders_of, holders_at, member_count, Fits}
use Rattle.group_model.specs.Private.Handovers.{all_handed_over}
use Rattle.group_model.specs.Private.Rows.{batches_of, IsRowOf, AreRows}
use Rattle.group_model.proofs.EpochLemmas.{holders_at-append, holders_at-all, fold-append_one, FitInTurn-append}

-- a later batch leaves the row as it is
IsRowOf-append : (depth place : ℕ) (batches : List (List Change)) (batch : List Change) (row : Row) → place < length batches → IsRowOf depth batches place row → IsRowOf depth (batches ++ batch ∷ []) place row
IsRowOf-append depth place batches batch row low h =
    let before = holders_at-append depth batches batch place (omega (arith, low)) in
    let after = holders_at-append depth batches batch (place + 1) (omega (arith, low)) in
    record {
      handovers = h.handovers ∙ (λ j. all_handed_over (2 ^ depth) (zip (sym before j) (sym after j)));
      members = h.members ∙ ap member_count (sym after);
    }

-- the row of the new batch
IsRowOf-new : (depth : ℕ) (batches : List (List Change)) (row : Row) (after : Holders) → after ≡ holders_after (holders_of depth batches) row.changes → row.handovers ≡ all_handed_over (2 ^ depth) (zip (holders_of depth batches) after) → row.members ≡ member_count after → IsRowOf depth (batches ++ row.changes ∷ []) (length batches) row
IsRowOf-new depth batches row after held handed counted =
    let longer : List (List Change) = batches ++ row.changes ∷ [] in
    let was : holders_at depth longer (length batches) ≡ holders_of depth batches = holders_at-append depth batches row.changes (length batches) (omega arith) ∙ holders_at-all depth batches (length batches) (omega arith) in
    let is : holders_at depth longer (length batches + 1) ≡ after = holders_at-all depth longer (length batches + 1) (omega (arith, length-append batches (row.changes ∷ []))) ∙ fold-append_one holders_after (no_holders depth) batches row.changes ∙ sym held in
    record {
      handovers = handed ∙ (λ j. all_handed_over (2 ^ depth) (zip (sym was j) (sym is j)));
      members = counted ∙ ap member_count (sym is);
    }

pub AreRows-push : (depth : ℕ) (rows : List Row) (holders : Option Holders) (row : Row) (after : Holders) → AreRows depth rows holders → length rows + 1 < 2 ^ 32 → Fits (holders_of depth (batches_of rows)) row.changes → after ≡ holders_after (holders_of depth (batches_of rows)) row.changes → row.handovers ≡ all_handed_over (2 ^ depth) (zip (holders_of depth (batches_of rows)) after) → row.members ≡ member_count after → AreRows depth (rows ++ row ∷ []) (Some after)
AreRows-push depth rows holders row after h few fits held handed counted = record {
  shallow = h.shallow;
  not_deep = h.not_deep;
  few = rw length-append few;
  valid = rw map-append (FitInTurn-append (no_holders depth) (batches_of rows) row.changes h.valid fits);
  each = λ place d low. subst (λ list. IsRowOf depth list place (get_or (rows ++ row ∷ []) place d)) (sym longer_is) (elim (cases_lt place (length rows)) [
    | inl early ↦
        subst (IsRowOf depth (batches_of rows ++ row.changes ∷ []) place) (sym (get_or_append_left rows (row ∷ []) d place early))
        (IsRowOf-append depth place (batches_of rows) row.changes (get_or rows place d) (omega (arith, early, long)) (h.each place d early))
    | inr last ↦ (
        let here : place ≡ length rows = omega (arith, last, low, length-append rows (row ∷ [])) in
        subst (IsRowOf depth (batches_of rows ++ row.changes ∷ []) place) (sym (get_or_push rows row d place (sym here)))
        (subst (λ place. IsRowOf depth (batches_of rows ++ row.changes ∷ []) place row) (long ∙ sym here) last_row)
        )
  ]);
  present = held ∙ sym (fold-append_one holders_after (no_holders depth) (batches_of rows) row.changes) ∙ ap (holders_of depth) (sym longer_is);
}
  where
    longer_is : batches_of (rows ++ row ∷ []) ≡ batches_of rows ++ row.changes ∷ []
    longer_is = map-append (λ (row : Row). row.changes) rows (row ∷ [])

    long : length (batches_of rows) ≡ length rows
    long = length-map rows (λ (row : Row). row.changes)

    last_row : IsRowOf depth (batches_of rows ++ row.changes ∷ []) (length (batches_of rows)) row
    last_row = IsRowOf-new depth (batches_of rows) row after held handed counted
