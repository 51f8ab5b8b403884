-- Loops over what is read one after the other.
-- Items one after the other are the reading `many`; `many_step` serves each loop, and exits by `?` need no answer.
use Rattle.std.proofs.Common.{◌≡◌, ℕ, suc, List, [], ◌∷◌, ◌++◌, Result, Ok, sym, ap, ◌∙◌, append_assoc}
use Rattle.group_terms.specs.declared.wires.WireFault.{WireFault}
use Rattle.gd_wire.specs.Readings.{Cursor, Reading, and_then, mapped, give}
use Rattle.gd_wire.proofs.ReadingLemmas.{mapped_step}
use Rattle.group_records.specs.Readings.{many}

-- one more has been read
pub many_step : {A : Type 0} (reading : Reading A) (done : List A) (left more : ℕ) (cursor after : Cursor) (x : A) → left ≡ suc more
    → reading cursor ≡ Ok (x, after)
    → mapped (λ xs. (done ++ x ∷ []) ++ xs) (many reading more after) ≡ mapped (λ xs. done ++ xs) (many reading left cursor)
many_step {A = A} reading done left more cursor after x one is =
    mapped_step (λ xs. done ++ xs) (λ xs. (done ++ x ∷ []) ++ xs) x (λ xs. sym (append_assoc done (x ∷ []) xs)) (many reading more after)
    ∙ sym (
    ap (λ n. mapped (λ xs. done ++ xs) (many reading n cursor)) one
    ∙ ap (λ (r : Result (A × Cursor) WireFault). mapped (λ xs. done ++ xs)
    (and_then r (λ (first : A) (next : Cursor). and_then (many reading more next) (λ (rest : List A). give (first ∷ rest))))) is
    )
