-- The positions that a list's last batch drew, and what the batches before it drew.
use Rattle.std.proofs.Common.{◌≡◌, ℕ, zero, suc, ◌+◌, ◌-◌, ◌^◌, ◌<◌, Bool, true, false, cond, List, [], ◌∷◌, ◌++◌, length, sym, subst, arith, append_assoc}
use Rattle.std.specs.List.{All, filter, range_with_len}
use Rattle.std.proofs.lemmas.List.{append-nil}
use Rattle.std.proofs.lemmas.List.Elements.{All-cons, All-nil}
use Rattle.group_terms.specs.declared.changes.Change.{Change}
use Rattle.group_values.specs.Values.{Made, Rises, batches_made, ids_of}
use Rattle.group_model.specs.Drawn.{drawn_at, is_drawn}
use Rattle.group_model.specs.Places.{holders_at}
use Rattle.group_keys.specs.Drawn.{AreDrawn, AreDrawnFrom}

above_range : (p : ℕ → Bool) (low first n : ℕ) → low < first → All (λ v. low < v) (filter p (range_with_len first n))
above_range p low first zero less = All-nil (λ v. low < v)
above_range p low first (suc n) less =
    let rest : List ℕ = filter p (range_with_len (first + 1) n) in
    let later : All (λ v. low < v) rest = above_range p low (first + 1) n (omega (arith, less)) in
    elim (p first) as (λ b. All (λ v. low < v) (cond b (first ∷ rest) rest)) [
      | true ↦ All-cons (λ v. low < v) first rest less later
      | false ↦ later
    ]

-- what passes of a range rises
pub range_rises : (p : ℕ → Bool) (first n : ℕ) → Rises (filter p (range_with_len first n))
range_rises p first zero = tt
range_rises p first (suc n) =
    let rest : List ℕ = filter p (range_with_len (first + 1) n) in
    let later : Rises rest = range_rises p (first + 1) n in
    elim (p first) as (λ b. Rises (cond b (first ∷ rest) rest)) [
      | true ↦ (above_range p first (first + 1) n (omega arith), later)
      | false ↦ later
    ]

drawn_parts : (depth : ℕ) (before : List (List Change)) (list : List Made) (made : Made) → AreDrawnFrom depth before (list ++ made ∷ [])
    → AreDrawnFrom depth before list
    × (ids_of made.values.nodes ≡ drawn_at depth ((before ++ batches_made list) ++ made.changes ∷ []) (length (before ++ batches_made list) + 1))
drawn_parts depth before [] made drawn =
    (tt, subst (λ front. ids_of made.values.nodes ≡ drawn_at depth (front ++ made.changes ∷ []) (length front + 1)) (sym (append-nil before)) drawn.0)
drawn_parts depth before (first ∷ list) made drawn =
    let rest = drawn_parts depth (before ++ first.changes ∷ []) list made drawn.1 in (
      (drawn.0, rest.0),
      subst (λ front. ids_of made.values.nodes ≡ drawn_at depth (front ++ made.changes ∷ []) (length front + 1))
          (append_assoc before (first.changes ∷ []) (batches_made list)) rest.1,
    )

pub drawn_before : (depth : ℕ) (list : List Made) (made : Made) → AreDrawn depth (list ++ made ∷ []) → AreDrawn depth list
drawn_before depth list made drawn = (drawn_parts depth [] list made drawn).0

-- the positions of the last batch rise
pub drawn_rise : (depth : ℕ) (list : List Made) (made : Made) → AreDrawn depth (list ++ made ∷ []) → Rises (ids_of made.values.nodes)
drawn_rise depth list made drawn =
    let batches : List (List Change) = batches_made list ++ made.changes ∷ [] in
    let epoch : ℕ = length (batches_made list) + 1 in
    subst Rises (sym (drawn_parts depth [] list made drawn).1)
    (range_rises (is_drawn depth (holders_at depth batches (epoch - 1)) (holders_at depth batches epoch)) 1 (2 ^ (depth + 1) - 1))
