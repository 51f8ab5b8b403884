-- Draws that go on.
-- The blocks of the draws are a function of places, an argument of `nodes_drawn`, with pointwise equations in the loop's invariant.
use Rattle.std.proofs.Common.{◌≡◌, ℕ, zero, suc, ◌+◌, ◌<◌, List, [], ◌∷◌, ◌++◌, length, drop, get_or, refl, sym, ap, ◌∙◌, append_assoc, arith, add-one}
use Rattle.std.proofs.Math.Seq.{drop-cons}
use Rattle.group_terms.specs.declared.values.Drawn.{Drawn}
use Rattle.group_terms.specs.declared.values.NodeValue.{NodeValue}
use Rattle.group_values.specs.Drawing.{next_place, node_drawn, nodes_drawn, place_after}
use Rattle.group_values.specs.Values.{ids_of}

pub place_after-more : (m n place : ℕ) → place_after n (place_after m place) ≡ place_after (m + n) place
place_after-more zero n place = let none : n ≡ zero + n = omega arith in ap (λ k. place_after k place) none
place_after-more (suc m) n place = let one : suc (m + n) ≡ suc m + n = omega arith in place_after-more m n (next_place place) ∙ ap (λ k. place_after k place) one

-- two draws with the same blocks give a position the same value
pub same_node : (block other : ℕ → List ℕ) (place : ℕ) → ((k : ℕ) → other k ≡ block k) → node_drawn other place ≡ node_drawn block place
same_node block other place same = λ i. record { iv = same place i; key = same (next_place place) i }

-- the next position
pub nodes_next : (block : ℕ → List ℕ) (items more : List Drawn) (place later i id : ℕ) (value : NodeValue) (ids : List ℕ)
    → i < length ids → id ≡ get_or ids i id → value ≡ node_drawn block place → later ≡ place_after 2 place → more ≡ items ++ record { id = id; value = value } ∷ []
    → more ++ nodes_drawn block later (drop (i + 1) ids) ≡ items ++ nodes_drawn block place (drop i ids)
nodes_next block items more place later i id value ids low is drawn goes longer =
    let next : suc i ≡ i + 1 = sym (add-one i) in
    let cut : drop i ids ≡ id ∷ drop (i + 1) ids = drop-cons ids i id low ∙ (λ j. sym is j ∷ drop (next j) ids) in
    (λ j. longer j ++ nodes_drawn block (goes j) (drop (i + 1) ids))
    ∙ append_assoc items (record { id = id; value = value } ∷ []) (nodes_drawn block (place_after 2 place) (drop (i + 1) ids))
    ∙ ap (λ v. items ++ record { id = id; value = v } ∷ nodes_drawn block (place_after 2 place) (drop (i + 1) ids)) drawn
    ∙ sym (ap (λ left. items ++ nodes_drawn block place left) cut)

-- the values are those of the positions
pub ids_drawn : (block : ℕ → List ℕ) (place : ℕ) (ids : List ℕ) → ids_of (nodes_drawn block place ids) ≡ ids
ids_drawn block place [] = refl
ids_drawn block place (id ∷ ids) = λ i. id ∷ ids_drawn block (place_after 2 place) ids i
