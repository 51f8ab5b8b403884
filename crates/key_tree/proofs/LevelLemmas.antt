-- The positions above those of a level.
use Rattle.std.proofs.Common.{◌≡◌, ℕ, suc, ◌+◌, ◌*◌, ◌/◌, ◌^◌, ◌<◌, ◌≤◌, Bool, true, false, cond, eqb, ◌||◌, List, [], ◌∷◌, Option, None, Some, refl, sym, ap, ◌∙◌, arith, add-one}
use Rattle.std.specs.Prelude.{⊤, IfSome}
use Rattle.std.specs.List.{All, AllByRecursion}
use Rattle.std.proofs.lemmas.Bool.{eq-eqb, ne_eqb}
use Rattle.std.proofs.lemmas.Grind.{pow_more}
use Rattle.std.proofs.lemmas.List.Elements.{All-from_recursion, recursion_from_All}
use Rattle.group_terms.specs.LeafMarks.{Marked as LeafMarked}
use Rattle.key_tree.specs.declared.marks.Renewed.{Renewed}
use Rattle.key_tree.specs.Private.Levels.{above, above_one, joined, left_alone, sibling}
use Rattle.key_tree.proofs.PathLemmas.{twice}

pub or_flip : (a b : Bool) → (a || b) ≡ (b || a)
or_flip true true = refl
or_flip true false = refl
or_flip false true = refl
or_flip false false = refl

pub joined_flip : (one other : Renewed) → one.id / 2 ≡ other.id / 2 → joined one other ≡ joined other one
joined_flip one other same = λ i. record { id = same i; held = or_flip one.held other.held i; stayed = or_flip one.stayed other.stayed i }

pub sibling_right : (v u : ℕ) → v ≡ 2 * u + 1 → sibling v ≡ 2 * u
sibling_right v u is =
    let half : v / 2 ≡ u = omega (arith, is) in
    ap (λ b. cond b (2 * (v / 2) + 1) (2 * (v / 2))) (ne_eqb v (2 * (v / 2)) (λ e. absurd (omega (arith, e, half, is)))) ∙ ap (λ n. 2 * n) half

pub sibling_left : (v u : ℕ) → v ≡ 2 * u → sibling v ≡ 2 * u + 1
sibling_left v u is =
    let half : v / 2 ≡ u = omega (arith, is) in
    ap (λ b. cond b (2 * (v / 2) + 1) (2 * (v / 2))) (eq-eqb v (2 * (v / 2)) (omega (arith, half, is))) ∙ ap (λ n. 2 * n + 1) half

-- the first of these positions, if there is one, is below a number
abbrev pub HeadBelow : ℕ → List Renewed → Type 0
HeadBelow bound [] = ⊤
HeadBelow bound (one ∷ rest) = one.id < bound

module _ (held : LeafMarked) where
  pub above_both : (one next : Renewed) (rest : List Renewed) → one.id / 2 ≡ next.id / 2 → above held (Some one) (next ∷ rest) ≡ joined one next ∷ above held None rest
  above_both one next rest same =
      ap (λ b. cond b (joined one next ∷ above held None rest) (above_one held one ∷ above held (Some next) rest)) (eq-eqb (one.id / 2) (next.id / 2) same)

  -- one whose sibling does not come next
  pub above_alone : (one : Renewed) (rest : List Renewed) (bound : ℕ) → HeadBelow (2 * bound) rest → one.id / 2 ≡ bound
      → above held (Some one) rest ≡ above_one held one ∷ above held None rest
  above_alone one [] bound less half = refl
  above_alone one (next ∷ rest) bound less half =
      ap (λ b. cond b (joined one next ∷ above held None rest) (above_one held one ∷ above held (Some next) rest))
      (ne_eqb (one.id / 2) (next.id / 2) (λ e. absurd (omega (arith, e, less, half))))

  -- what each position of a level has, gives that above it another thing
  module _ (P Q : Renewed → Type 0) (keeps : (one other : Renewed) → P one → Q (joined one other)) where
    each_above : (waiting : Option Renewed) (level : List Renewed) → IfSome waiting P → AllByRecursion P level → AllByRecursion Q (above held waiting level)
    each_above None [] waits all = tt
    each_above (Some one) [] waits all = (keeps one (left_alone held (sibling one.id)) waits, tt)
    each_above None (next ∷ rest) waits all = each_above (Some next) rest all.0 all.1
    each_above (Some one) (next ∷ rest) waits all =
        elim (eqb (one.id / 2) (next.id / 2)) as (λ b. AllByRecursion Q (cond b (joined one next ∷ above held None rest) (above_one held one ∷ above held (Some next) rest))) [
          | true ↦ (keeps one next waits, each_above None rest tt all.1)
          | false ↦ (keeps one (left_alone held (sibling one.id)) waits, each_above (Some next) rest all.0 all.1)
        ]

    all_above : (level : List Renewed) → All P level → All Q (above held None level)
    all_above level all = All-from_recursion Q (above held None level) (each_above None level tt (recursion_from_All P level all))

  -- the positions above those of a level are those of the next one
  pub from_above : (steps : ℕ) (level : List Renewed) → All (λ (one : Renewed). 2 ^ suc steps ≤ one.id) level
      → All (λ (one : Renewed). 2 ^ steps ≤ one.id) (above held None level)
  from_above steps level =
      all_above (λ one. 2 ^ suc steps ≤ one.id) (λ one. 2 ^ steps ≤ one.id) (λ one other from. omega (arith, from, twice steps)) level

  pub to_above : (steps : ℕ) (level : List Renewed) → All (λ (one : Renewed). one.id < 2 ^ (suc steps + 1)) level
      → All (λ (one : Renewed). one.id < 2 ^ (steps + 1)) (above held None level)
  to_above steps level =
      let size : 2 ^ (suc steps + 1) ≡ 2 ^ (steps + 1) * 2 = pow_more 2 (suc steps) ∙ ap (λ n. n * 2) (ap (λ n. 2 ^ n) (sym (add-one steps))) in
      all_above (λ one. one.id < 2 ^ (suc steps + 1)) (λ one. one.id < 2 ^ (steps + 1)) (λ one other to. omega (arith, to, size)) level
