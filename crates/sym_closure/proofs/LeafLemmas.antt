-- Leaves below a position: where it keeps its key they keep their holders.
use Rattle.std.proofs.Common.{◌≡◌, ℕ, zero, suc, ◌+◌, ◌/◌, ◌^◌, ◌<◌, ◌≤◌, true, false, cond, eqb, List, [], Option, Some, None, get_or, sym, refl, ap, ◌∙◌, subst, arith, inl, inr, add-one}
use Rattle.std.specs.Prelude.{Contains}
use Rattle.std.specs.Option.{unwrap_or}
use Rattle.std.proofs.lemmas.Bool.{cases_Bool, cases_eq, cases_lt, eq-eqb, or_left, or_right, false≢true}
use Rattle.std.proofs.lemmas.List.{get_or-replicate}
use Rattle.group_terms.specs.Names.{Name}
use Rattle.group_terms.specs.Positions.{halved, is_below}
use Rattle.group_terms.specs.declared.changes.Change.{Change}
use Rattle.group_model.specs.Places.{is_held_by, holders_at}
use Rattle.group_model.specs.Fresh.{is_fresh, last_change, upwards}
use Rattle.law_key_ways.specs.Laws.{Laws as Ways}
use Rattle.sym_closure.proofs.FirstLemmas.{only_item, Contains-first}
use Rattle.sym_closure.proofs.ContainLemmas.{Contains-cases, Contains-later}

module _ (depth : ℕ) (batches : List (List Change)) where
  -- no key is of an epoch to come
  pub last_low : (epoch v : ℕ) → unwrap_or (last_change depth batches epoch v) 0 ≤ epoch
  unfolding last_change
  last_low zero v = omega arith
  last_low (suc epoch) v = elim (is_fresh depth (holders_at depth batches epoch) (holders_at depth batches (suc epoch)) v) as (λ fresh. unwrap_or (cond fresh (Some (suc epoch)) (last_change depth batches epoch v)) 0 ≤ suc epoch) [
    | true ↦ omega arith
    | false ↦ omega (arith, last_low epoch v)
  ]

  none_first : (v : ℕ) → unwrap_or (last_change depth batches 0 v) 0 ≡ 0
  unfolding last_change
  none_first v = refl

  -- a fresh position has a key of this epoch
  pub last_fresh : (epoch v : ℕ) → is_fresh depth (holders_at depth batches epoch) (holders_at depth batches (suc epoch)) v ≡ true → last_change depth batches (suc epoch) v ≡ Some (suc epoch)
  unfolding last_change
  last_fresh epoch v fresh = ap (λ b. cond b (Some (suc epoch)) (last_change depth batches epoch v)) fresh

  pub last_stale : (epoch v : ℕ) → is_fresh depth (holders_at depth batches epoch) (holders_at depth batches (suc epoch)) v ≡ false → last_change depth batches (suc epoch) v ≡ last_change depth batches epoch v
  unfolding last_change
  last_stale epoch v stale = ap (λ b. cond b (Some (suc epoch)) (last_change depth batches epoch v)) stale

module _ (ways : Ways) (depth : ℕ) (batches : List (List Change)) where
  -- below a position that is not fresh each leaf keeps its holder
  kept_below : (v i epoch : ℕ) → i < 2 ^ depth → is_below depth v (2 ^ depth + i) ≡ true
      → is_fresh depth (holders_at depth batches epoch) (holders_at depth batches (suc epoch)) v ≡ false
      → get_or (holders_at depth batches (suc epoch)) i None ≡ get_or (holders_at depth batches epoch) i None
  kept_below v i epoch low below =
      subst (λ next. is_fresh depth (holders_at depth batches epoch) (holders_at depth batches next) v ≡ false
      → get_or (holders_at depth batches next) i None ≡ get_or (holders_at depth batches epoch) i None) (add-one epoch)
      (ways.kept_below depth epoch i v batches low below)

  -- while a position keeps its key, each leaf below it keeps its holder
  same_since : (v i : ℕ) → i < 2 ^ depth → is_below depth v (2 ^ depth + i) ≡ true → (from later : ℕ) → from ≤ later → unwrap_or (last_change depth batches later v) 0 ≡ unwrap_or (last_change depth batches from v) 0 → get_or (holders_at depth batches later) i None ≡ get_or (holders_at depth batches from) i None
  same_since v i low below from zero since same =
      let first : 0 ≡ from = omega (arith, since) in
      ap (λ epoch. get_or (holders_at depth batches epoch) i None) first
  same_since v i low below from (suc later) since same = elim (cases_eq from (suc later)) [
    | inl now ↦ ap (λ epoch. get_or (holders_at depth batches epoch) i None) (sym now)
    | inr before ↦ elim (cases_Bool (is_fresh depth (holders_at depth batches later) (holders_at depth batches (suc later)) v)) [
      | inl fresh ↦ (
          let made : unwrap_or (last_change depth batches (suc later) v) 0 ≡ suc later = ap (λ last. unwrap_or last 0) (last_fresh depth batches later v fresh) in
          absurd (omega (arith, made, same, last_low depth batches from v, since, before))
          )
      | inr stale ↦
          kept_below v i later low below stale
          ∙ same_since v i low below from later (omega (arith, since, before)) (ap (λ last. unwrap_or last 0) (sym (last_stale depth batches later v stale)) ∙ same)
    ]
  ]

  -- the same, whichever epoch is the earlier
  pub same_below : (v i : ℕ) → i < 2 ^ depth → is_below depth v (2 ^ depth + i) ≡ true → (one other : ℕ) → unwrap_or (last_change depth batches one v) 0 ≡ unwrap_or (last_change depth batches other v) 0 → get_or (holders_at depth batches one) i None ≡ get_or (holders_at depth batches other) i None
  same_below v i low below one other same = elim (cases_lt one other) [
    | inl earlier ↦ sym (same_since v i low below one other (omega (arith, earlier)) (sym same))
    | inr later ↦ same_since v i low below other one later same
  ]

  -- a position has a key as soon as somebody has a leaf below it
  pub has_key : (v i epoch : ℕ) (m : Name) → i < 2 ^ depth → is_below depth v (2 ^ depth + i) ≡ true → is_held_by m (get_or (holders_at depth batches epoch) i None) ≡ true → last_change depth batches epoch v ≡ Some (unwrap_or (last_change depth batches epoch v) 0)
  has_key v i epoch m low below held = at (last_change depth batches epoch v) refl
    where
      at : (last : Option ℕ) → last_change depth batches epoch v ≡ last → last ≡ Some (unwrap_or last 0)
      at (Some made) is = refl
      at None is =
          let never : unwrap_or (last_change depth batches epoch v) 0 ≡ unwrap_or (last_change depth batches 0 v) 0 = ap (λ last. unwrap_or last 0) is ∙ sym (none_first depth batches v) in
          let nobody : get_or (holders_at depth batches epoch) i None ≡ None = same_since v i low below 0 epoch (omega arith) never ∙ get_or-replicate (2 ^ depth) i None None low in
          absurd (false≢true (sym (ap (is_held_by m) nobody) ∙ held))

-- so many steps up from a position are on its way up
pub upwards-has : (steps k x : ℕ) → k ≤ steps → Contains (upwards steps x) (halved k x)
upwards-has zero zero x up = Contains-first x []
upwards-has zero (suc k) x up = absurd (omega (arith, up))
upwards-has (suc steps) zero x up = Contains-first x (upwards steps (x / 2))
upwards-has (suc steps) (suc k) x up = Contains-later x (halved k (x / 2)) (upwards steps (x / 2)) (upwards-has steps k (x / 2) (omega (arith, up)))

-- the positions on the way up from a leaf are those that it is below
pub upwards-below : (steps leaf v : ℕ) → Contains (upwards steps leaf) v → is_below steps v leaf ≡ true
upwards-below zero leaf v c = eq-eqb leaf v (only_item leaf v c)
upwards-below (suc steps) leaf v c = elim (Contains-cases leaf v (upwards steps (leaf / 2)) c) [
  | inl here ↦ or_left (eqb leaf v) (is_below steps v (leaf / 2)) (eq-eqb leaf v here)
  | inr later ↦ or_right (eqb leaf v) (is_below steps v (leaf / 2)) (upwards-below steps (leaf / 2) v later)
]
