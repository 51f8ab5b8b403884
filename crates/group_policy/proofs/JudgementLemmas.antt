-- The rule that decides, by its place.
use Rattle.std.proofs.Common.{◌≡◌, ℕ, zero, suc, ◌+◌, Bool, true, false, List, [], ◌∷◌, Option, None, Some, get_or, refl, sym, ap, ◌∙◌, arith, inl, inr}
use Rattle.std.specs.List.{enumerate_from, find, position, position_from}
use Rattle.std.proofs.lemmas.Bool.{cases_Bool, cond-true, cond-false}
use Rattle.std.proofs.lemmas.Iterator.Adapters.{position_from-zero}
use Rattle.std.proofs.lemmas.Option.{none-some}
use Rattle.group_terms.specs.Names.{Name}
use Rattle.group_policy.specs.Judgements.{rule_matches, judgement, verdict_by}
use Rattle.group_terms.specs.declared.patterns.Rule.{Rule}

module _ (m : Name) (none : Rule) where
  abbrev numbered : ℕ × Rule → Bool
  numbered rule = rule_matches m rule.1

  some_from : (n : ℕ) (rules : List Rule) (i : ℕ) → position_from (rule_matches m) n rules ≡ Some i
      → (k : ℕ) × (i ≡ n + k) × (find numbered (enumerate_from (n + 1) rules) ≡ Some (i + 1, get_or rules k none))
  some_from n [] i is = absurd (none-some i is)
  some_from n (rule ∷ rules) i is = elim (cases_Bool (rule_matches m rule)) [
    | inl about ↦
        let here : n ≡ i = same (sym (cond-true (rule_matches m rule) (Some n) (position_from (rule_matches m) (n + 1) rules) about) ∙ is) in (
          0,
          omega (arith, here),
          cond-true (rule_matches m rule) (Some (n + 1, rule)) (find numbered (enumerate_from (n + 1 + 1) rules)) about
              ∙ ap (λ i. Some (i + 1, rule)) here,
        )
    | inr other ↦
        let later = some_from (n + 1) rules i (sym (cond-false (rule_matches m rule) (Some n) (position_from (rule_matches m) (n + 1) rules) other) ∙ is) in (
          suc later.0,
          omega (arith, later.1),
          cond-false (rule_matches m rule) (Some (n + 1, rule)) (find numbered (enumerate_from (n + 1 + 1) rules)) other
              ∙ later.2,
        )
  ]
    where
      same : {a b : ℕ} → Some a ≡ Some b → a ≡ b
      same e = cc

  none_from : (n : ℕ) (rules : List Rule) → position_from (rule_matches m) n rules ≡ None → find numbered (enumerate_from (n + 1) rules) ≡ None
  none_from n [] is = refl
  none_from n (rule ∷ rules) is = elim (cases_Bool (rule_matches m rule)) [
    | inl about ↦ absurd (none-some n (sym is ∙ cond-true (rule_matches m rule) (Some n) (position_from (rule_matches m) (n + 1) rules) about))
    | inr other ↦
        cond-false (rule_matches m rule) (Some (n + 1, rule)) (find numbered (enumerate_from (n + 1 + 1) rules)) other
        ∙ none_from (n + 1) rules (sym (cond-false (rule_matches m rule) (Some n) (position_from (rule_matches m) (n + 1) rules) other) ∙ is)
  ]

  pub judged_at : (rules : List Rule) (i : ℕ) → position (rule_matches m) rules ≡ Some i
      → judgement rules m ≡ verdict_by (Some (i + 1, get_or rules i none))
  judged_at rules i is =
      let found = some_from 0 rules i (sym (position_from-zero (rule_matches m) rules) ∙ is) in
      ap verdict_by (found.2 ∙ ap (λ k. Some (i + 1, get_or rules k none)) (omega (arith, found.1)))

  pub judged_by_none : (rules : List Rule) → position (rule_matches m) rules ≡ None → judgement rules m ≡ verdict_by None
  judged_by_none rules is = ap verdict_by (none_from 0 rules (sym (position_from-zero (rule_matches m) rules) ∙ is))
