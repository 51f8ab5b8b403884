-- What a judgement gives where another order of the rules, or a member without a rule that is allowed, would give something else.
use Rattle.std.proofs.Common.{◌≡◌, true, false, List, [], ◌∷◌, refl}
use Rattle.std.specs.Prelude.{codes}
use Rattle.group_policy.specs.Judgements.{judgement}
use Rattle.group_policy.specs.declared.verdicts.Verdict.TheVariants.{Allowed, Denied}
use Rattle.group_terms.specs.Names.{Name}
use Rattle.group_terms.specs.declared.patterns.Rule.{Rule}

-- one name is denied, and everybody is allowed
abbrev one_denied : List Rule
one_denied = record { allow = false; pattern = codes "b1" } ∷ record { allow = true; pattern = codes "*" } ∷ []

first_rule_decides : judgement one_denied (codes "b1") ≡ Denied 1
first_rule_decides = refl

another_one_is_allowed : judgement one_denied (codes "b2") ≡ Allowed 2
another_one_is_allowed = refl

without_a_rule : (m : Name) → judgement [] m ≡ Denied 0
without_a_rule m = refl

no_rule_matches : judgement (record { allow = true; pattern = codes "a*" } ∷ []) (codes "b1") ≡ Denied 0
no_rule_matches = refl
