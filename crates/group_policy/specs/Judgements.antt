-- How a policy judges a member: the first rule that matches it decides.
use Rattle.std.specs.Prelude.{ℕ, Bool, List, Option, None, Some, if◌then◌else◌}
use Rattle.std.specs.List.{enumerate_from, find}
use Rattle.group_terms.specs.Names.{Name}
use Rattle.group_terms.specs.Patterns.{matches}
use Rattle.group_terms.specs.declared.patterns.Rule.{Rule}
use Rattle.group_policy.specs.declared.verdicts.Verdict.{Verdict}
use Rattle.group_policy.specs.declared.verdicts.Verdict.TheVariants.{Allowed, Denied}

-- whether a rule matches a member
abbrev pub rule_matches : Name → Rule → Bool
rule_matches m rule = matches rule.pattern m

-- by a rule with its number; by none a member is denied
abbrev pub verdict_by : Option (ℕ × Rule) → Verdict
verdict_by None = Denied 0
verdict_by (Some rule) = if rule.1.allow then Allowed rule.0 else Denied rule.0

-- the rules have numbers from 1
abbrev pub judgement : List Rule → Name → Verdict
judgement rules m = verdict_by (find (λ (rule : ℕ × Rule). rule_matches m rule.1) (enumerate_from 1 rules))
