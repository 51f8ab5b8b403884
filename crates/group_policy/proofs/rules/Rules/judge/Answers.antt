use Rattle.std.proofs.Common.{◌∙◌, ◌+◌, Some, [], false, sym, ap}
use Rattle.group_policy.specs.Judgements.{judgement, verdict_by}
use Rattle.group_policy.proofs.JudgementLemmas.{judged_at, judged_by_none}
use Rattle.group_policy.proofs.rules.Rules.judge.Goals as goal

pub returns-in-Some : goal.returns-in-Some
returns-in-Some c =
    let rules = c.as_slice-rules.result.now in
    c.verdict.ensures ∙ (λ j. verdict_by (Some (c.in-Some.place + 1, c.index-rules-place.is j)))
    ∙ sym (judged_at c.args.member.now c.index-rules-place.result rules c.in-Some.place (sym c.place_of_first.ensures.place ∙ c.in-Some.is))
    ∙ ap (λ rules. judgement rules c.args.member.now) (c.as_slice-rules.ensures ∙ c.self.view_is)

pub returns-in-None : goal.returns-in-None
returns-in-None c =
    let rules = c.as_slice-rules.result.now in
    sym (judged_by_none c.args.member.now (record { allow = false; pattern = [] }) rules (sym c.place_of_first.ensures.place ∙ c.in-None.is))
    ∙ ap (λ rules. judgement rules c.args.member.now) (c.as_slice-rules.ensures ∙ c.self.view_is)
