use Rattle.std.proofs.Common.{◌≤◌, ◌+◌, ◌*◌, ◌-◌, ◌^◌, length, List, ◌∙◌, subst, sym}
use Rattle.std.specs.List.{AllWithin}
use Rattle.group_terms.specs.declared.keys.Wrap.{Wrap}
use Rattle.group_model.specs.Wraps.{IsBetween}
use Rattle.rekey_plan.proofs.BoundLemmas.{few_wraps, within_wraps}
use Rattle.rekey_plan.proofs.PlanLemmas.{wraps_at-marked}
use Rattle.rekey_plan.proofs.plans.plan.Goals as goal

pub returns-clause-wraps : goal.returns-clause-wraps
returns-clause-wraps c batch limit h batches stands =
    c.in_ok-list_wraps.ensures ∙ wraps_at-marked c.args.tree.now c.args.marked.now batch limit batches h stands

pub returns-clause-few : goal.returns-clause-few
returns-clause-few c =
    subst (λ (wraps : List Wrap). length wraps ≤ 2 * length c.args.marked.now.renewed + 1) (sym c.in_ok-list_wraps.ensures) (few_wraps c.args.tree.now c.args.marked.now)

pub returns-clause-within : goal.returns-clause-within
returns-clause-within c =
    subst (λ (wraps : List Wrap). AllWithin (IsBetween (2 ^ (c.args.tree.now.depth + 1))) wraps 0 (length wraps - 1)) (sym c.in_ok-list_wraps.ensures)
    (within_wraps c.args.tree.now c.args.marked.now)
