use Rattle.std.proofs.Common.{◌≡◌, cond, List, [], ◌∷◌, ◌++◌, ap, sym, ◌∙◌}
use Rattle.group_terms.specs.declared.keys.KeyName.TheVariants.{Node, Traffic}
use Rattle.group_terms.specs.declared.keys.Wrap.{Wrap}
use Rattle.key_tree.specs.Marks.{ids_renewed}
use Rattle.rekey_plan.specs.Private.Plans.{wraps_up}
use Rattle.rekey_plan.proofs.plans.list_wraps.Goals as goal
use Rattle.rekey_plan.proofs.plans.list_wraps.Goals.{then-stayed+in_ok-push_node_wraps+in_ok-push, else-stayed}

pub returns : goal.returns
returns c =
    let tree = c.args.tree.now in
    let marked = c.args.marked.now in
    let all : List Wrap = wraps_up tree marked (ids_renewed marked.renewed) ++ record { by = Node 1 marked.epoch; gives = Traffic marked.epoch } ∷ [] in
    let any : c.stayed.result ≡ marked.stayed = c.stayed.ensures in
    elim c.if-stayed.branch [
      | then-stayed+in_ok-push_node_wraps+in_ok-push w ↦ w.wraps-is ∙ w.in_ok-push.ensures.ok
          ∙ (λ i. w.in_ok-push_node_wraps.ensures i ++ record { by = (w.node.ensures ∙ ap (Node 1) w.epoch-made.ensures) i; gives = Traffic (w.epoch-made.ensures i) } ∷ [])
          ∙ ap (λ wraps. (wraps ++ wraps_up tree marked (ids_renewed marked.renewed)) ++ record { by = Node 1 marked.epoch; gives = Traffic marked.epoch } ∷ []) c.new-wraps.ensures
          ∙ sym (ap (λ b. cond b all []) (sym any ∙ w.if-stayed.true))
      | else-stayed w ↦ w.wraps-is ∙ c.new-wraps.ensures ∙ sym (ap (λ b. cond b all []) (sym any ∙ w.if-stayed.false))
    ]
