use Rattle.std.proofs.Common.{◌≡◌, ◌∙◌, ◌++◌, length, take, drop, ap}
use Rattle.group_values.specs.Values.{Kept}
use Rattle.group_values.proofs.KeepingLemmas.{KeepsLast-more, length-taken, taken, written_over}
use Rattle.group_values.proofs.keeping.KeptValues.take.Goals as goal

pub returns-clause-last : goal.returns-clause-last
returns-clause-last c list changes keeps =
    let inside = c.self.inside.nodes in
    let new = c.take_nodes.new.kept in
    let nodes = c.args.values.now.nodes in
    let same : inside ≡ c.args.self.now.nodes = ap (λ (kept : Kept). kept.nodes) c.self.view_is in
    let is : new ≡ taken inside nodes = c.take_nodes.ensures ∙ (λ i. taken (c.as_mut_slice.ensures.value i) (c.as_slice.ensures i)) in
    let long : length new ≡ length inside = ap length is ∙ length-taken inside nodes in
    KeepsLast-more c.args.self.now (take (length inside) (new ++ drop (length new) inside)) list changes c.args.values.now
    (written_over inside new long ∙ is ∙ ap (λ kept. taken kept nodes) same) keeps
