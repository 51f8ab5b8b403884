use Rattle.std.specs.Prelude.{◌==◌, if◌then◌else◌}
use Rattle.std.proofs.Common.{◌++◌, ◌/◌, None, Some, ap, sym, subst}
use Rattle.group_model.specs.Fresh.{upwards}
use Rattle.group_model.proofs.PathLemmas.{IsLeft, IsLeft-up}
use Rattle.group_model.proofs.paths.positions_up.Goals as goal

pub loop-at-init : goal.loop-at-init
loop-at-init c depth from to = (depth, from, to, ap (λ front. front ++ upwards depth c.args.leaf) c.new-positions.ensures)

pub loop-at-preserved : goal.loop-at-preserved
loop-at-preserved c depth from to =
    let positions = c.loop-at.positions in
    let id = c.in-Some.id in
    let before : IsLeft depth c.args.leaf positions (Some id) = subst (IsLeft depth c.args.leaf positions) c.in-Some.is (c.loop-at.invariant depth from to) in
    subst (IsLeft depth c.args.leaf c.push.new.self) (sym c.parent-at.ensures)
    (subst (λ all. IsLeft depth c.args.leaf all (if id == 1 then None else Some (id / 2))) (sym c.in_ok-push.ensures.ok) (IsLeft-up depth c.args.leaf positions id before))
