use Rattle.std.proofs.Common.{◌≡◌, ◌∙◌, List, [], ◌∷◌, ◌+◌, ◌^◌, ◌++◌, ◌≤◌, sym, ap, subst, arith}
use Rattle.group_model.specs.declared.entries.Standing.{Standing}
use Rattle.server_steps.specs.Private.Standings.{standings_among}
use Rattle.server_steps.proofs.SeenLemmas.{members_seen, standings_more, standings_none}
use Rattle.server_steps.proofs.seeing.members.Goals as goal

pub loop-place-init : goal.loop-place-init
loop-place-init g c =
    let tree = c.args.core.now.tree in
    record {
      items = c.requires.items ∙ standings_none tree.depth tree.holders;
      spare = subst (λ n. n ≤ c.args.room.spare + 0) (sym (c.leaf_count-leaves.ensures.count ∙ ap (λ depth. 2 ^ depth) c.depth.ensures.depth))
          (omega (arith, c.requires.spare));
    }

pub loop-place-preserved : goal.loop-place-preserved
loop-place-preserved g c =
    let tree = c.args.core.now.tree in
    let leaves = c.leaf_count-leaves.result in
    let place = c.loop-place.place in
    let one = standings_among tree.depth tree.holders ((leaves + place) ∷ []) in
    record {
      items = c.add_standing.ensures.items ∙ ap (λ (before : List Standing). before ++ one) c.loop-place.invariant.items
          ∙ sym (standings_more tree.depth tree.holders leaves place);
      spare = omega arith;
    }

pub returns : goal.returns
returns g c server stands =
    let leaves = c.leaf_count-leaves.result in
    let all = c.leaf_count-leaves.ensures.count ∙ ap (λ depth. 2 ^ depth) c.depth.ensures.depth in
    let each : c.loop-place.place ≡ leaves = omega arith in
    members_seen g.R.Draws c.args.core.now server leaves c.loop-place.place c.loop-place.room.items stands all each c.loop-place.invariant.items
