use Rattle.std.proofs.Common.{◌≡◌, ◌∙◌, ◌^◌, [], None, get_or, replicate, refl, sym, ap, subst}
use Rattle.std.specs.Option.{IfNone}
use Rattle.group_values.specs.Values.{batches_made}
use Rattle.group_model.specs.Places.{holders_of, is_held_by, place_in}
use Rattle.group_keys.proofs.ReplyLemmas.{keyed_is, nobody_held, no_batch, present_last}
use Rattle.group_keys.proofs.replies.keyed.Goals as goal

pub returns-in_err-leaf-clause-none : goal.returns-in_err-leaf-clause-none
returns-in_err-leaf-clause-none c list stands keeps =
    subst (λ r. IfNone r (place_in c.args.tree.now.depth c.args.tree.now.holders c.args.member.now ≡ None)) (sym c.from_residual.ensures)
    (sym c.leaf_of.ensures.place ∙ c.in_err-leaf.was)

pub returns-in_err-traffic-clause-none : goal.returns-in_err-traffic-clause-none
returns-in_err-traffic-clause-none c list stands keeps =
    let depth = c.args.tree.now.depth in
    let m = c.args.member.now in
    let held = c.places_are_held.ensures depth c.in_ok-leaf.leaf c.args.tree.now.holders m (sym c.leaf_of.ensures.place ∙ c.in_ok-leaf.was) in
    let nothing : list ≡ [] = no_batch list (sym c.in_err-traffic.was ∙ c.traffic.ensures ∙ keeps.traffic) in
    let nobody : c.args.tree.now.holders ≡ replicate (2 ^ depth) None = stands.holders ∙ ap (λ made. holders_of depth (batches_made made)) nothing in
    absurd (nobody_held (2 ^ depth) held.0 m (ap (λ holders. is_held_by m (get_or holders held.0 None)) (sym nobody) ∙ held.2))

pub returns-clause-keyed : goal.returns-clause-keyed
returns-clause-keyed c list stands keeps drawn =
    let tree = c.args.tree.now in
    keyed_is c.the_last_value_is_that_of_the_last_change.ensures c.places_are_held.ensures tree list stands drawn c.args.spi.now c.args.member.now c.in_ok-leaf.leaf
    (record { epoch = c.epoch.result; sequence = c.sequence.result; spi = c.args.spi.now; path = c.path.result; traffic = c.in_ok-traffic.traffic })
    (sym c.leaf_of.ensures.place ∙ c.in_ok-leaf.was) c.in_ok-leaf.ensures.leaf.0 c.in_ok-leaf.ensures.leaf.1
    c.epoch.ensures c.sequence.ensures refl (sym keeps.traffic ∙ sym c.traffic.ensures ∙ c.in_ok-traffic.was) c.path.ensures.ids
    (λ k key low. present_last tree list (get_or c.path.result k key) keeps c.prove_room.ensures (c.path.ensures.keys k key low))
