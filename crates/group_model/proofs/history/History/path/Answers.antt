use Rattle.std.proofs.Common.{ℕ, [], take, map, sym, ap, ◌∙◌}
use Rattle.std.specs.Option.{option_map, unwrap_or}
use Rattle.group_terms.specs.declared.keys.KeyName.{KeyName}
use Rattle.group_model.specs.Places.{holders_at}
use Rattle.group_model.specs.Fresh.{node_name, upwards}
use Rattle.group_model.proofs.PathLemmas.{leaf_bounds}
use Rattle.group_model.proofs.history.History.path.Goals as goal

pub returns-in_ok-keys-in-Some : goal.returns-in_ok-keys-in-Some
returns-in_ok-keys-in-Some c =
    let history = c.args.self.now in
    let depth = history.depth in
    let place = sym c.place.ensures ∙ c.in-Some.is in
    let bounds = leaf_bounds depth (holders_at depth history.batches c.args.epoch) c.args.member.now c.in-Some.leaf (c.each_leaf_has_its_place.ensures depth (take c.args.epoch history.batches)) place in
    let key : ℕ → KeyName = node_name depth history.batches c.args.epoch in
    c.in_ok-keys-in-Some.ensures ∙ ap (map key) (c.as_slice.ensures ∙ c.in_ok-positions-in-Some.ensures depth bounds.0 bounds.1)
    ∙ sym (ap (λ at. unwrap_or (option_map (λ leaf. map key (upwards depth leaf)) at) []) place)
