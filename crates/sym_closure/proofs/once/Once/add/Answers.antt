use Rattle.std.proofs.Common.{sym, subst}
use Rattle.std.specs.Prelude.{Contains}
use Rattle.std.specs.HashMap.{get}
use Rattle.sym_closure.proofs.PlaceLemmas.{no_place, places_read}
use Rattle.sym_closure.proofs.once.Once.add.Goals as goal

pub invariant_of-self-in-Ok : goal.invariant_of-self-in-Ok
invariant_of-self-in-Ok g c = λ q.
    let eq = g.T.PartialEq.eq in
    let item = c.args.item in
    let items = c.self.inside.items in
    let new : Contains items item → ⊥ = λ there. no_place c.args.self.now item c.place.result (sym c.if-is_some.ensures) c.place.ensures
    (subst (λ all. Contains all item) c.self.view_is there) in
    places_read eq c.requires.exact items item new c.push.new.self c.in_ok-push.ensures.ok c.len-place.result c.len-place.ensures q
    (get eq c.self.inside.places q) (get eq c.insert.new.self q) (c.self.invariant q) (c.in-Ok.ensures.updates.0 q)
