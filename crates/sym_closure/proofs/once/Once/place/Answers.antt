use Rattle.std.proofs.Common.{ap, ◌∙◌}
use Rattle.std.specs.List.{position_from}
use Rattle.sym_closure.proofs.PlaceLemmas.{place_is}
use Rattle.sym_closure.proofs.once.Once.place.Goals as goal

pub returns : goal.returns
returns g c =
    let eq = g.T.PartialEq.eq in
    let item = c.args.item.now in
    place_is eq c.requires.exact item c.args.self.now c.copied.result
    (c.copied.ensures ∙ c.get.ensures.value ∙ c.self.invariant item ∙ ap (position_from (eq item) 0) c.self.view_is)
