use Rattle.std.proofs.Common.{ap, is_some, ◌∙◌}
use Rattle.group_model.specs.Places.{holders_at}
use Rattle.group_model.proofs.FitLemmas.{has_place}
use Rattle.group_model.proofs.history.History.is_member.Goals as goal

pub returns : goal.returns
returns c =
    let history = c.args.self.now in
    c.is_some.ensures ∙ ap is_some c.place.ensures ∙ has_place history.depth (holders_at history.depth history.batches c.args.epoch) c.args.member.now
