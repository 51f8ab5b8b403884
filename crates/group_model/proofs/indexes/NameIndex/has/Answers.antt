use Rattle.std.proofs.Common.{◌∙◌, ap}
use Rattle.std.specs.Prelude.{is_some}
use Rattle.group_model.specs.Places.{is_held_by}
use Rattle.group_model.proofs.IndexLemmas.{is_some-position}
use Rattle.group_model.proofs.indexes.NameIndex.has.Goals as goal

pub returns : goal.returns
returns c = c.is_some.ensures ∙ ap is_some c.find.ensures ∙ is_some-position (is_held_by c.args.member.now) c.args.holders.now
