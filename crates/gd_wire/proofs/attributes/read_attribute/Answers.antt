use Rattle.std.proofs.Common.{ap, ◌∙◌}
use Rattle.gd_wire.specs.Readings.{value_of}
use Rattle.gd_wire.specs.Attributes.{attribute}
use Rattle.gd_wire.proofs.ReadingLemmas.{gives_value}
use Rattle.gd_wire.proofs.AttributeLaws.{attribute_within}
use Rattle.gd_wire.proofs.attributes.read_attribute.Goals as goal

pub returns-clause-within : goal.returns-clause-within
returns-clause-within c =
    attribute_within c.args.text.now c.args.at c.args.base c.requires.within c.next_attribute.result
    (gives_value c.next_attribute.result c.next_attribute.new.reader _ c.next_attribute.ensures ∙ ap (λ reader. value_of (attribute reader))
    c.at_place.ensures)
