use Rattle.std.proofs.Common.{refl}
use Rattle.std.proofs.lemmas.List.Elements.{All-drop}
use Rattle.group_terms.specs.Octets.{IsOctet}
use Rattle.gd_wire.specs.Readings.{from_place}
use Rattle.gd_wire.proofs.AttributeLaws.{attribute_read}
use Rattle.gd_wire.proofs.laws.an_attribute_has_one_text.Goals as goal

pub returns : goal.returns
returns c text at base found now octets e = (attribute_read (from_place base at text) (found, now) e).text text
    (All-drop IsOctet at text octets) refl
