use Rattle.gd_wire.proofs.FieldLemmas.{part_octets}
use Rattle.gd_wire.proofs.laws.parts_of_octets_are_octets.Goals as goal

pub returns : goal.returns
returns c = part_octets
