use Rattle.kd_wire.proofs.FormLemmas.{has_form}
use Rattle.kd_wire.proofs.laws.a_body_has_one_of_three_forms.Goals as goal

pub returns : goal.returns
returns c = has_form
