use Rattle.std.proofs.Common.{Result, IfOk, subst, sym}
use Rattle.group_terms.specs.declared.wires.WireFault.{WireFault}
use Rattle.kd_wire.specs.declared.bodies.KdView.{KdView}
use Rattle.case_rooms.specs.Replies.{LeadsToRoot}
use Rattle.case_rooms.proofs.FormLemmas.{body_leads}
use Rattle.case_rooms.proofs.stores.replies.read_download.Goals as goal

pub returns : goal.returns
returns c = subst (λ (result : Result KdView WireFault). IfOk result LeadsToRoot) (sym c.read_kd.ensures)
    (body_leads c.a_body_has_one_of_three_forms.ensures 0 c.args.body.now)
