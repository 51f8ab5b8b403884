use Rattle.kd_wire.proofs.TextOctets.{update_octets, jobs_octets, updates_octets, traffic_kd_octets, update_kd_octets, reply_kd_octets}
use Rattle.kd_wire.proofs.text_laws.written_texts_are_octets.Goals as goal

pub returns : goal.returns
returns c =
    let framing = c.written_framing_is_octets.ensures in
    record {
      update = update_octets framing.number framing.long;
      updates = jobs_octets framing.number framing.long;
      sealed = updates_octets framing.number framing.long;
      traffic_kd = traffic_kd_octets framing.number framing.long;
      update_kd = update_kd_octets framing.number framing.long;
      reply_kd = reply_kd_octets framing.number framing.long;
    }
