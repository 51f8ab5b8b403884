use Rattle.gd_wire.proofs.OctetLemmas.{number_octets, short_octets, long_octets, head_octets, payload_octets, payloads_octets, header_octets}
use Rattle.gd_wire.proofs.text_laws.written_framing_is_octets.Goals as goal

pub returns : goal.returns
returns c = record {
  number = number_octets;
  short = short_octets;
  long = long_octets;
  head = head_octets;
  payload = payload_octets;
  payloads = payloads_octets;
  header = header_octets;
}
