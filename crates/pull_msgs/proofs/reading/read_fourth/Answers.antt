-- Each payload lies in the text, so places in it have 32 bits.
use Rattle.gd_wire.proofs.PartLemmas.{at_start, body_small}
use Rattle.pull_msgs.proofs.reading.read_fourth.Goals as goal

pub hash_payload-requires-clause-through : goal.hash_payload-requires-clause-through
hash_payload-requires-clause-through c = at_start c.args.text.now 28 c.new-payloads.result c.new-payloads.ensures

pub read_kd-requires : goal.read_kd-requires
read_kd-requires c =
    let text = c.args.text.now in
    let one = c.in_ok-part.ensures.lies text 28 c.in_ok-hash.ensures.through in
    let two = c.in_ok-part-2.ensures.lies text 28 one.1 in
    record { small = body_small text c.body.result.now c.in_ok-part-2.part c.requires.small two.0 c.body.ensures }
