-- Each payload lies in the text, so places in it have 32 bits.
use Rattle.gd_wire.proofs.PartLemmas.{at_start, body_small}
use Rattle.pull_msgs.proofs.reading.read_second.Goals as goal

pub hash_payload-requires-clause-through : goal.hash_payload-requires-clause-through
hash_payload-requires-clause-through c = at_start c.args.text.now 28 c.new-payloads.result c.new-payloads.ensures

pub policies-requires : goal.policies-requires
policies-requires c =
    let text = c.args.text.now in
    let there = c.in_ok-part.ensures.lies text 28 c.in_ok-nr.ensures.through in
    record { small = body_small text c.body.result.now c.in_ok-part.part c.requires.small there.0 c.body.ensures }
