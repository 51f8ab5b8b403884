-- Each payload lies in the text, so places in it have 32 bits.
use Rattle.gd_wire.proofs.PartLemmas.{at_start, part_small, body_small}
use Rattle.push_msg.proofs.reading.read_push.Goals as goal

pub read_row-requires : goal.read_row-requires
read_row-requires c =
    let text = c.args.text.now in
    let one = c.in_ok-part.ensures.lies text 28 (at_start text 28 c.new-payloads.result c.new-payloads.ensures) in
    let two = c.in_ok-part-2.ensures.lies text 28 one.1 in
    record { small = body_small text c.body.result.now c.in_ok-part-2.part c.requires.small two.0 c.body.ensures }

pub read_keys-requires : goal.read_keys-requires
read_keys-requires c =
    let text = c.args.text.now in
    let one = c.in_ok-part.ensures.lies text 28 (at_start text 28 c.new-payloads.result c.new-payloads.ensures) in
    let two = c.in_ok-part-2.ensures.lies text 28 one.1 in
    let three = c.in_ok-keys.ensures.lies text 28 two.1 in
    record { small = body_small text c.body-2.result.now c.in_ok-keys.keys c.requires.small three.0 c.body-2.ensures }

pub signature-requires-clause-small : goal.signature-requires-clause-small
signature-requires-clause-small c =
    let text = c.args.text.now in
    let one = c.in_ok-part.ensures.lies text 28 (at_start text 28 c.new-payloads.result c.new-payloads.ensures) in
    let two = c.in_ok-part-2.ensures.lies text 28 one.1 in
    let three = c.in_ok-keys.ensures.lies text 28 two.1 in
    let four = c.in_ok-part-3.ensures.lies text 28 three.1 in
    part_small text c.in_ok-part-3.part c.requires.small four.0
