use Rattle.std.proofs.Common.{◌∙◌, ◌++◌, refl, sym, ap, ap₂, append_assoc, arith}
use Rattle.gd_wire.specs.Bodies.{sequence_text}
use Rattle.gd_wire.specs.Payloads.{payload_head}
use Rattle.kd_wire.specs.Texts.{reply_kd}
use Rattle.pull_msgs.specs.Texts.{fourth_message}
use Rattle.pull_msgs.proofs.DraftLemmas.{two_drafted}
use Rattle.pull_msgs.proofs.writers.write_fourth.Goals as goal

pub returns : goal.returns
returns c =
    let keyed = c.args.keyed.now in
    let number = sequence_text keyed.sequence in
    let keys = c.reply_kd_size-keys.ensures.size in
    c.in_ok-finish.ensures (fourth_message c.args.message.now c.args.ni.now c.args.nr.now keyed) refl
    (ap₂ (λ one two. one ++ two) (sym c.octets.ensures.octets) (sym c.octets-2.ensures.octets))
    (two_drafted c.args.phase.now c.args.message.now (c.args.ni.now ++ c.args.nr.now) 18 17 _ _ number (reply_kd keyed) c.in_ok-out.out c.write_sequence.new.out c.write_payload_head-2.new.out
    c.write_reply_kd.new.out c.a_payload_is_its_head_and_its_body.ensures keys
    (omega (arith, keys)) c.in_ok-out.ensures.text
    (c.in_ok-write_sequence.ensures.ok ∙ ap (λ octets. octets ++ number) c.in_ok-write_payload_head.ensures.ok
    ∙ append_assoc c.in_ok-out.out (payload_head 17 4) number
    ∙ ap (λ octets. c.in_ok-out.out ++ octets) (c.a_payload_is_its_head_and_its_body.ensures 17 number))
    c.in_ok-write_payload_head-2.ensures.ok c.in_ok-write_reply_kd.ensures.ok)
