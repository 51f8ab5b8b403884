use Rattle.std.proofs.Common.{◌+◌, ◌∙◌, ap, arith}
use Rattle.gd_wire.specs.Chains.{filled}
use Rattle.gd_wire.specs.Bodies.{sequence_text, identification_text}
use Rattle.kd_wire.specs.Texts.{reply_kd}
use Rattle.sa_wire.specs.Texts.{sa_text}
use Rattle.pull_msgs.specs.Texts.{first_message, second_message, third_message, fourth_message}
use Rattle.pull_msgs.proofs.WrittenLemmas.{datagram_long, policies_long, two_long}
use Rattle.pull_msgs.proofs.laws.written_messages_have_their_size.Goals as goal

pub returns-clause-first : goal.returns-clause-first
returns-clause-first c phase message iv ni group datagram phase_fits message_long is =
    let two = two_long 5 ni (identification_text 11 group) in
    datagram_long phase iv (first_message message ni group) datagram phase_fits.cookies message_long is
    ∙ ap (λ size. 28 + filled size) (omega (arith, two))

pub returns-clause-first_of_16 : goal.returns-clause-first_of_16
returns-clause-first_of_16 c phase message iv ni group datagram phase_fits message_long is long short =
    omega (arith, returns-clause-first c phase message iv ni group datagram phase_fits message_long is, long, short)

pub returns-clause-second : goal.returns-clause-second
returns-clause-second c phase message iv ni nr datagram policy phase_fits message_long policies is =
    let two = two_long 1 nr (sa_text policy) in
    let long = policies_long policy policies (c.written_policies_have_their_size.ensures policy policies.fits) in
    datagram_long phase iv (second_message message ni nr policy) datagram phase_fits.cookies message_long is
    ∙ ap (λ size. 28 + filled size) (omega (arith, two, long))

pub returns-clause-second_of_16 : goal.returns-clause-second_of_16
returns-clause-second_of_16 c phase message iv ni nr datagram policy phase_fits message_long policies is long =
    omega (arith, returns-clause-second c phase message iv ni nr datagram policy phase_fits message_long policies is, long)

pub returns-clause-third : goal.returns-clause-third
returns-clause-third c phase message iv ni nr datagram phase_fits message_long is =
    datagram_long phase iv (third_message message ni nr) datagram phase_fits.cookies message_long is

pub returns-clause-fourth : goal.returns-clause-fourth
returns-clause-fourth c phase message iv ni nr datagram keyed phase_fits message_long keyed_fits is =
    let two = two_long 17 (sequence_text keyed.sequence) (reply_kd keyed) in
    let long = c.written_texts_have_their_size.ensures.reply_kd keyed keyed_fits.fits in
    omega (arith, datagram_long phase iv (fourth_message message ni nr keyed) datagram phase_fits.cookies message_long is, two, long)
