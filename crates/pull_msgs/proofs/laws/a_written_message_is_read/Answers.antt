use Rattle.std.proofs.Common.{◌≡◌, ◌≤◌, ◌+◌, ◌%◌, ◌-◌, ◌∙◌, ◌++◌, [], ◌∷◌, ℕ, List, length, replicate, Some, Ok, refl, sym, ap, subst, arith}
use Rattle.std.proofs.lemmas.List.{append-nil}
use Rattle.std.proofs.lemmas.List.Elements.{All-cons, All-nil}
use Rattle.gd_cipher.specs.Bytes.{AreBytes}
use Rattle.gd_wire.specs.Bodies.{sequence_text, identification_text}
use Rattle.gd_wire.specs.Chains.{payload_text}
use Rattle.gd_wire.specs.Readings.{Cursor, from_start, value_of}
use Rattle.gd_wire.proofs.OctetLemmas.{number_octets, same_octets}
use Rattle.group_terms.specs.Octets.{IsOctet, AreOctets}
use Rattle.group_terms.specs.declared.paths.Keyed.{Keyed}
use Rattle.group_terms.specs.declared.phases.Phase1.{Phase1}
use Rattle.kd_wire.specs.Texts.{reply_kd}
use Rattle.kd_wire.specs.Widths.{traffic_kd_octets}
use Rattle.sa_wire.specs.Texts.{sa_text}
use Rattle.pull_msgs.specs.Fits.{MessageFits, PhaseFits, ReplyFits}
use Rattle.pull_msgs.specs.Pulls.{due_message, first_awaited, second_awaited, third_awaited, fourth_awaited}
use Rattle.pull_msgs.specs.Readings.{root_made, first, second, third, fourth}
use Rattle.pull_msgs.specs.Texts.{IsPullText, message_hash, first_iv, first_message, second_message, third_message, fourth_message}
use Rattle.pull_msgs.proofs.HashLemmas.{length-hash_of, first_iv_fits}
use Rattle.pull_msgs.proofs.MessageLemmas.{first_is_read, second_is_read, third_is_read, fourth_is_read, policies_read}
use Rattle.pull_msgs.proofs.WrittenLemmas.{IsRead, is_read, policies_long, two_flat, two_octets, two_long}
use Rattle.pull_msgs.proofs.laws.a_written_message_is_read.Goals as goal
use Rattle.pull_msgs.proofs.laws.a_written_message_is_read.Goals.{After-written_policies_have_their_size}

known_is_due : (message : List ℕ) (cursor : Cursor) → due_message (Some message) message cursor ≡ Ok (tt, cursor)
known_is_due message cursor = rw (same_octets message) refl

pub returns-clause-third : goal.returns-clause-third
returns-clause-third c phase message iv ni nr datagram answer phase_fits message_fits iv_fits is answered =
    let said = third_message message ni nr in
    let digest = message_hash phase said in
    let long = length-hash_of phase message (ni ++ nr) [] in
    let zeros : ℕ = (16 - length (payload_text 0 digest ++ []) % 16) % 16 in
    (is_read phase iv said datagram phase_fits message_fits iv_fits (omega arith) (All-nil IsOctet) (omega arith) is _ _
    (third_awaited message iv ni nr) _ (known_is_due message) refl refl
    (ap (λ text. value_of (third text 8 (from_start 28 text))) (ap (λ octets. octets ++ replicate zeros 0) (append-nil (payload_text 0 digest)))
    ∙ third_is_read digest zeros long (omega arith))
    refl refl).alone answer answered

pub returns-clause-first : goal.returns-clause-first
returns-clause-first c phase message ni group datagram answer phase_fits message_fits ni_fits group_octets group_short is answered =
    let said = first_message message ni group in
    let digest = message_hash phase said in
    let named : List ℕ = identification_text 11 group in
    let named_octets : AreOctets named = All-cons IsOctet 11 (0 ∷ 0 ∷ 0 ∷ group) (omega arith) (All-cons IsOctet 0 (0 ∷ 0 ∷ group) (omega arith)
    (All-cons IsOctet 0 (0 ∷ group) (omega arith) (All-cons IsOctet 0 group (omega arith) group_octets))) in
    let most = ni_fits.most in
    let rest_long = two_long 5 ni named in
    let long = length-hash_of phase message [] (payload_text 5 ni ++ (payload_text 0 named ++ [])) in
    let zeros : ℕ = (16 - length (payload_text 10 digest ++ (payload_text 5 ni ++ (payload_text 0 named ++ []))) % 16) % 16 in
    (is_read phase (first_iv phase message) said datagram phase_fits message_fits (first_iv_fits phase.last message) (omega arith)
    (two_octets 5 ni named (omega arith) ni_fits.octets named_octets)
    (omega (arith, rest_long, most, group_short)) is _ _
    (first_awaited phase) _ (λ cursor. refl) refl refl
    (ap (λ text. value_of (first text 8 (from_start 28 text))) (two_flat 10 5 digest ni named (replicate zeros 0))
    ∙ first_is_read digest ni group 11 zeros long (omega arith) ni_fits.least most (omega (arith, group_short)))
    refl (ap (λ octets. payload_text 5 ni ++ octets) (sym (append-nil (payload_text 0 named))))).alone answer answered

pub returns-clause-second : goal.returns-clause-second
returns-clause-second c phase message iv ni nr datagram policy answer phase_fits message_fits iv_fits nr_fits policies is answered =
    let said = second_message message ni nr policy in
    let digest = message_hash phase said in
    let body : List ℕ = sa_text policy in
    let most = nr_fits.most in
    let rest_long = two_long 1 nr body in
    let sized = c.written_policies_have_their_size.ensures policy policies.fits in
    let exact = policies_long policy policies sized in
    let small : length body ≤ 65000 = omega (arith, exact) in
    let long = length-hash_of phase message ni (payload_text 1 nr ++ (payload_text 0 body ++ [])) in
    let zeros : ℕ = (16 - length (payload_text 10 digest ++ (payload_text 1 nr ++ (payload_text 0 body ++ []))) % 16) % 16 in
    (is_read phase iv said datagram phase_fits message_fits iv_fits (omega arith)
    (two_octets 1 nr body (omega arith) nr_fits.octets (c.written_policies_are_octets.ensures policy policies.fits))
    (omega (arith, rest_long, most, small)) is _ _
    (second_awaited message iv ni) _ (known_is_due message) refl refl
    (ap (λ text. value_of (second text 8 (from_start 28 text))) (two_flat 10 1 digest nr body (replicate zeros 0))
    ∙ second_is_read digest nr body policy zeros long (omega arith) nr_fits.least most small
    (λ base cursor. policies_read policy body base cursor policies.kek policies.tek (c.written_policies_are_read.ensures policy base policies.fits)))
    refl (ap (λ octets. payload_text 1 nr ++ octets) (sym (append-nil (payload_text 0 body))))).alone answer answered

-- keys are read with the epoch in which the root's key was made
fourth_read : (c : After-written_policies_have_their_size) (phase : Phase1) (message iv ni nr datagram : List ℕ) (keyed : Keyed) → PhaseFits phase
    → MessageFits message → AreBytes 16 iv → ReplyFits keyed → IsPullText phase iv (fourth_message message ni nr keyed) datagram
    → IsRead phase (fourth_awaited message iv ni nr keyed.spi) datagram keyed
fourth_read c phase message iv ni nr datagram keyed phase_fits message_fits iv_fits keyed_fits is =
    let said = fourth_message message ni nr keyed in
    let digest = message_hash phase said in
    let number : List ℕ = sequence_text keyed.sequence in
    let body : List ℕ = reply_kd keyed in
    let rest_long = two_long 17 number body in
    let sized = c.written_texts_have_their_size.ensures.reply_kd keyed keyed_fits.fits in
    let few = keyed_fits.few in
    let small : length body ≤ 65000 = omega (arith, sized, few) in
    let long = length-hash_of phase message (ni ++ nr) (payload_text 17 number ++ (payload_text 0 body ++ [])) in
    let zeros : ℕ = (16 - length (payload_text 18 digest ++ (payload_text 17 number ++ (payload_text 0 body ++ []))) % 16) % 16 in
    subst (λ epoch. IsRead phase (fourth_awaited message iv ni nr keyed.spi) datagram
    (record { epoch = epoch; sequence = keyed.sequence; spi = keyed.spi; path = keyed.path; traffic = keyed.traffic })) (sym keyed_fits.epoch)
    (is_read phase iv said datagram phase_fits message_fits iv_fits (omega arith)
    (two_octets 17 number body (omega arith) (number_octets 4 keyed.sequence)
    (c.written_texts_are_octets.ensures.reply_kd keyed keyed_fits.fits))
    (omega (arith, rest_long, small)) is _ _
    (fourth_awaited message iv ni nr keyed.spi) _ (known_is_due message) refl refl
    (ap (λ text. value_of (fourth keyed.spi text 8 (from_start 28 text))) (two_flat 18 17 digest number body (replicate zeros 0))
    ∙ fourth_is_read digest keyed zeros long (omega arith) keyed_fits.sequence small
    (λ base. record { tek = Some (base + 9); lkh = Some (base + (traffic_kd_octets + 5)) }) (λ base. base + (traffic_kd_octets + 5)) (λ base. refl)
    (λ base. c.a_written_reply_is_read.ensures keyed base keyed_fits.fits))
    refl (ap (λ octets. payload_text 17 number ++ octets) (sym (append-nil (payload_text 0 body)))))

pub returns-clause-fourth : goal.returns-clause-fourth
returns-clause-fourth c phase message iv ni nr datagram keyed answer phase_fits message_fits iv_fits keyed_fits is =
    (fourth_read c phase message iv ni nr datagram keyed phase_fits message_fits iv_fits keyed_fits is).alone answer

pub returns-clause-keys : goal.returns-clause-keys
returns-clause-keys c phase message iv ni nr datagram keyed phase_fits message_fits iv_fits keyed_fits is =
    (fourth_read c phase message iv ni nr datagram keyed phase_fits message_fits iv_fits keyed_fits is).can_be
