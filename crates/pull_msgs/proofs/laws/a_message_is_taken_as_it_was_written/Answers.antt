-- Another IV changes the first block alone. In it the payload of the HASH keeps its length, so all that comes after is read as it was written.
use Rattle.std.proofs.Common.{◌≡◌, ◌≤◌, ◌+◌, ◌∙◌, ◌++◌, ℕ, List, length, Some, Ok, sym, ap, subst, arith, refl}
use Rattle.gd_wire.specs.Bodies.{sequence_text}
use Rattle.gd_wire.specs.Readings.{from_start, value_of}
use Rattle.group_terms.specs.declared.paths.Keyed.{Keyed}
use Rattle.group_terms.specs.declared.phases.Phase1.{Phase1}
use Rattle.kd_wire.specs.Texts.{reply_kd}
use Rattle.kd_wire.specs.Widths.{traffic_kd_octets}
use Rattle.sa_wire.specs.Texts.{sa_text}
use Rattle.sa_wire.specs.declared.policies.SaPolicy.{SaPolicy}
use Rattle.pull_msgs.specs.declared.messages.Second.{Second}
use Rattle.pull_msgs.specs.Fits.{PhaseFits, PoliciesFit}
use Rattle.pull_msgs.specs.Pulls.{Awaited, fourth_awaited, second_awaited}
use Rattle.pull_msgs.specs.Readings.{FourthSaid, PullRead, SecondSaid, fourth, root_made, second}
use Rattle.pull_msgs.specs.Sent.{IsSomeFourth, IsSomeSecond}
use Rattle.pull_msgs.specs.Texts.{next_iv}
use Rattle.gd_wire.proofs.OctetLemmas.{number_octets}
use Rattle.gd_wire.proofs.ReadingLemmas.{same_value}
use Rattle.pull_msgs.proofs.FrontLemmas.{Front, fourth_front, second_front}
use Rattle.pull_msgs.proofs.KindLemmas.{fourth_kind, no_fourth, no_second, second_kind}
use Rattle.pull_msgs.proofs.MessageLemmas as messages
use Rattle.pull_msgs.proofs.MessageLemmas.{fourth_gives, policies_read, second_is_read}
use Rattle.pull_msgs.proofs.SentLemmas.{IsReadAs, Taken, read_as, what_was_taken}
use Rattle.pull_msgs.proofs.WrittenLemmas.{policies_long}
use Rattle.pull_msgs.proofs.laws.a_message_is_taken_as_it_was_written.Goals as goal
use Rattle.pull_msgs.proofs.laws.a_message_is_taken_as_it_was_written.Goals.{After-written_policies_have_their_size}

-- the keys of a message that was written have few octets
keys_small : After-written_policies_have_their_size → (phase : Phase1) (keyed : Keyed) (datagram : List ℕ) → IsSomeFourth phase keyed datagram
    → length (reply_kd keyed) ≤ 65000
keys_small c phase keyed datagram is =
    let sized = c.written_texts_have_their_size.ensures.reply_kd keyed is.keys_fit.fits in
    let few = is.keys_fit.few in
    omega (arith, sized, few)

-- so have its policies
policies_small : After-written_policies_have_their_size → (policy : SaPolicy) → PoliciesFit policy → length (sa_text policy) ≤ 65000
policies_small c policy fits =
    let exact = policies_long policy fits (c.written_policies_have_their_size.ensures policy fits.fits) in
    omega (arith, exact)

-- what was taken of a fourth message was read of the number and the keys that were written, and of a second one of the nonce and the policies
fourth_as : (c : After-written_policies_have_their_size) (phase : Phase1) (keyed : Keyed) (datagram : List ℕ) → PhaseFits phase
    → IsSomeFourth phase keyed datagram → (A B : Type 0) (awaited : Awaited A B) (taken : B) (found : Taken A B phase awaited datagram taken)
    → length (awaited.iv found.head.message) ≡ 16 → (front : Front found.text found.head.next)
    → IsReadAs A awaited.payloads front.kind 17 front.digest (sequence_text keyed.sequence) (reply_kd keyed) found.read
fourth_as c phase keyed datagram phase_fits is =
    read_as phase is.iv is.message (is.ni ++ is.nr) 18 17 (sequence_text keyed.sequence) (reply_kd keyed) datagram phase_fits
    is.message_size is.iv_size (omega arith) (omega arith) (number_octets 4 keyed.sequence)
    (c.written_texts_are_octets.ensures.reply_kd keyed is.keys_fit.fits) is.is_text

second_as : (c : After-written_policies_have_their_size) (phase : Phase1) (nr : List ℕ) (policy : SaPolicy) (datagram : List ℕ) → PhaseFits phase
    → IsSomeSecond phase nr policy datagram → (A B : Type 0) (awaited : Awaited A B) (taken : B) (found : Taken A B phase awaited datagram taken)
    → length (awaited.iv found.head.message) ≡ 16 → (front : Front found.text found.head.next)
    → IsReadAs A awaited.payloads front.kind 1 front.digest nr (sa_text policy) found.read
second_as c phase nr policy datagram phase_fits is =
    read_as phase is.iv is.message is.ni 10 1 nr (sa_text policy) datagram phase_fits
    is.message_size is.iv_size (omega arith) (omega arith) is.nr_fits.octets (c.written_policies_are_octets.ensures policy is.policies_fit.fits) is.is_text

abbrev keyed_of : FourthSaid → Keyed
keyed_of said = record { epoch = root_made said.path; sequence = said.sequence; spi = said.spi; path = said.path; traffic = said.traffic }

with_epoch : (keyed : Keyed) (epoch : ℕ) → keyed.epoch ≡ epoch
    → (let other : Keyed = record { epoch = epoch; sequence = keyed.sequence; spi = keyed.spi; path = keyed.path; traffic = keyed.traffic } in other ≡ keyed)
with_epoch keyed epoch same =
    λ i. record { epoch = sym same i; sequence = keyed.sequence; spi = keyed.spi; path = keyed.path; traffic = keyed.traffic }

abbrev second_of : List ℕ → SecondSaid → Second
second_of datagram said = record { nr = said.nr; policy = said.policy; next_iv = next_iv datagram }

pub returns-clause-second : goal.returns-clause-second
returns-clause-second c phase message iv ni nr datagram policy taken phase_fits iv_long is answered =
    let awaited = second_awaited message iv ni in
    let found = what_was_taken _ _ phase awaited datagram taken answered in
    let front = second_front found.text found.head.next found.read found.reads in
    let parts = second_as c phase nr policy datagram phase_fits is _ _ awaited taken found iv_long front in
    let body : List ℕ = sa_text policy in
    let small = policies_small c policy is.policies_fit in
    let least = is.nr_fits.least in
    let most = is.nr_fits.most in
    let one_fits : length nr ≤ 65531 = omega (arith, most) in
    let two_fits : length body ≤ 65531 = omega (arith, small) in
    let kind = second_kind front.kind 1 front.digest nr body parts.zeros front.long parts.few one_fits two_fits found.read parts.reads in
    let reads = subst (λ kind.
    let octets : List ℕ = messages.text kind 1 front.digest nr body parts.zeros front.long parts.few one_fits two_fits in
    value_of (second octets 8 (from_start 28 octets)) ≡ Ok found.read) kind parts.reads in
    let written = second_is_read front.digest nr body policy parts.zeros front.long parts.few least most small
    (λ base cursor. policies_read policy body base cursor is.policies_fit.kek is.policies_fit.tek
    (c.written_policies_are_read.ensures policy base is.policies_fit.fits)) in
    found.gives ∙ ap (λ (read : PullRead SecondSaid). second_of datagram read.said) (same_value found.read _ (sym reads ∙ written))

pub returns-clause-fourth : goal.returns-clause-fourth
returns-clause-fourth c phase message iv ni nr spi datagram keyed taken phase_fits iv_long is answered =
    let awaited = fourth_awaited message iv ni nr spi in
    let found = what_was_taken _ _ phase awaited datagram taken answered in
    let front = fourth_front spi found.text found.head.next found.read found.reads in
    let parts = fourth_as c phase keyed datagram phase_fits is _ _ awaited taken found iv_long front in
    let number : List ℕ = sequence_text keyed.sequence in
    let body : List ℕ = reply_kd keyed in
    let small = keys_small c phase keyed datagram is in
    let one_fits : length number ≤ 65531 = omega arith in
    let two_fits : length body ≤ 65531 = omega (arith, small) in
    let kind = fourth_kind front.kind 17 front.digest number body parts.zeros front.long parts.few one_fits two_fits spi found.read parts.reads in
    let reads = subst (λ kind.
    let octets : List ℕ = messages.text kind 17 front.digest number body parts.zeros front.long parts.few one_fits two_fits in
    value_of (fourth spi octets 8 (from_start 28 octets)) ≡ Ok found.read) kind parts.reads in
    let given = fourth_gives front.digest keyed parts.zeros front.long parts.few is.keys_fit.sequence small
    (λ base. record { tek = Some (base + 9); lkh = Some (base + (traffic_kd_octets + 5)) }) (λ base. base + (traffic_kd_octets + 5)) (λ base. refl)
    (λ base. c.a_written_reply_is_read.ensures keyed base is.keys_fit.fits) spi found.read reads in
    found.gives ∙ ap (λ (read : PullRead FourthSaid). keyed_of read.said) given ∙ with_epoch keyed (root_made keyed.path) is.keys_fit.epoch

pub returns-clause-second_as_fourth : goal.returns-clause-second_as_fourth
returns-clause-second_as_fourth c phase message iv ni nr spi server_nr datagram policy taken phase_fits iv_long is answered =
    let awaited = fourth_awaited message iv ni nr spi in
    let found = what_was_taken _ _ phase awaited datagram taken answered in
    let front = fourth_front spi found.text found.head.next found.read found.reads in
    let parts = second_as c phase server_nr policy datagram phase_fits is _ _ awaited taken found iv_long front in
    let small = policies_small c policy is.policies_fit in
    let least = is.nr_fits.least in
    let most = is.nr_fits.most in
    no_fourth front.kind 1 front.digest server_nr (sa_text policy) parts.zeros front.long parts.few (omega (arith, most)) (omega (arith, small)) spi
    found.read (λ same. omega (arith, same, least)) parts.reads

pub returns-clause-fourth_as_second : goal.returns-clause-fourth_as_second
returns-clause-fourth_as_second c phase message iv ni datagram keyed taken phase_fits iv_long is answered =
    let awaited = second_awaited message iv ni in
    let found = what_was_taken _ _ phase awaited datagram taken answered in
    let front = second_front found.text found.head.next found.read found.reads in
    let parts = fourth_as c phase keyed datagram phase_fits is _ _ awaited taken found iv_long front in
    let small = keys_small c phase keyed datagram is in
    no_second front.kind 17 front.digest (sequence_text keyed.sequence) (reply_kd keyed) parts.zeros front.long parts.few (omega arith)
    (omega (arith, small)) found.read (omega arith) parts.reads
