use Rattle.std.proofs.Common.{◌≡◌, ◌≤◌, ◌+◌, ◌∙◌, ℕ, List, length, Some, Ok, refl, sym, ap, subst, arith}
use Rattle.sa_wire.specs.Texts.{sa_text}
use Rattle.push_msg.specs.Texts.{membership_push, traffic_push}
use Rattle.push_msg.specs.declared.bodies.OpenBody.TheVariants.{Membership, Traffic}
use Rattle.push_msg.specs.declared.rows.Row.TheVariants as rows
use Rattle.push_msg.specs.Readings.{epoch_of}
use Rattle.push_msg.specs.Written.{IsReadAs}
use Rattle.push_msg.proofs.DraftLemmas.{kek_policy_fits, tek_policy_fits, updates_long}
use Rattle.push_msg.proofs.RowLemmas.{membership_row, traffic_row, membership_keys, traffic_keys, view_from}
use Rattle.push_msg.proofs.WrittenLemmas.{is_read}
use Rattle.push_msg.proofs.laws.a_written_push_is_read.Goals as goal

pub returns-clause-membership : goal.returns-clause-membership
returns-clause-membership c sign size kind head kek given arrays datagram head_fits kek_fits kind_fits octets few updates is =
    let told = membership_push head kind arrays in
    let fits = kek_policy_fits head.spi kind head_fits.spi head_fits.octets kind_fits.algorithm kind_fits.key_bits in
    let long = c.written_policies_have_their_size.ensures told.policy fits in
    let base : ℕ = 28 + (0 + 4 + 4 + 4 + length (sa_text told.policy)) + 4 in
    let read = c.a_written_text_of_updates_is_read.ensures head.spi arrays given base head_fits.spi (omega (arith, few)) updates in
    let keys = updates_long head.spi arrays head_fits.spi in
    let same = c.a_span_has_the_arrays_that_were_read.ensures base told.keys _ read.0 (omega (arith, keys, few)) read.1 refl in
    let gives = subst (λ arrays. IsReadAs sign kind kek told (Membership (epoch_of arrays) read.0) datagram) same
    (is_read sign size kind kek told (rows.Membership head.spi) _ datagram kek_fits head_fits.spi head_fits.octets head_fits.sequence
    (c.written_policies_are_octets.ensures told.policy fits) (omega (arith, long))
    (c.written_texts_are_octets.ensures.update_kd head.spi arrays head_fits.spi head_fits.octets octets) (omega (arith, keys, few))
    (λ place cursor. membership_row head.spi (sa_text told.policy) kind place cursor (c.written_policies_are_read.ensures told.policy place fits))
    (λ cursor. membership_keys head.spi told.keys read.0 base (base + 9) cursor (view_from base told.keys _ read.1)) is) in
    (read.0, same, gives)

pub returns-clause-traffic : goal.returns-clause-traffic
returns-clause-traffic c sign size kind head kek traffic datagram head_fits kek_fits traffic_fits is =
    let told = traffic_push head traffic in
    let fits = tek_policy_fits traffic traffic_fits in
    let long = c.written_policies_have_their_size.ensures told.policy fits in
    let keys = c.written_texts_have_their_size.ensures.traffic_kd traffic traffic_fits in
    let base : ℕ = 28 + (0 + 4 + 4 + 4 + length (sa_text told.policy)) + 4 in
    is_read sign size kind kek told (rows.Traffic traffic.spi) (Traffic traffic) datagram kek_fits head_fits.spi head_fits.octets head_fits.sequence
    (c.written_policies_are_octets.ensures told.policy fits) (omega (arith, long))
    (c.written_texts_are_octets.ensures.traffic_kd traffic traffic_fits) (omega (arith, keys))
    (λ place cursor. traffic_row head.spi traffic.spi (sa_text told.policy) kind place cursor (c.written_policies_are_read.ensures told.policy place fits))
    (λ cursor. traffic_keys told.keys traffic base (base + 9) cursor (c.a_written_traffic_key_is_read.ensures traffic base traffic_fits)) is
