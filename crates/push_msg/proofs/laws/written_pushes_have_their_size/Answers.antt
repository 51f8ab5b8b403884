use Rattle.std.proofs.Common.{◌∙◌, ap, arith}
use Rattle.push_msg.specs.Texts.{membership_push, traffic_push}
use Rattle.push_msg.proofs.DraftLemmas.{kek_policy_fits, tek_policy_fits, updates_long}
use Rattle.push_msg.proofs.WrittenLemmas.{datagram_long}
use Rattle.push_msg.proofs.laws.written_pushes_have_their_size.Goals as goal

pub returns-clause-membership : goal.returns-clause-membership
returns-clause-membership c sign size kind head kek jobs arrays datagram head_fits kind_fits texts is =
    let told = membership_push head kind arrays in
    let policy = c.written_policies_have_their_size.ensures told.policy (kek_policy_fits head.spi kind head_fits.spi head_fits.octets kind_fits.algorithm kind_fits.key_bits) in
    let keys = updates_long head.spi arrays head_fits.spi in
    let long = c.written_texts_have_their_size.ensures.updates jobs arrays texts in
    omega (arith, policy, keys, long, datagram_long sign size kek told datagram head_fits.spi is)

pub returns-clause-membership_of_32 : goal.returns-clause-membership_of_32
returns-clause-membership_of_32 c sign kind head kek jobs arrays datagram head_fits kind_fits texts is =
    omega (arith, returns-clause-membership c sign 32 kind head kek jobs arrays datagram head_fits kind_fits texts is)

pub returns-clause-traffic : goal.returns-clause-traffic
returns-clause-traffic c sign size head kek traffic datagram head_fits traffic_fits is =
    let told = traffic_push head traffic in
    let policy = c.written_policies_have_their_size.ensures told.policy (tek_policy_fits traffic traffic_fits) in
    let keys = c.written_texts_have_their_size.ensures.traffic_kd traffic traffic_fits in
    omega (arith, policy, keys, datagram_long sign size kek told datagram head_fits.spi is)

pub returns-clause-traffic_of_32 : goal.returns-clause-traffic_of_32
returns-clause-traffic_of_32 c sign head kek traffic datagram head_fits traffic_fits is =
    omega (arith, returns-clause-traffic c sign 32 head kek traffic datagram head_fits traffic_fits is)
