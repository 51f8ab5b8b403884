use Rattle.std.proofs.Common.{◌≡◌, ◌∙◌, refl, sym}
use Rattle.push_msg.specs.Texts.{traffic_push}
use Rattle.push_msg.proofs.DraftLemmas.{tek_policy_fits}
use Rattle.push_msg.proofs.writers.write_traffic.Goals as goal

pub returns : goal.returns
returns g c =
    let push = traffic_push c.args.head.now c.args.traffic.now in
    let fits = tek_policy_fits c.args.traffic.now c.prove_traffic_fits.ensures in
    let keys = sym c.traffic_kd_size-keys.ensures in
    let begun = c.in_ok-out.ensures push (record { spi = refl; number = refl; policy_is = refl; fits = fits; keys = keys }) in
    c.in_ok-finish.ensures push c.plain_size-size.result (c.in_ok-write_traffic_kd.ensures.ok ∙ begun) c.prove_spi_fits.ensures.size
    (λ signature same. c.plain_size-size.ensures.size push signature fits refl keys (same ∙ sym c.size.ensures.size))
