use Rattle.std.proofs.Common.{◌≡◌, ◌∙◌, refl, sym, subst, arith}
use Rattle.push_msg.specs.Texts.{membership_push, IsPushText}
use Rattle.push_msg.specs.Written.{KindFits}
use Rattle.push_msg.proofs.DraftLemmas.{header_there, updates_long, kek_policy_fits}
use Rattle.push_msg.proofs.writers.write_membership.Goals as goal

pub finish-requires : goal.finish-requires
finish-requires g c =
    let push = membership_push c.args.head.now c.kind.result c.args.arrays.now in
    let fits = kek_policy_fits c.args.head.now.spi c.kind.result c.prove_spi_fits.ensures.size c.prove_spi_fits.ensures.octets (omega arith) (omega arith) in
    let keys = updates_long c.args.head.now.spi c.args.arrays.now c.prove_spi_fits.ensures.size ∙ omega arith in
    let begun = c.in_ok-out.ensures push (record { spi = refl; number = refl; policy_is = refl; fits = fits; keys = keys }) in
    header_there push c.plain_size-size.result c.write_update_kd.new.out c.prove_spi_fits.ensures.size (c.in_ok-write_update_kd.ensures.ok ∙ begun)

pub returns-clause-text : goal.returns-clause-text
returns-clause-text g c =
    let push = membership_push c.args.head.now c.kind.result c.args.arrays.now in
    let fits = kek_policy_fits c.args.head.now.spi c.kind.result c.prove_spi_fits.ensures.size c.prove_spi_fits.ensures.octets (omega arith) (omega arith) in
    let keys = updates_long c.args.head.now.spi c.args.arrays.now c.prove_spi_fits.ensures.size ∙ omega arith in
    let begun = c.in_ok-out.ensures push (record { spi = refl; number = refl; policy_is = refl; fits = fits; keys = keys }) in
    let written = c.in_ok-finish.ensures push c.plain_size-size.result (c.in_ok-write_update_kd.ensures.ok ∙ begun) c.prove_spi_fits.ensures.size
    (λ signature same. c.plain_size-size.ensures.size push signature fits refl keys (same ∙ sym c.size.ensures.size)) in
    subst (λ sign. IsPushText (g.G.Signer.signature c.args.signer.now) (g.G.Signer.size_of c.args.signer.now) c.args.kek.now (membership_push c.args.head.now sign c.args.arrays.now) c.in_ok-finish.field-0) c.kind.ensures written

pub returns-clause-kind : goal.returns-clause-kind
returns-clause-kind g c = subst KindFits c.kind.ensures (record { algorithm = omega arith; key_bits = omega arith })
