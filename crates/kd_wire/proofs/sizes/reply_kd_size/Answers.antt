use Rattle.std.proofs.Common.{length, sym, ap, subst, ◌∙◌}
use Rattle.std.specs.List.{All}
use Rattle.kd_wire.specs.Texts.{PathKeyFits}
use Rattle.kd_wire.specs.Widths.{reply_kd_octets}
use Rattle.kd_wire.proofs.SizeLemmas.{reply_kd_size}
use Rattle.kd_wire.proofs.sizes.reply_kd_size.Goals as goal

pub returns-clause-size : goal.returns-clause-size
returns-clause-size c =
    let keys = subst (All PathKeyFits) c.keys-keys.ensures.keys c.prove_path_keys_fit.ensures in
    let size = reply_kd_size c.args.keyed.now c.prove_spi_fits.ensures.size keys c.prove_traffic_fits.ensures in
    c.size_with.ensures ∙ ap (λ path. reply_kd_octets (length path)) c.keys-keys.ensures.keys ∙ sym size
