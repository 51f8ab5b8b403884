use Rattle.std.proofs.Common.{inl}
use Rattle.std.proofs.lemmas.List.Elements.{All-append}
use Rattle.gd_cipher.specs.Bytes.{IsByte, AreBytes, IsKey}
use Rattle.kd_wire.specs.Texts.{data_of}
use Rattle.kd_wire.proofs.SealedLemmas.{sealed_reads}
use Rattle.kd_wire.proofs.laws.a_sealed_key_opens.Goals as goal

pub returns : goal.returns
returns c = λ job text fits is.
    let by = job.by.value in
    let gives = job.gives.value in
    let key : IsKey by.key = inl (record { len = fits.by.octets; small = fits.by.small_octets }) in
    let iv : AreBytes 16 by.iv = record { len = fits.by.iv; small = fits.by.small_iv } in
    let bytes = All-append IsByte gives.iv gives.key fits.gives.small_iv fits.gives.small_octets in (
      is.sealed,
      record { reads = sealed_reads job text fits.by fits.gives is },
      λ opened opens. c.open_undoes_seal.ensures by.key by.iv (data_of gives) is.sealed opened key iv bytes is.is_sealed opens,
    )
