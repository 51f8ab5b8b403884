use Rattle.std.proofs.Common.{ℕ, ap, ◌∙◌}
use Rattle.group_terms.specs.declared.signatures.SignKind.{SignKind}
use Rattle.rsa_sign.specs.Keys.{KeyPair}
use Rattle.rsa_sign.proofs.signers.RsaSignerSigner.kind.Goals as goal

pub returns : goal.returns
returns c =
    (let of_bits : ℕ → SignKind = λ bits. record { algorithm = 1; key_bits = bits } in ap of_bits c.bits.ensures.bits) ∙
    (let of_pair : KeyPair → SignKind = λ pair. record { algorithm = 1; key_bits = pair.public.bits } in ap of_pair c.self.view_is)
