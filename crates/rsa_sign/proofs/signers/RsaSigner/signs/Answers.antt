use Rattle.std.proofs.Common.{replicate, ap, ◌∙◌}
use Rattle.rsa_sign.specs.Keys.{KeyPair}
use Rattle.rsa_sign.specs.Signatures.{signature_of, accepts}
use Rattle.rsa_sign.proofs.signers.RsaSigner.signs.Goals as goal

pub returns : goal.returns
returns c =
    c.check.ensures ∙ ap (λ octets. accepts c.self.inside.key (replicate 32 0) octets) (c.as_slice.ensures.octets ∙ c.sign-signature.ensures.octets) ∙
    ap (λ (pair : KeyPair). accepts pair.public (replicate 32 0) (signature_of c.args.self.now (replicate 32 0))) c.self.view_is
