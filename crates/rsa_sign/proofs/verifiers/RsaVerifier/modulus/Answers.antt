use Rattle.std.proofs.Common.{ap}
use Rattle.rsa_sign.specs.Keys.{PublicKey}
use Rattle.rsa_sign.proofs.verifiers.RsaVerifier.modulus.Goals as goal

pub returns : goal.returns
returns c = ap (λ (key : PublicKey). key.modulus) c.self.view_is
