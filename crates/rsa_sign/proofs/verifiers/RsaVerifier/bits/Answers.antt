use Rattle.std.proofs.Common.{subst, ap}
use Rattle.rsa_sign.specs.Keys.{PublicKey, IsPublicKey}
use Rattle.rsa_sign.proofs.verifiers.RsaVerifier.bits.Goals as goal

pub returns-clause-bits : goal.returns-clause-bits
returns-clause-bits c = ap (λ (key : PublicKey). key.bits) c.self.view_is

pub returns-clause-key : goal.returns-clause-key
returns-clause-key c = subst IsPublicKey c.self.view_is c.self.invariant.0
