use Rattle.std.proofs.Common.{ap, ◌∙◌, arith}
use Rattle.rsa_sign.specs.Keys.{KeyPair, octet_count}
use Rattle.rsa_sign.proofs.signers.RsaSignerSigner.size.Goals as goal

pub returns-clause-size : goal.returns-clause-size
returns-clause-size c = c.size.ensures.is ∙ ap (λ (pair : KeyPair). octet_count pair.public.bits) c.self.view_is

pub returns-clause-some : goal.returns-clause-some
returns-clause-some c = omega (arith, c.size.ensures.long)

pub returns-clause-few : goal.returns-clause-few
returns-clause-few c = c.size.ensures.few
