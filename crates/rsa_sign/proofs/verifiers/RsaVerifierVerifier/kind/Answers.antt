use Rattle.std.proofs.Common.{ap}
use Rattle.group_terms.specs.declared.signatures.SignKind.{SignKind}
use Rattle.rsa_sign.specs.Keys.{PublicKey}
use Rattle.rsa_sign.proofs.verifiers.RsaVerifierVerifier.kind.Goals as goal

pub returns : goal.returns
returns c = let kind : PublicKey → SignKind = λ key. record { algorithm = 1; key_bits = key.bits } in ap kind c.self.view_is
