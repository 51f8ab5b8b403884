use Rattle.std.proofs.Common.{sym, ap, ◌∙◌}
use Rattle.rsa_sign.specs.Keys.{KeyPair}
use Rattle.rsa_sign.proofs.KeyLemmas.{same_key}
use Rattle.rsa_sign.proofs.keys.key_of.Goals as goal

pub returns-in-Ok-clause-verifier : goal.returns-in-Ok-clause-verifier
returns-in-Ok-clause-verifier c =
    same_key c.in_ok-verifier.verifier c.in_ok-same.same c.prove_public_key.ensures c.prove_public_key-2.ensures
    (c.in_ok-verifier.ensures.ok.0 ∙ sym c.in_ok-same.ensures.ok.0) (c.in_ok-verifier.ensures.ok.1 ∙ sym c.in_ok-same.ensures.ok.1) ∙
    sym (ap (λ (pair : KeyPair). pair.public) c.in-Ok.ensures.ok)
