use Rattle.std.proofs.Common.{◌≡◌, false, subst, sym, ◌∙◌}
use Rattle.rsa_sign.specs.Keys.{KeyPair}
use Rattle.rsa_sign.specs.Signatures.{is_tried}
use Rattle.rsa_sign.proofs.signers.RsaSigner.new.Goals as goal

pub returns-then-signs-clause-tried : goal.returns-then-signs-clause-tried
returns-then-signs-clause-tried c = sym c.signs.ensures ∙ c.if-signs.true

pub returns-else-signs-clause-err : goal.returns-else-signs-clause-err
returns-else-signs-clause-err c =
    subst (λ (pair : KeyPair). is_tried pair ≡ false) c.in-Some.ensures (sym c.signs.ensures ∙ c.if-signs.false)
