use Rattle.std.proofs.Common.{◌∷◌, ◌++◌, ap, ◌∙◌, length, length-append, arith}
use Rattle.rsa_sign.specs.Messages.{digest_name}
use Rattle.rsa_sign.proofs.MessageLemmas.{last_is}
use Rattle.rsa_sign.proofs.encodings.last_octets.Goals as goal

pub returns-clause-len : goal.returns-clause-len
returns-clause-len c =
    ap length (last_is _ _ c.copy_from_slice.ensures.after ∙ ap (λ xs. 0 ∷ (digest_name ++ xs)) c.copy_from_slice-2.ensures.after) ∙
    omega (arith, length-append digest_name c.args.digest.now, c.told-digest)

pub returns-clause-is : goal.returns-clause-is
returns-clause-is c = last_is _ _ c.copy_from_slice.ensures.after ∙ ap (λ xs. 0 ∷ (digest_name ++ xs)) c.copy_from_slice-2.ensures.after
