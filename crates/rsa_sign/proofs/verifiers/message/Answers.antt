use Rattle.std.proofs.lemmas.List.{length-take-le}
use Rattle.std.proofs.Common.{◌<◌, subst, sym}
use Rattle.big_mod.specs.Numbers.{number_of}
use Rattle.rsa_sign.specs.Messages.{encoded}
use Rattle.rsa_sign.proofs.MessageLemmas.{front_of, length-encoded, message_below}
use Rattle.rsa_sign.proofs.verifiers.message.Goals as goal

pub returns-clause-is : goal.returns-clause-is
returns-clause-is c =
    front_of (λ n. encoded n c.args.digest.now) c.args.size _ _ _ c.encode.ensures (length-take-le c.args.size _ c.requires.few)
    (length-encoded c.args.size c.args.digest.now c.requires.long c.told-digest)

pub returns-clause-below : goal.returns-clause-below
returns-clause-below c = λ modulus least.
    let whole = front_of (λ n. encoded n c.args.digest.now) c.args.size _ _ _ c.encode.ensures (length-take-le c.args.size _ c.requires.few)
    (length-encoded c.args.size c.args.digest.now c.requires.long c.told-digest) in
    subst (λ octets. number_of octets < modulus) (sym whole)
    (message_below c.args.size modulus c.args.digest.now c.requires.long c.told-digest c.fits-digest c.octets_have_their_number.ensures.room least)
