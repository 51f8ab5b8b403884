use Rattle.std.proofs.Common.{◌%◌, ◌^◌, take}
use Rattle.std.proofs.lemmas.List.{length-take-le}
use Rattle.big_mod.specs.Numbers.{number_of, octets_of}
use Rattle.rsa_sign.proofs.MessageLemmas.{front_of}
use Rattle.rsa_sign.proofs.signers.signed.Goals as goal

pub returns : goal.returns
returns c =
    front_of (λ n. octets_of n (number_of (take c.args.size c.args.message.now) ^ number_of (take c.args.size c.args.private.now) % c.args.modulus.now)) c.args.size
    _ _ _ c.power.ensures (length-take-le c.args.size _ c.requires.few) (c.a_number_has_its_octets.ensures.len c.args.size _)
