use Rattle.std.proofs.Common.{◌^◌, ap, ◌∙◌}
use Rattle.std.proofs.lemmas.List.{length-take-le}
use Rattle.big_mod.specs.Numbers.{number_of, octets_of}
use Rattle.rsa_sign.proofs.MessageLemmas.{front_of}
use Rattle.rsa_sign.proofs.LawLemmas.{small_left}
use Rattle.rsa_sign.proofs.signers.widened.Goals as goal

pub returns : goal.returns
returns c =
    ap number_of (front_of (λ n. octets_of n (number_of c.args.octets.now)) c.args.size _ _ _ c.write_number.ensures
    (length-take-le c.args.size _ c.requires.few) (c.a_number_has_its_octets.ensures.len c.args.size _)) ∙
    c.a_number_has_its_octets.ensures.is c.args.size (number_of c.args.octets.now) ∙
    small_left (number_of c.args.octets.now) (256 ^ c.args.size) c.requires.room
