use Rattle.rsa_sign.proofs.LawLemmas.{signed_is_accepted}
use Rattle.rsa_sign.proofs.laws.signatures_are_accepted.Goals as goal

pub returns : goal.returns
returns c = λ pair key undo digest small short.
    signed_is_accepted pair key undo digest small short record {
      number = c.a_number_has_its_octets.ensures.is;
      len = c.a_number_has_its_octets.ensures.len;
      are = c.octets_have_their_number.ensures.are;
      room = c.octets_have_their_number.ensures.room;
    }
