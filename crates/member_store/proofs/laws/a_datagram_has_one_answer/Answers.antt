use Rattle.member_store.proofs.AnswerLemmas.{one_answer}
use Rattle.member_store.proofs.laws.a_datagram_has_one_answer.Goals as goal

pub returns : goal.returns
returns g c verifier store next other_next datagram result other step again =
    one_answer c.a_text_is_opened_in_one_way.ensures store next other_next result other g.V.Verifier verifier datagram step again
