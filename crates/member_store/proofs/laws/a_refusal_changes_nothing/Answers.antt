use Rattle.member_store.proofs.AnswerLemmas.{refusal_stays}
use Rattle.member_store.proofs.laws.a_refusal_changes_nothing.Goals as goal

pub returns : goal.returns
returns g c verifier store next datagram why step = refusal_stays g.V.Verifier verifier store next datagram why step
