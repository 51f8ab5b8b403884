use Rattle.std.proofs.Common.{inl}
use Rattle.member_store.proofs.CauseLemmas.{bad_signature, malformed, no_path, other_spi, stale, taken}
use Rattle.member_store.proofs.laws.each_cause_has_its_refusal.Goals as goal

pub returns-clause-header : goal.returns-clause-header
returns-clause-header g c verifier store next datagram fault result step bad =
    malformed c.a_text_is_opened_in_one_way.ensures g.V.Verifier verifier store next datagram result step fault (inl bad)

pub returns-clause-other_spi : goal.returns-clause-other_spi
returns-clause-other_spi g c verifier store next datagram head result step is other =
    other_spi c.a_text_is_opened_in_one_way.ensures g.V.Verifier verifier store next datagram result step head is other

pub returns-clause-malformed : goal.returns-clause-malformed
returns-clause-malformed g c verifier store next datagram fault result step has =
    malformed c.a_text_is_opened_in_one_way.ensures g.V.Verifier verifier store next datagram result step fault has

pub returns-clause-bad_signature : goal.returns-clause-bad_signature
returns-clause-bad_signature g c verifier store next datagram read result step reads unsigned =
    bad_signature c.a_text_is_opened_in_one_way.ensures g.V.Verifier verifier store next datagram result step read reads unsigned

pub returns-clause-stale : goal.returns-clause-stale
returns-clause-stale g c verifier store next datagram read result step reads signed low =
    stale c.a_text_is_opened_in_one_way.ensures g.V.Verifier verifier store next datagram result step read reads signed low

pub returns-clause-taken : goal.returns-clause-taken
returns-clause-taken g c verifier store next datagram read result step reads signed greater =
    taken c.a_text_is_opened_in_one_way.ensures g.V.Verifier verifier store next datagram result step read reads signed greater

pub returns-clause-no_path : goal.returns-clause-no_path
returns-clause-no_path g c verifier store next datagram read made span all result step reads signed greater body takes none =
    no_path c.a_text_is_opened_in_one_way.ensures g.V.Verifier verifier store next datagram result step read reads signed greater made span all body takes none
