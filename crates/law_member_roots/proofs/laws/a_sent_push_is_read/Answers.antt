use Rattle.law_member_roots.proofs.SentReadLemmas.{ReadLaws, membership_header, membership_is_read, traffic_header, traffic_is_read}
use Rattle.law_member_roots.proofs.laws.a_sent_push_is_read.Goals as goal

pub returns : goal.returns
returns g c =
    let laws : ReadLaws = record {
      holders_stay = c.first_epochs_stay.ensures.holders;
      changes_stay = c.first_epochs_stay.ensures.last_changes;
      ways = c.each_law_holds.ensures;
      opens_again = c.open_undoes_seal.ensures;
      are_octets = c.written_texts_are_octets.ensures.updates;
      have_size = c.written_texts_have_their_size.ensures.updates;
      are_sealed = c.texts_of_jobs_are_sealed.ensures;
      are_updates = c.jobs_of_a_push_are_updates.ensures;
      membership = c.a_written_push_is_read.ensures.membership;
      traffic = c.a_written_push_is_read.ensures.traffic;
    } in
    record {
      membership = λ signer verifier depth sent spi list pair.
          membership_is_read laws g.G.Signer signer depth spi list pair g.V.Verifier verifier sent;
      traffic = λ signer verifier depth epoch spi list pair. traffic_is_read laws g.G.Signer signer depth spi list pair g.V.Verifier verifier epoch;
      membership_header = λ signer depth sent spi list pair. membership_header laws g.G.Signer signer depth spi list pair sent;
      traffic_header = λ signer depth epoch spi list pair. traffic_header laws g.G.Signer signer depth spi list pair epoch;
    }
