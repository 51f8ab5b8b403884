use Rattle.law_member_roots.proofs.RunLemmas.{Laws, runs}
use Rattle.law_member_roots.proofs.laws.a_member_with_its_due_pushes_has_the_traffic_key.Goals as goal

pub returns : goal.returns
returns g c signer verifier depth epoch spi list m pairs store after datagrams is_group checks are members has run =
    let laws : Laws g.G.Signer signer g.V.Verifier verifier depth spi list m = record {
      holders_stay = c.first_epochs_stay.ensures.holders;
      stays = c.a_refusal_changes_nothing.ensures verifier;
      membership = λ now pair from next result at root member number step.
          c.a_due_push_is_taken.ensures.membership signer verifier depth now spi list m pair from next result is_group checks at root member number step;
      traffic = λ now pair from next result at root number step.
          c.a_due_push_is_taken.ensures.traffic signer verifier depth now spi list m pair from next result is_group checks at root number step;
    } in
    (runs g.G.Signer signer g.V.Verifier verifier depth spi list m laws after datagrams).0 pairs epoch store are members has run
