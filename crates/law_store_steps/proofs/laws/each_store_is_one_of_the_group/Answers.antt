use Rattle.std.proofs.Common.{◌+◌, inl, inr}
use Rattle.std.proofs.lemmas.List.Elements.{All-weaker}
use Rattle.group_steps.specs.Devices.{devices}
use Rattle.law_member_roots.specs.Roots.{IsStoreOf}
use Rattle.member_store.specs.Stores.{store_of as store_made}
use Rattle.law_store_steps.specs.Stores.{IsPeerOf}
use Rattle.law_store_steps.proofs.HistoryLemmas.{stores_after}
use Rattle.law_store_steps.proofs.OpenedLemmas.{keyed_or_bare}
use Rattle.law_store_steps.proofs.PeerLemmas.{Holds, no_store}
use Rattle.law_store_steps.proofs.laws.each_store_is_one_of_the_group.Goals as goal

pub returns : goal.returns
returns g c verifier by entries after history checks apart =
    let on = devices g.D.Disk g.G.Signer g.V.Verifier verifier in
    let depth = after.host.server.depth in
    let spi = after.host.head.spi in
    let list = after.host.server.list in
    let pushes = c.a_sent_push_leaves_a_store_of_its_group.ensures in
    let fits = c.a_pull_always_fits.ensures in
    let takes = c.a_pull_takes_messages_as_they_were_written.ensures in
    elim (keyed_or_bare on by (c.an_opened_group_has_keys.ensures verifier by) history.outset entries after history.history) [
      | inl group ↦ stores_after on by (c.each_step_is_of_a_kind.ensures verifier by) after
          (record {
            reply = λ epoch m told early member is.
                c.a_store_at_a_root_has_its_epoch.ensures.of_group depth epoch spi list m (store_made told)
                (c.a_reply_is_at_its_root.ensures depth epoch spi list m told group early member is).1;
            membership = λ sent m pair store next result at is step.
                pushes.membership by.signer verifier depth sent spi list m pair store next result group checks at (apart.membership sent pair at) is step;
            traffic = λ sent m pair store next result at is step.
                pushes.traffic by.signer verifier depth (sent + 1) spi list m pair store next result group checks at
                (apart.traffic (sent + 1) pair at) is step;
          })
          (c.each_moment_ends_a_history.ensures verifier by) (c.an_opened_group_has_keys.ensures verifier by) (c.mail_is_of_the_group.ensures.mail verifier by)
          (record {
            pulls = record { begun = fits.begun; second = fits.second; fourth = fits.fourth };
            as_written = takes.fourth;
            no_second = takes.second_as_fourth;
            reply = c.a_reply_is_at_its_root.ensures;
            written = c.a_reply_can_be_written.ensures;
          })
          entries history
      | inr bare ↦ All-weaker (Holds (λ m store. ⊥)) (IsPeerOf depth spi list)
          (λ peer none. no_store (IsStoreOf depth spi list peer.phase.member) peer.store none) after.members.all bare.stores
    ]
