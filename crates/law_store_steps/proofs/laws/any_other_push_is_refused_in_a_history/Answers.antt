use Rattle.std.proofs.Common.{◌+◌}
use Rattle.group_steps.specs.Devices.{devices}
use Rattle.member_store.specs.Stores.{root_epoch}
use Rattle.law_store_steps.proofs.GivenLemmas.{known}
use Rattle.law_store_steps.proofs.TakenLemmas.{refuses}
use Rattle.law_store_steps.proofs.laws.any_other_push_is_refused_in_a_history.Goals as goal

pub returns : goal.returns
returns g c verifier by before run m store number answer next checks apart due gone accepted =
    let depth = run.host.server.depth in
    let spi = run.host.head.spi in
    let list = run.host.server.list in
    let epoch = root_epoch store in
    let is =
    known (devices g.D.Disk g.G.Signer g.V.Verifier verifier) by (c.each_step_is_of_a_kind.ensures verifier by)
    (c.an_opened_group_has_keys.ensures verifier by) before run m store number answer next due in
    let under = c.a_push_under_another_root_is_malformed.ensures in
    refuses c.first_epochs_stay.ensures.holders g.G.Signer by.signer g.V.Verifier verifier run m store number answer next is
    (record {
      left = λ pair now result at left less step.
          c.a_member_that_left_finds_no_path.ensures by.signer verifier depth epoch spi list m pair store now result is.group checks at is.is.root
          left less step;
      again = λ pair now result at few step.
          c.a_repeated_push_is_stale.ensures.traffic by.signer verifier depth epoch spi list m pair store now result is.group checks at is.is.root
          few step;
      other_membership = λ sent pair now result at other step.
          under.membership by.signer verifier depth epoch sent spi list m pair store now result is.group at
          (apart.membership sent pair at) is.is.root other step;
      other_traffic = λ sent pair now result at other step.
          under.traffic by.signer verifier depth epoch (sent + 1) spi list m pair store now result is.group at
          (apart.traffic (sent + 1) pair at) is.is.root other step;
    })
    gone accepted
