use Rattle.std.proofs.Common.{◌+◌, refl}
use Rattle.group_steps.specs.Devices.{devices}
use Rattle.member_store.specs.Stores.{root_epoch}
use Rattle.law_store_steps.specs.Follow.{number_at}
use Rattle.law_store_steps.proofs.GivenLemmas.{known}
use Rattle.law_store_steps.proofs.TakenLemmas.{takes_root, takes_traffic}
use Rattle.law_store_steps.proofs.laws.a_due_push_is_taken_in_a_history.Goals as goal

pub returns-clause-membership : goal.returns-clause-membership
returns-clause-membership g c verifier by before run m store answer next checks due stays =
    let depth = run.host.server.depth in
    let spi = run.host.head.spi in
    let list = run.host.server.list in
    let epoch = root_epoch store in
    let number = number_at run epoch + 1 in
    let taken = c.a_due_push_is_taken.ensures in
    let is =
    known (devices g.D.Disk g.G.Signer g.V.Verifier verifier) by (c.each_step_is_of_a_kind.ensures verifier by)
    (c.an_opened_group_has_keys.ensures verifier by) before run m store number answer next due in
    takes_root c.first_epochs_stay.ensures.holders g.G.Signer by.signer g.V.Verifier verifier run m store number answer next is
    (λ pair now result at stays less step.
    let ours = taken.goes_on by.signer verifier depth spi list m pair store now result is.group checks at is.is stays step in
    let led = taken.membership by.signer verifier depth epoch spi list m pair store now result is.group checks at is.is.root stays less step in
    (ours.0, ours.1, c.a_store_at_a_root_has_its_epoch.ensures.epoch depth (epoch + 1) spi list m now led.1))
    refl stays

pub returns-clause-traffic : goal.returns-clause-traffic
returns-clause-traffic g c verifier by before run m store answer next checks due stayed less =
    let epoch = root_epoch store in
    let number = number_at run epoch in
    let is =
    known (devices g.D.Disk g.G.Signer g.V.Verifier verifier) by (c.each_step_is_of_a_kind.ensures verifier by)
    (c.an_opened_group_has_keys.ensures verifier by) before run m store number answer next due in
    takes_traffic c.first_epochs_stay.ensures.holders g.G.Signer by.signer g.V.Verifier verifier run m store number answer next is
    (λ pair now result at less step.
    c.a_due_push_is_taken.ensures.traffic by.signer verifier run.host.server.depth epoch run.host.head.spi run.host.server.list m pair store now result is.group
    checks at is.is.root less step)
    refl stayed less
