use Rattle.std.proofs.Common.{◌∙◌, sym}
use Rattle.group_steps.specs.Devices.{devices}
use Rattle.law_store_steps.proofs.ActLemmas.{stay}
use Rattle.law_store_steps.proofs.MailLemmas.{tells}
use Rattle.law_store_steps.proofs.OpenedLemmas.{keyed_told}
use Rattle.law_store_steps.proofs.ReplyLemmas.{takes_or_loses}
use Rattle.law_store_steps.proofs.laws.a_reply_is_kept_in_a_history.Goals as goal

pub returns : goal.returns
returns g c verifier by outset before run m answer outside next history ours step =
    let on = devices g.D.Disk g.G.Signer g.V.Verifier verifier in
    let depth = run.host.server.depth in
    let spi = run.host.head.spi in
    let list = run.host.server.list in
    let have = c.an_opened_group_has_keys.ensures verifier by in
    let fits = c.a_pull_always_fits.ensures in
    let takes = c.a_pull_takes_messages_as_they_were_written.ensures in
    takes_or_loses (g.G.Signer.kind_of by.signer) run step.acted (stay by.members_block by.group run.members step.acted step.acts) m answer next
    (λ fourth.
    let told =
    tells
    (record {
      pulls = record { begun = fits.begun; second = fits.second; fourth = fits.fourth };
      as_written = takes.fourth;
      no_second = takes.second_as_fourth;
      reply = c.a_reply_is_at_its_root.ensures;
      written = c.a_reply_can_be_written.ensures;
    })
    on by have (c.mail_is_of_the_group.ensures.mail verifier by) outset before run step.acted m answer next.members history step.acts fourth in
    let is = told.1 in
    let group = keyed_told on by have outset before run history (m, fourth.datagram) told.0 in
    let reply = c.a_reply_is_at_its_root.ensures depth is.says.keyed_epoch spi list m fourth.keyed group is.early is.member is.keys in (
      told.0,
      (
        is,
        reply.1,
        reply.2 ∙ sym is.number,
        λ store had later.
            c.a_later_reply_is_not_older.ensures depth is.says.keyed_epoch spi list m fourth.keyed store (ours store had) is.early later is.keys,
      ),
    ))
    step.answered.answered.acted
