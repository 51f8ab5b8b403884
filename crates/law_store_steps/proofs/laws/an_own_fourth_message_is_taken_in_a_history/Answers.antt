use Rattle.group_steps.specs.Devices.{devices}
use Rattle.law_store_steps.proofs.FourthLemmas.{own_fourths}
use Rattle.law_store_steps.proofs.laws.an_own_fourth_message_is_taken_in_a_history.Goals as goal

pub returns : goal.returns
returns g c verifier by =
    let fits = c.a_pull_always_fits.ensures in
    let takes = c.a_pull_takes_messages_as_they_were_written.ensures in
    own_fourths
    (record {
      tells = record {
        pulls = record { begun = fits.begun; second = fits.second; fourth = fits.fourth };
        as_written = takes.fourth;
        no_second = takes.second_as_fourth;
        reply = c.a_reply_is_at_its_root.ensures;
        written = c.a_reply_can_be_written.ensures;
      };
      taken = c.a_pull_gives_the_keys.ensures.fourth;
      ends = c.a_pull_gives_the_keys.ensures.ends;
      fresh = c.a_later_reply_is_not_older.ensures;
    })
    (devices g.D.Disk g.G.Signer g.V.Verifier verifier) by (c.an_opened_group_has_keys.ensures verifier by)
    (c.mail_is_of_the_group.ensures.mail verifier by) (c.mail_is_of_the_group.ensures.kept verifier by)
