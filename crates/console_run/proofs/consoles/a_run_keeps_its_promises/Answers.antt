use Rattle.std.proofs.Common.{[]}
use Rattle.group_steps.specs.Devices.{devices}
use Rattle.group_steps.specs.Runs.{outset_of}
use Rattle.group_steps.specs.TrueSteps.{batches_in}
use Rattle.console_run.specs.Names.{console_name}
use Rattle.console_run.specs.Promises.{most_phases, request_of, start_of, streams_of}
use Rattle.console_run.proofs.FourthLemmas.{takes_own_fourths}
use Rattle.console_run.proofs.PromiseLemmas.{leaves_moments, opens_group, ran_history, ran_whole}
use Rattle.console_run.proofs.ServeLemmas.{few_at, history_at, serves_along, true_at, valid_at}
use Rattle.console_run.proofs.StoreLemmas.{keeps_replies, stores_follow}
use Rattle.console_run.proofs.consoles.a_run_keeps_its_promises.Goals as goal

pub returns : goal.returns
returns g c verifier by command place members_place had left was now ending entries old new ran =
    let on = devices g.D.Disk g.G.Signer g.V.Verifier verifier in
    let start = start_of command old place members_place in
    let outset = outset_of old console_name command.limit place members_place most_phases in
    let streams = streams_of ran.given had left was now in
    let has_run = ran_history on by command.workers (request_of command.opening) start (opens_group command.opening) streams ending entries ran.after ran.run in
    let history = has_run.history in
    let lists = c.a_history_leaves_a_valid_list.ensures.valid verifier by in
    let ends = c.each_moment_ends_a_history.ensures verifier by in
    let sure = c.a_group_grows_by_what_is_sent.ensures.sure verifier by in
    let valid = valid_at on by ends lists outset entries ran.after history in
    let counted = c.faults_are_counted.ensures.counted verifier by [] start entries ran.after history.steps in record {
      after = ran.after;
      disk = ran.left_disk;
      run = ran.run;
      complete = λ can.
          ran_whole on by c.a_file_has_one_group.ensures.or_none streams command place members_place old new entries ran.after ran.left_disk
          ran.came can
          ending ran.run;
      history = history;
      memory = has_run.memory;
      valid = valid;
      secrecy = λ front mid moment. c.no_others_derive.ensures.traffic mid.host.server.depth (batches_in mid);
      to_come = λ front mid moment. c.no_others_derive.ensures.to_come mid.host.server.depth (batches_in mid);
      members = λ front mid moment deep. c.members_derive.ensures mid.host.server.depth (batches_in mid) deep (valid front mid moment);
      few_wraps = few_at on by ends lists outset entries ran.after history c.a_batch_encrypts_few.ensures.few;
      sure = true_at on by ends lists outset entries ran.after history sure;
      serves = serves_along on by ends lists outset entries ran.after history
          (c.a_group_grows_by_what_is_sent.ensures.grows verifier by) c.a_history_serves_its_members.ensures.serves sure
          c.a_history_serves_its_members.ensures.earlier;
      pulls = λ front mid m datagram octets names outside next moment step.
          c.mail_is_of_the_group.ensures.answers verifier by outset front mid m datagram octets names outside next
          (history_at on by ends lists outset entries ran.after history front mid moment) step;
      batch_replies = λ front mid output outside next moment step.
          c.mail_is_of_the_group.ensures.replies verifier by outset front mid output outside next
          (history_at on by ends lists outset entries ran.after history front mid moment) step;
      sessions_keep = λ front mid moment.
          c.mail_is_of_the_group.ensures.kept verifier by outset front mid
          (history_at on by ends lists outset entries ran.after history front mid moment);
      mail = λ front mid moment.
          c.mail_is_of_the_group.ensures.mail verifier by outset front mid
          (history_at on by ends lists outset entries ran.after history front mid moment);
      replies = keeps_replies on by ends outset entries ran.after history
          (c.a_reply_is_kept_in_a_history.ensures verifier by);
      own_fourths = takes_own_fourths on by ends outset entries ran.after history
          (c.an_own_fourth_message_is_taken_in_a_history.ensures verifier by);
      stores = stores_follow on by ends outset entries ran.after history
          (c.a_due_push_is_taken_in_a_history.ensures.membership verifier by)
          (c.a_due_push_is_taken_in_a_history.ensures.traffic verifier by)
          (c.any_other_push_is_refused_in_a_history.ensures verifier by)
          (c.each_store_is_one_of_the_group.ensures verifier by);
      crash = leaves_moments on by (c.a_crash_leaves_a_moment_of_the_history.ensures.opened verifier by)
          (c.a_crash_leaves_a_moment_of_the_history.ensures.crashes verifier by) start entries ran.after history;
      faults = rw (← ran.left_disk) counted;
    }
