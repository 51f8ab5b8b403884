use Rattle.server_steps.proofs.SessionLemmas.{fourth_sent, has_session, nothing_sent}
use Rattle.server_steps.proofs.replying.datagram_to.Goals as goal

pub build_fourth-requires : goal.build_fourth-requires
build_fourth-requires c = has_session c.args.sessions.now.sas c.args.member.now c.in-Some.third c.in-Some.ensures

pub returns-in-Some : goal.returns-in-Some
returns-in-Some c =
    fourth_sent c.args.sessions.now.sas c.args.member.now c.args.keyed.now c.in-Some.third c.build_fourth.result c.in-Some.ensures c.build_fourth.ensures

pub returns-in-None : goal.returns-in-None
returns-in-None c = nothing_sent c.args.sessions.now.sas c.args.member.now c.args.keyed.now c.new.result c.new.ensures c.in-None.ensures
