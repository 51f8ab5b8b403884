use Rattle.std.proofs.Common.{◌∙◌, refl, sym, subst}
use Rattle.group_model.specs.declared.entries.Answer.TheVariants.{Refused}
use Rattle.group_model.specs.declared.entries.Asked.TheVariants.{Serve}
use Rattle.pull_sessions.specs.declared.answers.LookedAt.TheVariants.{NewFirst, NextThird, Repeat}
use Rattle.server_steps.specs.Serves.{Serves}
use Rattle.server_steps.specs.Views.{server_of}
use Rattle.group_server.proofs.JudgeLemmas.{granted_of, idle_of}
use Rattle.group_server.proofs.ServeLemmas.{accepted_first, accepted_join, accepted_member, again, found, refused_first, refused_look, refused_third, stopped}
use Rattle.group_server.proofs.answering.answer.Goals as goal

-- ---- not open, nothing found, or the same again

pub returns-then-needs_reopen-clause-serves : goal.returns-then-needs_reopen-clause-serves
returns-then-needs_reopen-clause-serves g c asker =
    stopped g.D.Disk g.G.Signer g.R.Draws asker c.args.datagram.now (server_of c.args.core.now c.args.rules.now c.args.sessions.now)
    (sym c.needs_reopen.ensures ∙ c.if-needs_reopen.true)

pub returns-then-needs_reopen-clause-sound : goal.returns-then-needs_reopen-clause-sound
returns-then-needs_reopen-clause-sound g c sound = sound

pub returns-in-Err-clause-serves : goal.returns-in-Err-clause-serves
returns-in-Err-clause-serves g c asker =
    let view = server_of c.args.core.now c.args.rules.now c.args.sessions.now in
    subst (λ why. Serves g.D.Disk g.G.Signer g.R.Draws (Serve asker c.args.datagram.now) (Refused why) view view) (sym c.refusal_of.ensures)
    (refused_look g.D.Disk g.G.Signer g.R.Draws asker c.args.datagram.now view c.in-Err.why (sym c.needs_reopen.ensures ∙ c.if-needs_reopen.false)
    c.in-Err.ensures)

pub returns-in-Err-clause-sound : goal.returns-in-Err-clause-sound
returns-in-Err-clause-sound g c sound = sound

pub returns-in-Repeat-clause-serves : goal.returns-in-Repeat-clause-serves
returns-in-Repeat-clause-serves g c asker =
    let view = server_of c.args.core.now c.args.rules.now c.args.sessions.now in
    let looked = c.in-Ok.looked in
    subst (λ answer. Serves g.D.Disk g.G.Signer g.R.Draws (Serve asker c.args.datagram.now) answer view view) (sym c.reply_of.ensures)
    (again g.D.Disk g.G.Signer g.R.Draws asker c.args.datagram.now view looked.member c.in-Repeat.kept (sym c.needs_reopen.ensures ∙ c.if-needs_reopen.false)
    (found view.sessions.sas c.args.datagram.now looked (Repeat c.in-Repeat.kept) c.in-Repeat.is c.in-Ok.ensures))

pub returns-in-Repeat-clause-sound : goal.returns-in-Repeat-clause-sound
returns-in-Repeat-clause-sound g c sound = sound

-- ---- a first message

pub returns-in-Some-clause-serves : goal.returns-in-Some-clause-serves
returns-in-Some-clause-serves g c asker =
    let view = server_of c.args.core.now c.args.rules.now c.args.sessions.now in
    let looked = c.in-Ok.looked in
    let first = c.in-NewFirst.first in
    let look = found view.sessions.sas c.args.datagram.now looked (NewFirst first) c.in-NewFirst.is c.in-Ok.ensures in
    refused_first g.D.Disk g.G.Signer g.R.Draws asker c.args.datagram.now view looked.member (sym c.needs_reopen.ensures ∙ c.if-needs_reopen.false) first look
    _ c.in-Some.ensures c.in-Some.why refl

pub returns-in-Some-clause-sound : goal.returns-in-Some-clause-sound
returns-in-Some-clause-sound g c sound = sound

pub begin_session-requires : goal.begin_session-requires
begin_session-requires g c =
    let view = server_of c.args.core.now c.args.rules.now c.args.sessions.now in
    let looked = c.in-Ok.looked in
    let first = c.in-NewFirst.first in
    let look = found view.sessions.sas c.args.datagram.now looked (NewFirst first) c.in-NewFirst.is c.in-Ok.ensures in
    c.what_is_found_can_be_held.ensures.first view.sessions.sas looked.member c.args.datagram.now first c.prove_sound.ensures.apart look

pub returns-in-None-clause-serves : goal.returns-in-None-clause-serves
returns-in-None-clause-serves g c asker =
    let view = server_of c.args.core.now c.args.rules.now c.args.sessions.now in
    let looked = c.in-Ok.looked in
    let first = c.in-NewFirst.first in
    let look = found view.sessions.sas c.args.datagram.now looked (NewFirst first) c.in-NewFirst.is c.in-Ok.ensures in
    accepted_first g.D.Disk g.G.Signer g.R.Draws asker c.args.datagram.now view looked.member (sym c.needs_reopen.ensures ∙ c.if-needs_reopen.false) first look
    _ c.in-None.ensures (server_of c.begin_session.new.core c.args.rules.now c.begin_session.new.sessions) _ refl
    (c.begin_session.ensures.accepts c.args.rules.now)

pub returns-in-None-clause-sound : goal.returns-in-None-clause-sound
returns-in-None-clause-sound g c =
    let core = c.args.core.now in
    let some = c.prove_at_rest.ensures.some in
    c.begin_session.ensures.sound
    (idle_of some.1 core.head.name c.args.rules.now c.in-Ok.looked.member c.in-NewFirst.first (sym (c.in-None.ensures some.0 some.1)))

-- ---- a third message

pub returns-in-Some-refusal_to_third-clause-serves : goal.returns-in-Some-refusal_to_third-clause-serves
returns-in-Some-refusal_to_third-clause-serves g c asker =
    let view = server_of c.args.core.now c.args.rules.now c.args.sessions.now in
    let looked = c.in-Ok.looked in
    let third = c.in-NextThird.third in
    let look = found view.sessions.sas c.args.datagram.now looked (NextThird third) c.in-NextThird.is c.in-Ok.ensures in
    refused_third g.D.Disk g.G.Signer g.R.Draws asker c.args.datagram.now view looked.member (sym c.needs_reopen.ensures ∙ c.if-needs_reopen.false) third look
    _ c.in-Some-refusal_to_third.ensures c.in-Some-refusal_to_third.why refl

pub returns-in-Some-refusal_to_third-clause-sound : goal.returns-in-Some-refusal_to_third-clause-sound
returns-in-Some-refusal_to_third-clause-sound g c sound = sound

pub reply_now-requires : goal.reply_now-requires
reply_now-requires g c =
    let view = server_of c.args.core.now c.args.rules.now c.args.sessions.now in
    let looked = c.in-Ok.looked in
    let third = c.in-NextThird.third in
    let look = found view.sessions.sas c.args.datagram.now looked (NextThird third) c.in-NextThird.is c.in-Ok.ensures in
    record {
      third = c.what_is_found_can_be_held.ensures.third view.sessions.sas looked.member c.args.datagram.now third c.prove_sound.ensures.apart look;
      member = sym c.is_member.ensures ∙ c.if-is_member.true;
      «open» = sym c.needs_reopen.ensures ∙ c.if-needs_reopen.false;
    }

pub returns-in-None-refusal_to_third-clause-serves : goal.returns-in-None-refusal_to_third-clause-serves
returns-in-None-refusal_to_third-clause-serves g c asker =
    let view = server_of c.args.core.now c.args.rules.now c.args.sessions.now in
    let looked = c.in-Ok.looked in
    let third = c.in-NextThird.third in
    let look = found view.sessions.sas c.args.datagram.now looked (NextThird third) c.in-NextThird.is c.in-Ok.ensures in
    accepted_member g.D.Disk g.G.Signer g.R.Draws asker c.args.datagram.now view looked.member (sym c.needs_reopen.ensures ∙ c.if-needs_reopen.false) third look
    _ c.in-None-refusal_to_third.ensures (server_of c.args.core.now c.args.rules.now c.reply_now.new.sessions) _ refl
    (sym c.is_member.ensures ∙ c.if-is_member.true) (c.reply_now.ensures.accepts c.args.rules.now)

pub returns-in-None-refusal_to_third-clause-sound : goal.returns-in-None-refusal_to_third-clause-sound
returns-in-None-refusal_to_third-clause-sound g c sound = λ n. c.reply_now.ensures.waits n ∙ sound n

pub queue_join-requires : goal.queue_join-requires
queue_join-requires g c =
    let view = server_of c.args.core.now c.args.rules.now c.args.sessions.now in
    let looked = c.in-Ok.looked in
    let third = c.in-NextThird.third in
    let look = found view.sessions.sas c.args.datagram.now looked (NextThird third) c.in-NextThird.is c.in-Ok.ensures in
    let some = c.prove_at_rest.ensures.some in
    let stranger = sym c.is_member.ensures ∙ c.if-is_member.false in
    record {
      third = c.what_is_found_can_be_held.ensures.third view.sessions.sas looked.member c.args.datagram.now third c.prove_sound.ensures.apart look;
      stranger = stranger;
      granted = granted_of some.1 c.args.rules.now looked.member (sym (c.in-None-refusal_to_third.ensures some.0 some.1)) stranger;
    }

pub returns-in-None-2-clause-serves : goal.returns-in-None-2-clause-serves
returns-in-None-2-clause-serves g c asker =
    let view = server_of c.args.core.now c.args.rules.now c.args.sessions.now in
    let looked = c.in-Ok.looked in
    let third = c.in-NextThird.third in
    let look = found view.sessions.sas c.args.datagram.now looked (NextThird third) c.in-NextThird.is c.in-Ok.ensures in
    accepted_join g.D.Disk g.G.Signer g.R.Draws asker c.args.datagram.now view looked.member (sym c.needs_reopen.ensures ∙ c.if-needs_reopen.false) third look
    _ c.in-None-refusal_to_third.ensures (server_of c.queue_join.new.core c.args.rules.now c.queue_join.new.sessions) _ refl
    (sym c.is_member.ensures ∙ c.if-is_member.false) (c.queue_join.ensures.accepts c.args.rules.now)

pub returns-in-None-2-clause-sound : goal.returns-in-None-2-clause-sound
returns-in-None-2-clause-sound g c = c.queue_join.ensures.sound
