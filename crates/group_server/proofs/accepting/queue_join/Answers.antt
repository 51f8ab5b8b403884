use Rattle.std.proofs.Common.{◌∙◌, refl}
use Rattle.pull_sessions.specs.Builds.{session_after_third}
use Rattle.pull_sessions.specs.Sessions.{with_session}
use Rattle.pull_sessions.specs.declared.answers.Kept.TheVariants as kept
use Rattle.server_steps.specs.Views.{server_of}
use Rattle.group_server.specs.Private.Accepted.{AcceptsJoin}
use Rattle.group_server.proofs.AcceptLemmas.{out_join, queued}
use Rattle.group_server.proofs.SoundLemmas.{answered, joined_sound, not_refused, queue_more}
use Rattle.group_server.proofs.accepting.queue_join.Goals as goal

pub returns-in_err-last-clause-accepts : goal.returns-in_err-last-clause-accepts
returns-in_err-last-clause-accepts g c rules =
    let view = server_of c.args.core.now rules c.args.sessions.now in
    answered (λ answer. AcceptsJoin g.D.Disk g.G.Signer g.R.Draws c.args.member.now c.args.third c.args.datagram.now answer view view) _ c.from_residual.ensures.1
    (out_join g.D.Disk g.G.Signer g.R.Draws view c.args.member.now c.args.third c.args.datagram.now view refl)

pub returns-in_err-join-clause-accepts : goal.returns-in_err-join-clause-accepts
returns-in_err-join-clause-accepts g c rules =
    let some = c.prove_at_rest.ensures.some in
    absurd (not_refused some.1 c.join.new.self c.args.member.now c.in_err-join.field-0.0 c.requires.granted (c.in_err-join.ensures.step some.0 some.1))

pub returns-in_err-join-clause-sound : goal.returns-in_err-join-clause-sound
returns-in_err-join-clause-sound g c sound =
    let some = c.prove_at_rest.ensures.some in
    absurd (not_refused some.1 c.join.new.self c.args.member.now c.in_err-join.field-0.0 c.requires.granted (c.in_err-join.ensures.step some.0 some.1))

pub returns-clause-accepts : goal.returns-clause-accepts
returns-clause-accepts g c rules =
    let third = c.requires.third in
    queued g.D.Disk g.G.Signer g.R.Draws (server_of c.args.core.now rules c.args.sessions.now) c.args.member.now c.args.third c.args.datagram.now
    (server_of c.join.new.self rules c.hold_third.new.self) third.sa third.session third.has c.join.ensures.rest c.in_ok-join.ensures.step refl
    (c.hold_third.ensures third.sa third.session third.has
    ∙ (λ i. with_session c.args.sessions.now c.args.member.now (session_after_third third.session c.args.third (c.in_ok-last.ensures i) kept.Queued)))

pub returns-clause-sound : goal.returns-clause-sound
returns-clause-sound g c sound =
    let some = c.prove_at_rest.ensures.some in
    let third = c.requires.third in
    joined_sound c.args.member.now c.args.sessions.now c.hold_third.new.self c.args.core.now.queue c.join.new.self.queue third.sa third.session c.args.third
    c.in_ok-last.last third.has (queue_more some.1 c.join.new.self c.args.member.now (c.in_ok-join.ensures.step some.0 some.1))
    (c.hold_third.ensures third.sa third.session third.has) sound
