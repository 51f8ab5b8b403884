use Rattle.std.proofs.Common.{◌∙◌, Some, refl}
use Rattle.pull_sessions.specs.Builds.{session_after_third}
use Rattle.pull_sessions.specs.Sessions.{with_session}
use Rattle.pull_sessions.specs.declared.answers.Kept.TheVariants as kept
use Rattle.server_steps.specs.Views.{server_of}
use Rattle.group_server.specs.Private.Accepted.{AcceptsMember}
use Rattle.group_server.proofs.AcceptLemmas.{out_member, replied}
use Rattle.group_server.proofs.SoundLemmas.{answered, has_session, replied_alike}
use Rattle.group_server.proofs.accepting.reply_now.Goals as goal

pub returns-in_err-last-clause-accepts : goal.returns-in_err-last-clause-accepts
returns-in_err-last-clause-accepts g c rules =
    let view = server_of c.args.core.now rules c.args.sessions.now in
    answered (λ answer. AcceptsMember g.D.Disk g.G.Signer g.R.Draws c.args.member.now c.args.third c.args.datagram.now answer view view) _ c.from_residual.ensures.1
    (out_member g.D.Disk g.G.Signer g.R.Draws view c.args.member.now c.args.third c.args.datagram.now view refl)

pub returns-in_err-last-clause-waits : goal.returns-in_err-last-clause-waits
returns-in_err-last-clause-waits g c n = refl

pub returns-in_err-keyed-clause-accepts : goal.returns-in_err-keyed-clause-accepts
returns-in_err-keyed-clause-accepts g c rules = absurd (c.in_err-keyed.ensures.«open» c.requires.«open»)

pub returns-in_err-keyed-clause-waits : goal.returns-in_err-keyed-clause-waits
returns-in_err-keyed-clause-waits g c n = refl

pub fourth_message-requires : goal.fourth_message-requires
fourth_message-requires g c = has_session c.requires.third.has

pub returns-in_err-fourth-clause-accepts : goal.returns-in_err-fourth-clause-accepts
returns-in_err-fourth-clause-accepts g c rules =
    let view = server_of c.args.core.now rules c.args.sessions.now in
    answered (λ answer. AcceptsMember g.D.Disk g.G.Signer g.R.Draws c.args.member.now c.args.third c.args.datagram.now answer view view) _
    c.from_residual-in_err-fourth.ensures.1
    (out_member g.D.Disk g.G.Signer g.R.Draws view c.args.member.now c.args.third c.args.datagram.now view refl)

pub returns-in_err-fourth-clause-waits : goal.returns-in_err-fourth-clause-waits
returns-in_err-fourth-clause-waits g c n = refl

pub returns-in_err-names-clause-accepts : goal.returns-in_err-names-clause-accepts
returns-in_err-names-clause-accepts g c rules =
    let view = server_of c.args.core.now rules c.args.sessions.now in
    answered (λ answer. AcceptsMember g.D.Disk g.G.Signer g.R.Draws c.args.member.now c.args.third c.args.datagram.now answer view view) _
    c.from_residual-in_err-names.ensures.1
    (out_member g.D.Disk g.G.Signer g.R.Draws view c.args.member.now c.args.third c.args.datagram.now view refl)

pub returns-in_err-names-clause-waits : goal.returns-in_err-names-clause-waits
returns-in_err-names-clause-waits g c n = refl

pub returns-in_err-again-clause-accepts : goal.returns-in_err-again-clause-accepts
returns-in_err-again-clause-accepts g c rules =
    let view = server_of c.args.core.now rules c.args.sessions.now in
    answered (λ answer. AcceptsMember g.D.Disk g.G.Signer g.R.Draws c.args.member.now c.args.third c.args.datagram.now answer view view) _
    c.from_residual-in_err-again.ensures.1
    (out_member g.D.Disk g.G.Signer g.R.Draws view c.args.member.now c.args.third c.args.datagram.now view refl)

pub returns-in_err-again-clause-waits : goal.returns-in_err-again-clause-waits
returns-in_err-again-clause-waits g c n = refl

pub returns-clause-accepts : goal.returns-clause-accepts
returns-clause-accepts g c rules =
    let view = server_of c.args.core.now rules c.args.sessions.now in
    let new = server_of c.args.core.now rules c.hold_third.new.self in
    let third = c.requires.third in
    let fourth = c.in_ok-fourth.fourth in
    let keys = c.in_ok-keyed.ensures.ok in
    let held = c.hold_third.ensures third.sa third.session third.has ∙ (λ i. with_session c.args.sessions.now c.args.member.now
    (session_after_third third.session c.args.third (c.in_ok-last.ensures i) (kept.Datagram (c.in_ok-fourth.ensures.same i) (Some (c.in_ok-again.ensures i))))) in
    replied g.D.Disk g.G.Signer g.R.Draws view c.args.member.now c.args.third c.args.datagram.now new third.sa third.session c.in_ok-keyed.keyed fourth.sent
    c.in_ok-names.names third.has keys (λ server stands. c.in_ok-names.ensures server.depth c.args.core.now.head.spi server.list (keys server stands))
    (c.in_ok-fourth.ensures.is third.sa third.session third.has) refl refl held

pub returns-clause-waits : goal.returns-clause-waits
returns-clause-waits g c =
    let third = c.requires.third in
    replied_alike c.args.member.now c.args.sessions.now c.hold_third.new.self third.sa third.session c.args.third c.in_ok-last.last
    (kept.Datagram c.in_ok-fourth.fourth.kept (Some c.in_ok-again.again)) third.has third.awaits (c.hold_third.ensures third.sa third.session third.has) refl
