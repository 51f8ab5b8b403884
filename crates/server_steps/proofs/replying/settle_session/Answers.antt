use Rattle.std.proofs.Common.{◌∙◌, sym}
use Rattle.server_steps.proofs.SessionLemmas.{queued_not, queued_there, settled_not, settled_there}
use Rattle.server_steps.proofs.replying.settle_session.Goals as goal

pub settle-requires-clause-queued : goal.settle-requires-clause-queued
settle-requires-clause-queued c =
    queued_there c.args.sessions.now.sas c.args.member.now c.held_third.result c.held_third.ensures (sym c.is_some.ensures ∙ c.if-is_some.true)

pub returns-then-is_some : goal.returns-then-is_some
returns-then-is_some c =
    settled_there c.args.sessions.now c.args.member.now c.args.answer c.prove_sound.ensures.apart c.settle.new.self
    (queued_there c.args.sessions.now.sas c.args.member.now c.held_third.result c.held_third.ensures (sym c.is_some.ensures ∙ c.if-is_some.true))
    c.settle.ensures

pub returns-else-is_some : goal.returns-else-is_some
returns-else-is_some c =
    settled_not c.args.sessions.now c.args.member.now c.args.answer c.prove_sound.ensures.apart
    (queued_not c.args.sessions.now.sas c.args.member.now c.held_third.result c.held_third.ensures (sym c.is_some.ensures ∙ c.if-is_some.false))
