use Rattle.server_steps.proofs.CreateLemmas.{creates, creates_not}
use Rattle.server_steps.proofs.BesideLemmas.{if_error}
use Rattle.server_steps.proofs.opening.create.Goals as goal

pub returns-clause-ok : goal.returns-clause-ok
returns-clause-ok g c phases =
    let made = c.in_ok-core.ensures in
    let need = c.requires in
    creates g.D.Disk g.R.Draws c.args.parts c.args.group.now need.shallow need.not_deep need.limited phases c.in_ok-core.core made.head
    (record { fits = c.prove_head_fits.ensures.fits; octets = c.prove_head_fits.ensures.octets }) made.server made.made made.durable made.moments
    (made.disk.no_fault (λ none. none)) made.disk.keeps
    made.signer made.blocks

pub returns-in_err-core-clause-err : goal.returns-in_err-core-clause-err
returns-in_err-core-clause-err g c =
    let not = c.in_err-core.ensures in
    let need = c.requires in
    if_error _ _ _ c.from_residual.ensures.1
    (λ phases. creates_not g.D.Disk g.R.Draws c.args.parts c.args.group.now need.shallow need.not_deep need.limited phases c.in_err-core.field-0.0.refusal
    c.in_err-core.field-0.0.parts not.disk.cause not.no_other not.untouched not.moments not.disk.keeps not.parts)

pub returns-clause-nothing_waits : goal.returns-clause-nothing_waits
returns-clause-nothing_waits g c = c.in_ok-core.ensures.server.queue
