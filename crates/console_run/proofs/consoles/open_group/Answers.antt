use Rattle.std.proofs.Common.{sym, subst}
use Rattle.std.specs.Prelude.{IfErr, IfOk}
use Rattle.command_words.specs.declared.commands.Opening.{Opening}
use Rattle.command_words.specs.declared.commands.Opening.TheVariants.{Open}
use Rattle.group_run.specs.Openings.{FailsToOpen, Opens}
use Rattle.group_steps.specs.Runs.{no_run, outset_of}
use Rattle.console_run.specs.Promises.{most_phases, request_of, start_of}
use Rattle.console_run.specs.Names.{console_name}
use Rattle.console_run.specs.Private.Openings.{step_of}
use Rattle.console_run.proofs.OpenedLemmas.{fails_for, opens_for}
use Rattle.console_run.proofs.consoles.open_group.Goals as goal

pub returns-in-New-clause-err : goal.returns-in-New-clause-err
returns-in-New-clause-err g c =
    subst (λ (opening : Opening). IfErr c.make_group.result (λ unopened. FailsToOpen g.D.Disk
    (step_of g.D.Disk g.G.Signer c.args.parts.signer (g.R.Draws.block_at c.args.parts.draws) opening) (request_of opening)
    (start_of c.args.command c.args.parts.disk (g.R.Draws.place_of c.args.parts.draws) c.args.members_place) unopened.history unopened.parts.disk))
    (sym c.in-New.is) c.make_group.ensures.err

pub returns-in-Soak-clause-err : goal.returns-in-Soak-clause-err
returns-in-Soak-clause-err g c =
    subst (λ (opening : Opening). IfErr c.make_group-in-Soak.result (λ unopened. FailsToOpen g.D.Disk
    (step_of g.D.Disk g.G.Signer c.args.parts.signer (g.R.Draws.block_at c.args.parts.draws) opening) (request_of opening)
    (start_of c.args.command c.args.parts.disk (g.R.Draws.place_of c.args.parts.draws) c.args.members_place) unopened.history unopened.parts.disk))
    (sym c.in-Soak.is) c.make_group-in-Soak.ensures.err

pub returns-in-Open-clause-err : goal.returns-in-Open-clause-err
returns-in-Open-clause-err g c =
    subst (λ (opening : Opening). IfErr c.open.result (λ unopened. FailsToOpen g.D.Disk
    (step_of g.D.Disk g.G.Signer c.args.parts.signer (g.R.Draws.block_at c.args.parts.draws) opening) (request_of opening)
    (start_of c.args.command c.args.parts.disk (g.R.Draws.place_of c.args.parts.draws) c.args.members_place) unopened.history unopened.parts.disk))
    (sym c.in-Open.is)
    (fails_for (λ unopened name limit. FailsToOpen g.D.Disk (step_of g.D.Disk g.G.Signer c.args.parts.signer (g.R.Draws.block_at c.args.parts.draws) Open)
    (request_of Open)
    (no_run (outset_of c.args.parts.disk name limit (g.R.Draws.place_of c.args.parts.draws) c.args.members_place most_phases)) unopened.history
    unopened.parts.disk)
    c.open.result console_name c.args.command.limit c.open.ensures.err)

pub returns-in-New-clause-ok : goal.returns-in-New-clause-ok
returns-in-New-clause-ok g c =
    subst (λ (opening : Opening). IfOk c.make_group.result (Opens g.D.Disk g.R.Draws
    (step_of g.D.Disk g.G.Signer c.args.parts.signer (g.R.Draws.block_at c.args.parts.draws) opening) (request_of opening)
    (start_of c.args.command c.args.parts.disk (g.R.Draws.place_of c.args.parts.draws) c.args.members_place))) (sym c.in-New.is) c.make_group.ensures.ok

pub returns-in-Soak-clause-ok : goal.returns-in-Soak-clause-ok
returns-in-Soak-clause-ok g c =
    subst (λ (opening : Opening). IfOk c.make_group-in-Soak.result (Opens g.D.Disk g.R.Draws
    (step_of g.D.Disk g.G.Signer c.args.parts.signer (g.R.Draws.block_at c.args.parts.draws) opening) (request_of opening)
    (start_of c.args.command c.args.parts.disk (g.R.Draws.place_of c.args.parts.draws) c.args.members_place))) (sym c.in-Soak.is) c.make_group-in-Soak.ensures.ok

pub returns-in-Open-clause-ok : goal.returns-in-Open-clause-ok
returns-in-Open-clause-ok g c =
    subst (λ (opening : Opening). IfOk c.open.result (Opens g.D.Disk g.R.Draws
    (step_of g.D.Disk g.G.Signer c.args.parts.signer (g.R.Draws.block_at c.args.parts.draws) opening) (request_of opening)
    (start_of c.args.command c.args.parts.disk (g.R.Draws.place_of c.args.parts.draws) c.args.members_place))) (sym c.in-Open.is)
    (opens_for (λ name limit. Opens g.D.Disk g.R.Draws (step_of g.D.Disk g.G.Signer c.args.parts.signer (g.R.Draws.block_at c.args.parts.draws) Open)
    (request_of Open)
    (no_run (outset_of c.args.parts.disk name limit (g.R.Draws.place_of c.args.parts.draws) c.args.members_place most_phases))) c.open.result console_name
    c.args.command.limit c.open.ensures.ok)
