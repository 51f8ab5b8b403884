use Rattle.console_run.proofs.consoles.make_group.Goals as goal

pub returns-clause-ok : goal.returns-clause-ok
returns-clause-ok g c = rw (← c.console_name.ensures) c.create.ensures.ok

pub returns-clause-err : goal.returns-clause-err
returns-clause-err g c = rw (← c.console_name.ensures) c.create.ensures.err
