use Rattle.std.proofs.Common.{◌∙◌, rules, sym, subst}
use Rattle.register_workers.specs.Private.Running.{HasRun, IsFresh, Worker}
use Rattle.register_workers.proofs.workers.FloorBench.do_one.Goals as goal

pub run_lines-job-inside-requires-clause-own : goal.run_lines-job-inside-requires-clause-own
run_lines-job-inside-requires-clause-own g c =
    let P : Worker → Type 0 = λ worker. IsFresh c.args.self.now.desk.now worker in
    let fresh = subst P (sym c.job.view_is) c.requires.fits in
    let reads = fresh.reads ∙ sym c.args.self.now.one_board in search (rules, fresh.own, reads)

pub run_lines-job-inside-requires-clause-fresh : goal.run_lines-job-inside-requires-clause-fresh
run_lines-job-inside-requires-clause-fresh g c =
    let P : Worker → Type 0 = λ worker. IsFresh c.args.self.now.desk.now worker in
    let fresh = subst P (sym c.job.view_is) c.requires.fits in
    search (rules, fresh.fresh, fresh.none_done)

pub run_lines-job-inside-requires-clause-turns : goal.run_lines-job-inside-requires-clause-turns
run_lines-job-inside-requires-clause-turns g c =
    let P : Worker → Type 0 = λ worker. IsFresh c.args.self.now.desk.now worker in
    let fresh = subst P (sym c.job.view_is) c.requires.fits in
    search (rules, fresh.turns)

pub run_lines-job-inside-requires-clause-ready : goal.run_lines-job-inside-requires-clause-ready
run_lines-job-inside-requires-clause-ready g c =
    let P : Worker → Type 0 = λ worker. IsFresh c.args.self.now.desk.now worker in
    let fresh = subst P (sym c.job.view_is) c.requires.fits in
    search (rules, fresh.ready)

pub invariant_of-job : goal.invariant_of-job
invariant_of-job g c = c.run_lines-job-inside.ensures.room

pub returns : goal.returns
returns g c =
    let ran = c.run_lines-job-inside.ensures in
    let new : Worker = record {
      pass = c.run_lines-job-inside.new.pass;
      reader = c.run_lines-job-inside.new.reader;
      due = c.run_lines-job-inside.new.due.items;
      done = c.run_lines-job-inside.new.done.items;
      memory = c.run_lines-job-inside.result;
    } in
    let P : Worker → Type 0 = λ worker. IsFresh c.args.self.now.desk.now worker in
    let fresh = subst P (sym c.job.view_is) c.requires.fits in
    let Q : Worker → Type 0 = λ worker. HasRun c.args.self.now.desk.now worker new in
    subst Q c.job.view_is (record { own = ran.own.0 ∙ fresh.own; reads = ran.own.1 ∙ fresh.reads; ran = ran.ran })
