use Rattle.std.proofs.Common.{[], ◌∷◌, length, refl, ap, arith}
use Rattle.group_run.proofs.MailLemmas.{longer}
use Rattle.group_run.proofs.PopLemmas.{one_left, popping_begins, popping_ends, popping_more, popping_stops}
use Rattle.group_run.proofs.ReachLemmas.{goes_then}
use Rattle.group_run.proofs.ReadLemmas.{on_err}
use Rattle.group_run.proofs.runs.GroupRun.read_all_left.Goals as goal

pub lefts-init : goal.lefts-init
lefts-init g c = record { popping = popping_begins g.D.Disk g.G.Signer g.R.Draws c.args.self.now c.args.lefts c.requires.0 c.requires.1 }

pub read_one-requires : goal.read_one-requires
read_one-requires g c =
    one_left g.D.Disk g.G.Signer g.R.Draws c.args.self.now c.lefts.self c.lefts.self c.args.lefts c.lefts.lefts c.pop.new.self c.in-Some.left
    c.lefts.invariant.popping c.in-Some.ensures.last

pub lefts-smaller : goal.lefts-smaller
lefts-smaller g c = omega (arith, ap length c.in-Some.ensures.last, longer c.pop.new.self (c.in-Some.left ∷ []))

pub lefts-preserved : goal.lefts-preserved
lefts-preserved g c = record {
  popping = popping_more g.D.Disk g.G.Signer g.R.Draws c.args.self.now c.lefts.self c.read_one.new.self c.args.lefts c.lefts.lefts c.pop.new.self c.in-Some.left
      c.lefts.invariant.popping c.in-Some.ensures.last c.in_ok-read_one.ensures.ok c.in_ok-read_one.ensures.goes_on;
}

pub returns-in_err-read_one-clause-goes_on : goal.returns-in_err-read_one-clause-goes_on
returns-in_err-read_one-clause-goes_on g c = goes_then g.R.Draws c.lefts.invariant.popping.goes_on c.in_err-read_one.ensures.goes_on

pub returns-in_err-read_one-clause-err : goal.returns-in_err-read_one-clause-err
returns-in_err-read_one-clause-err g c =
    on_err _ _ (popping_stops g.D.Disk g.G.Signer g.R.Draws c.args.self.now c.lefts.self c.read_one.new.self c.args.lefts c.lefts.lefts c.pop.new.self c.in-Some.left
    c.lefts.invariant.popping c.in-Some.ensures.last c.in_err-read_one.ensures.err)

pub returns-clause-ok : goal.returns-clause-ok
returns-clause-ok g c =
    popping_ends g.D.Disk g.G.Signer g.R.Draws c.args.self.now c.lefts.self c.args.lefts c.lefts.lefts (c.in_default.ensures.empty.0 refl) c.lefts.invariant.popping

pub returns-clause-goes_on : goal.returns-clause-goes_on
returns-clause-goes_on g c = c.lefts.invariant.popping.goes_on
