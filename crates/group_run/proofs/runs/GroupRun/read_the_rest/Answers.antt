use Rattle.std.proofs.Common.{ap, ◌∙◌}
use Rattle.std.proofs.lemmas.Bool.{MatchBool-at_false, MatchBool-at_true}
use Rattle.group_run.proofs.ReadLemmas.{on_err}
use Rattle.group_run.proofs.RestLemmas.{goes_next, going_begins, going_ends, going_more, going_short, going_stops, rules_then, same_goes}
use Rattle.group_run.proofs.ReachLemmas.{goes_then}
use Rattle.group_run.specs.Views.{View}
use Rattle.group_run.proofs.runs.GroupRun.read_the_rest.Goals as goal

pub mail-init : goal.mail-init
mail-init g c = record { going = going_begins g.D.Disk g.G.Signer g.R.Draws c.args.self.now }

pub mail-smaller : goal.mail-smaller
mail-smaller g c = c.in_ok-read_next.ensures.nearer c.if-branch.true

pub returns-in_err-read_next-clause-goes_on : goal.returns-in_err-read_next-clause-goes_on
returns-in_err-read_next-clause-goes_on g c =
    goes_then g.R.Draws c.mail.invariant.going.goes_on (same_goes g.R.Draws c.in_err-read_next.ensures.err.server)

pub returns-in_err-read_next-clause-err : goal.returns-in_err-read_next-clause-err
returns-in_err-read_next-clause-err g c =
    on_err _ _ (going_short g.D.Disk g.G.Signer g.R.Draws c.args.self.now c.mail.self c.read_next.new.self c.mail.invariant.going c.in_err-read_next.ensures.err)

pub mail-preserved : goal.mail-preserved
mail-preserved g c =
    let next = goes_next g.D.Disk g.G.Signer g.R.Draws (MatchBool-at_true _ _ c.if-branch.true c.in_ok-read_next.ensures.ok) in
    record {
      going = going_more g.D.Disk g.G.Signer g.R.Draws c.args.self.now c.mail.self c.read_next.new.self c.mail.invariant.going next
          (c.in_ok-had_memory.ensures.ok c.mail.self.entries next.entry next.added) c.in_ok-read_next.ensures.stays;
    }

pub returns-in_err-had_memory-clause-goes_on : goal.returns-in_err-had_memory-clause-goes_on
returns-in_err-had_memory-clause-goes_on g c =
    let next = goes_next g.D.Disk g.G.Signer g.R.Draws (MatchBool-at_true _ _ c.if-branch.true c.in_ok-read_next.ensures.ok) in
    goes_then g.R.Draws c.mail.invariant.going.goes_on next.goes_on

pub returns-in_err-had_memory-clause-err : goal.returns-in_err-had_memory-clause-err
returns-in_err-had_memory-clause-err g c =
    let next = goes_next g.D.Disk g.G.Signer g.R.Draws (MatchBool-at_true _ _ c.if-branch.true c.in_ok-read_next.ensures.ok) in
    on_err _ _ (going_stops g.D.Disk g.G.Signer g.R.Draws c.args.self.now c.mail.self c.read_next.new.self c.mail.invariant.going next
    (c.in_err-had_memory.ensures.err c.mail.self.entries next.entry next.added))

pub returns-clause-ok : goal.returns-clause-ok
returns-clause-ok g c =
    going_ends g.D.Disk g.G.Signer g.R.Draws c.args.self.now c.mail.self c.read_next.new.self c.mail.invariant.going
    (MatchBool-at_false _ _ c.if-branch.false c.in_ok-read_next.ensures.ok)

pub returns-clause-stays : goal.returns-clause-stays
returns-clause-stays g c =
    rules_then g.D.Disk g.G.Signer g.R.Draws c.args.self.now c.mail.self c.read_next.new.self c.mail.invariant.going c.in_ok-read_next.ensures.stays

pub returns-clause-goes_on : goal.returns-clause-goes_on
returns-clause-goes_on g c =
    let all = MatchBool-at_false _ _ c.if-branch.false c.in_ok-read_next.ensures.ok in
    goes_then g.R.Draws c.mail.invariant.going.goes_on
    (same_goes g.R.Draws (ap (λ (held : View g.row.D.Denot g.row.G.Denot g.row.R.Denot). held.server) all.now))

pub returns-clause-rest : goal.returns-clause-rest
returns-clause-rest g c =
    let all = MatchBool-at_false _ _ c.if-branch.false c.in_ok-read_next.ensures.ok in
    ap (λ (held : View g.row.D.Denot g.row.G.Denot g.row.R.Denot). held.members.mail) all.now ∙ all.at_rest.1
