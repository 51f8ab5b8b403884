use Rattle.std.proofs.Common.{◌∙◌, length}
use Rattle.gd_disk.specs.Disks.{written}
use Rattle.journal_gates.proofs.AnswerLemmas.{on_err}
use Rattle.journal_gates.proofs.CallLemmas.{one_call, two_calls}
use Rattle.journal_gates.proofs.gates.write_through.Goals as goal

pub returns-in_err-write_at-clause-any_moment : goal.returns-in_err-write_at-clause-any_moment
returns-in_err-write_at-clause-any_moment g c file is =
    let same = c.a_crash_may_leave_nothing_or_all.ensures.nothing_written c.args.at (length c.args.octets.now) in
    one_call g.D.Disk c.args.disk.now c.write_at.new.self _ (g.met.D.Disk.only_now c.args.disk.now) (λ k now. (k, now, same k))
    c.write_at.ensures.time (c.write_at.ensures.crash file is)

pub returns-in_err-sync-clause-in_doubt : goal.returns-in_err-sync-clause-in_doubt
returns-in_err-sync-clause-in_doubt g c =
    on_err c.from_residual-in_err-sync.result (λ file is. (
      written file c.args.at c.args.octets.now,
      c.sync.ensures.image ∙ c.in_ok-write_at.ensures.image file is,
      c.a_crash_may_leave_nothing_or_all.ensures.all_written c.args.at file c.args.octets.now (c.requires file is),
    ))

pub returns-in_err-sync-clause-any_moment : goal.returns-in_err-sync-clause-any_moment
returns-in_err-sync-clause-any_moment g c file is =
    let same = c.a_crash_may_leave_nothing_or_all.ensures.nothing_written c.args.at (length c.args.octets.now) in
    let torn = c.write_at.ensures.crash file is in
    two_calls g.D.Disk c.args.disk.now c.write_at.new.self c.sync.new.self _ (g.met.D.Disk.only_now c.args.disk.now) (λ k now. (k, now, same k))
    c.write_at.ensures.time torn c.sync.ensures.time (λ k now. torn k (c.sync.ensures.crash _ (c.in_ok-write_at.ensures.image file is) k now))

pub returns-clause-any_moment : goal.returns-clause-any_moment
returns-clause-any_moment g c file is =
    let same = c.a_crash_may_leave_nothing_or_all.ensures.nothing_written c.args.at (length c.args.octets.now) in
    let torn = c.write_at.ensures.crash file is in
    two_calls g.D.Disk c.args.disk.now c.write_at.new.self c.sync.new.self _ (g.met.D.Disk.only_now c.args.disk.now) (λ k now. (k, now, same k))
    c.write_at.ensures.time torn c.sync.ensures.time (λ k now. torn k (c.sync.ensures.crash _ (c.in_ok-write_at.ensures.image file is) k now))
