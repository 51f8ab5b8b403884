use Rattle.std.proofs.Common.{[]}
use Rattle.tree_journal.proofs.BeginMoments.{after_cut, after_first}
use Rattle.tree_journal.proofs.formats.shut_file.Goals as goal

pub returns-in_err-cut-clause-any_moment : goal.returns-in_err-cut-clause-any_moment
returns-in_err-cut-clause-any_moment g c file is =
    let laws = c.a_crash_may_leave_nothing_or_all.ensures in
    after_cut g.D.Disk c.args.disk.now c.cut.new.self laws.nothing_written laws.nothing_cut (g.met.D.Disk.only_now c.args.disk.now)
    c.cut.ensures.time (c.cut.ensures.crash file is)

pub returns-in_err-write_through-clause-any_moment : goal.returns-in_err-write_through-clause-any_moment
returns-in_err-write_through-clause-any_moment g c file is =
    let laws = c.a_crash_may_leave_nothing_or_all.ensures in
    after_first g.D.Disk c.args.disk.now c.cut.new.self laws.nothing_written laws.nothing_cut (g.met.D.Disk.only_now c.args.disk.now)
    c.cut.ensures.time (c.cut.ensures.crash file is) c.write_through.new.disk
    (c.write_through.ensures.any_moment [] (c.in_ok-cut.ensures.image file is))

pub returns-clause-octets : goal.returns-clause-octets
returns-clause-octets g c file is = c.in_ok-write_through.ensures.done [] (c.in_ok-cut.ensures.image file is)

pub returns-clause-any_moment : goal.returns-clause-any_moment
returns-clause-any_moment g c file is =
    let laws = c.a_crash_may_leave_nothing_or_all.ensures in
    after_first g.D.Disk c.args.disk.now c.cut.new.self laws.nothing_written laws.nothing_cut (g.met.D.Disk.only_now c.args.disk.now)
    c.cut.ensures.time (c.cut.ensures.crash file is) c.write_through.new.disk
    (c.write_through.ensures.any_moment [] (c.in_ok-cut.ensures.image file is))
