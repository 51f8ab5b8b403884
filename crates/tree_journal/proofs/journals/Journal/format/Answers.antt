use Rattle.std.proofs.Common.{inl, refl, arith}
use Rattle.gd_disk.specs.MomentLaws.{started}
use Rattle.tree_journal.specs.Crashes.{IsCutOf}
use Rattle.tree_journal.proofs.BeginLemmas.{begun_stands, not_begun}
use Rattle.tree_journal.proofs.journals.Journal.format.Goals as goal

pub invariant_of-result : goal.invariant_of-result
invariant_of-result g c =
    let begun = c.in-Ok-begin_file.ensures in (
      c.in-Ok.ensures,
      omega arith,
      omega arith,
      λ goes. begun_stands g.D.Disk c.args.disk c.begin_file.new.disk c.begin_file.ensures.disk.keeps begun.octets begun.durable,
      omega arith,
      λ file is. refl,
    )

pub returns-in_default-clause-moments : goal.returns-in_default-clause-moments
returns-in_default-clause-moments g c file is =
    let laws = c.a_crash_may_leave_nothing_or_all.ensures in
    let old = g.D.Disk.may_leave c.args.disk in
    inl (started g.D.Disk c.args.disk (IsCutOf old) (g.met.D.Disk.only_now c.args.disk) (not_begun laws.nothing_written laws.nothing_cut old))
