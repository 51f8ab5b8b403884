use Rattle.std.proofs.Common.{refl}
use Rattle.gd_disk.proofs.MediumLemmas.{either, cut_follows, no_cut_follows}
use Rattle.gd_disk.proofs.mem_calls.MemDiskDisk.cut.Goals as goal

pub returns-clause-crash : goal.returns-clause-crash
returns-clause-crash c file is =
    let old = c.args.self.now in
    let new = c.cut_or_fail.new.self in
    let within = c.requires old.image refl in
    either
    c.cut_or_fail.result
    c.cut_or_fail.ensures.done
    c.cut_or_fail.ensures.failed
    (cut_follows old new c.args.to within)
    (no_cut_follows old new c.args.to)
