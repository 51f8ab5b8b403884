use Rattle.std.proofs.Common.{length, refl}
use Rattle.gd_disk.proofs.MediumLemmas.{either, write_follows, no_write_follows, write_goes_on, no_call_goes_on}
use Rattle.gd_disk.proofs.mem_calls.MemDiskDisk.write_at.Goals as goal

pub returns-clause-crash : goal.returns-clause-crash
returns-clause-crash c file is =
    let old = c.args.self.now in
    let new = c.write_or_fail.new.self in
    let within = c.requires old.image refl in
    either
    c.write_or_fail.result
    c.write_or_fail.ensures.done
    c.write_or_fail.ensures.failed
    (write_follows old new c.args.at c.args.octets.now within)
    (no_write_follows old new c.args.at (length c.args.octets.now))

pub returns-clause-time : goal.returns-clause-time
returns-clause-time c =
    let old = c.args.self.now in
    let new = c.write_or_fail.new.self in
    let within = c.requires old.image refl in
    either
    c.write_or_fail.result
    c.write_or_fail.ensures.done
    c.write_or_fail.ensures.failed
    (write_goes_on old new c.args.at c.args.octets.now within)
    (no_call_goes_on old new)
