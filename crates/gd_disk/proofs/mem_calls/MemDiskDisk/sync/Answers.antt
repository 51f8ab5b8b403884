use Rattle.gd_disk.proofs.MediumLemmas.{either, sync_narrows, no_sync_narrows}
use Rattle.gd_disk.proofs.mem_calls.MemDiskDisk.sync.Goals as goal

pub returns-clause-crash : goal.returns-clause-crash
returns-clause-crash c file is =
    let old = c.args.self.now in
    let new = c.sync_or_fail.new.self in
    either
    c.sync_or_fail.result
    c.sync_or_fail.ensures.done
    c.sync_or_fail.ensures.failed
    (sync_narrows old new)
    (no_sync_narrows old new)
