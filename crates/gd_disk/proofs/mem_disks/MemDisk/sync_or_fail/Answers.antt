use Rattle.std.proofs.Common.{refl}
use Rattle.gd_disk.specs.declared.events.Event.TheVariants.{Synced}
use Rattle.gd_disk.proofs.MediumLemmas.{LiesWithin-event}
use Rattle.gd_disk.proofs.mem_disks.MemDisk.sync_or_fail.Goals as goal

pub invariant_of-self-in-Ok : goal.invariant_of-self-in-Ok
invariant_of-self-in-Ok c =
    let octets = c.self.inside.octets in
    LiesWithin-event
    Synced
    octets
    octets
    c.self.inside.events
    c.sync.new.events
    refl
    c.in-Ok.ensures.ok
    c.self.invariant.0
    tt
    c.self.invariant
