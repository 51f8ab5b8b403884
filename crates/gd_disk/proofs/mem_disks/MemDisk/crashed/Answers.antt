use Rattle.std.proofs.Common.{List, reverse, sym, subst}
use Rattle.gd_disk.specs.Private.Bounds.{LiesWithin}
use Rattle.gd_disk.specs.declared.events.Event.{Event}
use Rattle.gd_disk.proofs.MediumLemmas.{left_within}
use Rattle.gd_disk.proofs.mem_disks.MemDisk.crashed.Goals as goal

pub holding-requires : goal.holding-requires
holding-requires c =
    let octets = c.self.inside.octets in
    let lies = subst (λ (l : List Event). LiesWithin octets (reverse l)) (sym c.as_slice.ensures) c.self.invariant in
    left_within octets (reverse c.as_slice.result.now) lies c.in_ok-image.image c.in_ok-image.ensures.left
