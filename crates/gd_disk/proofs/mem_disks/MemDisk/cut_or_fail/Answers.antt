use Rattle.std.proofs.Common.{◌≤◌, ◌^◌, ◌++◌, List, ℕ, length, drop, sym, ◌∙◌, ap, subst, arith, length-take, take-append-drop}
use Rattle.gd_disk.specs.declared.events.Event.TheVariants.{Shortened}
use Rattle.gd_disk.specs.Media.{Medium}
use Rattle.gd_disk.proofs.MediumLemmas.{LiesWithin-event}
use Rattle.gd_disk.proofs.mem_disks.MemDisk.cut_or_fail.Goals as goal

pub invariant_of-self-in-Ok : goal.invariant_of-self-in-Ok
invariant_of-self-in-Ok c =
    let octets = c.self.inside.octets in
    let to = c.args.to in
    let near = c.self.invariant.0 in
    let inside : to ≤ length octets = subst (λ (m : Medium). to ≤ length m.image) (sym c.self.view_is) c.requires in
    let is = c.in-Ok.ensures.ok in
    let undone = ap (λ (l : List ℕ). l ++ drop to octets) is ∙ take-append-drop to octets in
    let short : length c.cut.new.octets ≤ 2 ^ 62 = omega (arith, ap length is, length-take to octets, near) in
    LiesWithin-event
    (Shortened to (drop to octets))
    octets
    c.cut.new.octets
    c.self.inside.events
    c.cut.new.events
    undone
    c.in-Ok.ensures.noted
    short
    (omega (arith, inside, near))
    c.self.invariant
