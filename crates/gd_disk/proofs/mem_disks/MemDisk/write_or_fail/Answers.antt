use Rattle.std.proofs.Common.{◌≤◌, ◌+◌, ◌^◌, List, ℕ, length, take, drop, sym, ◌∙◌, ap, subst, arith}
use Rattle.gd_disk.specs.declared.events.Event.TheVariants.{Wrote}
use Rattle.gd_disk.specs.Media.{Medium, replaced}
use Rattle.gd_disk.proofs.TornLemmas.{undone-written}
use Rattle.gd_disk.proofs.MediumLemmas.{LiesWithin-event}
use Rattle.gd_disk.proofs.mem_disks.MemDisk.write_or_fail.Goals as goal

pub invariant_of-self-in-Ok : goal.invariant_of-self-in-Ok
invariant_of-self-in-Ok c =
    let octets = c.self.inside.octets in
    let at = c.args.at in
    let new = c.args.new.now in
    let near = c.self.invariant.0 in
    let inside : at ≤ length octets = subst (λ (m : Medium). at ≤ length m.image) (sym c.self.view_is) c.requires in
    let undo = take (length new) (drop at octets) in
    let undone = ap (λ (l : List ℕ). replaced l at (length new) undo) c.in-Ok.ensures.ok ∙ undone-written octets at new inside in
    let reaches : at + length new ≤ 2 ^ 62 = grind arith in
    let short : length c.write.new.octets ≤ 2 ^ 62 = omega (arith, c.in-Ok.ensures.size, near, reaches) in
    LiesWithin-event
    (Wrote at new undo)
    octets
    c.write.new.octets
    c.self.inside.events
    c.write.new.events
    undone
    c.in-Ok.ensures.noted
    short
    reaches
    c.self.invariant
