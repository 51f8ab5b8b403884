use Rattle.std.proofs.Common.{◌≡◌, ◌-◌, [], length}
use Rattle.sa_wire.specs.Attributes.{attributes_after}
use Rattle.sa_wire.proofs.attributes.read_attributes.Given as goal

abbrev pub invariant-loop : goal.invariant-loop
invariant-loop l =
    (attributes_after [] (length l.rules) l.rules l.fn.text ≡ attributes_after l.found.items (length l.rules - l.index) l.due.items l.text)
    × (length l.found.items ≡ l.index)
