-- Faults of octets.
use Rattle.std.specs.Prelude.{ℕ}
use Rattle.group_terms.specs.declared.wires.WireFault.{WireFault}
use Rattle.group_terms.specs.declared.wires.WireWhat.{WireWhat}

-- what is wrong, and the place in the datagram
abbrev pub fault_at : WireWhat → ℕ → WireFault
fault_at what at = record { what = what; at = at }
