-- What the code keeps of the packets that it reads.
use Rattle.std.specs.Prelude.{ℕ, List}
use Rattle.kd_wire.specs.declared.bodies.KdView.{KdView}
use Rattle.kd_wire.specs.declared.bodies.UpdatePacket.{UpdatePacket}
use Rattle.kd_wire.specs.Arrays.{PlacedUpdates}
use Rattle.kd_wire.specs.Bodies.{Kd}
use Rattle.kd_wire.specs.Private.Seen.{seen_updates}

abbrev pub without_arrays : Kd → KdView
without_arrays given = given.view

abbrev pub seen_packet : ℕ × (List ℕ × PlacedUpdates) → UpdatePacket
seen_packet packet = record { spi_at = packet.0; spi = packet.1.0; updates = seen_updates packet.1.1 }
