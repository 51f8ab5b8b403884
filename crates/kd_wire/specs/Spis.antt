-- The SPI of a key packet (RFC 6407 section 5.6), after its size in 1 octet.
use Rattle.std.specs.Prelude.{ℕ}
use Rattle.group_terms.specs.declared.wires.WireWhat.TheVariants.{Value}
use Rattle.gd_wire.specs.Readings.{Reading, ◌>>◌, here, due_octet}

-- this size, and the place in the datagram of the SPI, which comes next
unfoldable pub spi_place : ℕ → Reading ℕ
spi_place size = do
  due_octet size Value
  here
