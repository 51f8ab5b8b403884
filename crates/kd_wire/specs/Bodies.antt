-- The body of a key download payload (RFC 6407 section 5.6): the number of key packets in 2 octets, a reserved field of 2, and the packets.
-- By our choice it has one of three forms: a packet for a traffic key (1) alone; a packet for keys of the tree (LKH, 3) alone, which has
-- update arrays; or one of each, in this order, the second with the download array of a path.
use Rattle.std.specs.Prelude.{ℕ, ◌==◌, ◌||◌, List, [], ◌∷◌, None, Some, Result, if◌then◌else◌}
use Rattle.group_terms.specs.Octets.{rekey_spi_octets}
use Rattle.group_terms.specs.declared.paths.PathKey.{PathKey}
use Rattle.group_terms.specs.declared.wires.WireFault.{WireFault}
use Rattle.group_terms.specs.declared.wires.WireWhat.TheVariants.{Short, Reserved, Value}
use Rattle.gd_wire.specs.Readings.{Cursor, Reading, ◌>>=◌, ◌>>◌, from_start, value_of, mapped, give, here, check, end, inside, octets}
use Rattle.gd_wire.specs.Readings.{number, due_number, section}
use Rattle.kd_wire.specs.declared.bodies.KdView.{KdView}
use Rattle.kd_wire.specs.declared.updates.UpdateArray.{UpdateArray}
use Rattle.kd_wire.specs.Spis.{spi_place}
use Rattle.kd_wire.specs.Traffic.{traffic}
use Rattle.kd_wire.specs.Arrays.{PlacedUpdates, updates, gives_root, download}

-- what a body gives, with the update arrays themselves
pub record Kd : Type 0 where
  pub view : KdView
  pub arrays : List UpdateArray

-- a traffic key alone
unfoldable pub traffic_alone : Cursor → Reading Kd
traffic_alone packet = do
  tek ← inside packet traffic
  end
  give (record {
    view = record { tek = Some tek.1; lkh_spi = None; download = []; updates = None; spis = record { tek = Some tek.0; lkh = None } };
    arrays = [];
  })

-- the place of the SPI in the datagram, the SPI, and the update arrays
unfoldable pub update_packet : Reading (ℕ × (List ℕ × PlacedUpdates))
update_packet = do
  at ← spi_place rekey_spi_octets
  spi ← octets rekey_spi_octets
  placed ← updates
  give (at, (spi, placed))

-- update arrays alone; where no key that they give has LKH ID 1 it is missing at the end
unfoldable pub updates_alone : Cursor → Reading Kd
updates_alone packet = do
  lkh ← inside packet update_packet
  end
  at ← here
  check (gives_root lkh.1.1.arrays) Short at
  give (record {
    view = record {
      tek = None;
      lkh_spi = Some lkh.1.0;
      download = [];
      updates = Some lkh.1.1.span;
      spis =
          record { tek = None; lkh = Some lkh.0 };
    };
    arrays = lkh.1.1.arrays;
  })

-- a body with one packet: that of a traffic key (1), or that of keys of the tree (3), which has update arrays
unfoldable pub one_packet : Reading Kd
one_packet = do
  packet ← section (1 ∷ 3 ∷ [])
  if packet.0 == 1 then traffic_alone packet.1 else updates_alone packet.1

-- the place of the SPI in the datagram, the SPI, and the keys of a path
unfoldable pub download_packet : Reading (ℕ × (List ℕ × List PathKey))
download_packet = do
  at ← spi_place rekey_spi_octets
  spi ← octets rekey_spi_octets
  path ← download
  give (at, (spi, path))

-- a traffic key, and the keys of a path
unfoldable pub two_packets : Reading Kd
two_packets = do
  first ← section (1 ∷ [])
  tek ← inside first.1 traffic
  second ← section (3 ∷ [])
  lkh ← inside second.1 download_packet
  end
  give (record {
    view = record {
      tek = Some tek.1;
      lkh_spi = Some lkh.1.0;
      download = lkh.1.1;
      updates = None;
      spis = record { tek = Some tek.0; lkh = Some lkh.0 };
    };
    arrays = [];
  })

-- the body of a key download payload (RFC 6407 section 5.6): the number of packets, by our choice 1 or 2, a reserved field, and the packets
unfoldable pub kd : Reading Kd
kd = do
  at ← here
  count ← number
  check (count == 1 || count == 2) Value at
  due_number 0 Reserved
  if count == 2 then two_packets else one_packet

-- what a body gives whose first octet has the place `base` in the datagram, or its first fault
abbrev pub kd_of : ℕ → List ℕ → Result Kd WireFault
kd_of base body = value_of (kd (from_start base body))

-- the same without the arrays
abbrev pub kd_view : ℕ → List ℕ → Result KdView WireFault
kd_view base body = value_of (mapped (λ (given : Kd). given.view) (kd (from_start base body)))
