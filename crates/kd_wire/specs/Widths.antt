-- How many octets the parts of a key download have (RFC 6407 section 5.6).
use Rattle.std.specs.Prelude.{ℕ, ◌+◌, ◌*◌}
use Rattle.group_terms.specs.Octets.{key_octets, data_octets, integrity_octets, rekey_spi_octets, traffic_spi_octets}

-- the header of an attribute in the long form (RFC 2408 section 3.3)
abbrev pub attribute_head_octets : ℕ
attribute_head_octets = 4

-- a key of LKH: 16 octets of its ID, type, dates and handle, and its data (RFC 6407 section 5.6.3.1)
abbrev pub lkh_key_octets : ℕ
lkh_key_octets = 16 + data_octets

-- a download array of a number of keys (RFC 6407 section 5.6.3.1): its version, that number, a reserved octet, and the keys
abbrev pub download_array_octets : ℕ → ℕ
download_array_octets count = 4 + lkh_key_octets * count

-- a download array of a number of keys, with the header of its attribute
abbrev pub download_octets : ℕ → ℕ
download_octets count = attribute_head_octets + download_array_octets count

-- An update array that gives one key has a version, a number of keys and a reserved octet too, and before the key the ID, a reserved number
-- and the handle of the one that seals it (section 5.6.3.2).
abbrev pub update_array_octets : ℕ
update_array_octets = 12 + lkh_key_octets

-- an update array that gives one key, with the header of its attribute
abbrev pub update_octets : ℕ
update_octets = attribute_head_octets + update_array_octets

-- what comes before the attributes of a packet: its header, the size of its SPI, and that SPI
abbrev pub packet_head_octets : ℕ → ℕ
packet_head_octets spi_octets = 5 + spi_octets

-- the packet of a traffic key (section 5.6.1)
abbrev pub traffic_octets : ℕ
traffic_octets = packet_head_octets traffic_spi_octets + (attribute_head_octets + key_octets) + (attribute_head_octets + integrity_octets)

-- the body with a traffic key alone: the number of packets and a reserved number, and the packet of that key
abbrev pub traffic_kd_octets : ℕ
traffic_kd_octets = 4 + traffic_octets

-- the body with a number of update arrays of one key: the number of packets and a reserved number, and one packet with these arrays
abbrev pub update_kd_octets : ℕ → ℕ
update_kd_octets arrays = 4 + packet_head_octets rekey_spi_octets + update_octets * arrays

-- the body for a member that registers: the number of packets, a reserved number, the packet of a traffic key, and one with a number of keys of a path
abbrev pub reply_kd_octets : ℕ → ℕ
reply_kd_octets keys = 4 + traffic_octets + packet_head_octets rekey_spi_octets + download_octets keys
