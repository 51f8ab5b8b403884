-- What a record of a group's journal has to have so that it is read as it was written.
use Rattle.std.specs.Prelude.{◌≡◌, ℕ, ◌<◌, ◌≤◌, true, List, length, All}
use Rattle.group_terms.specs.Changes.{member_of}
use Rattle.group_terms.specs.GroupNames.{is_group_name}
use Rattle.group_terms.specs.Names.{is_name}
use Rattle.group_terms.specs.Octets.{iv_octets, key_octets, integrity_octets, rekey_spi_octets, traffic_spi_octets}
use Rattle.group_terms.specs.declared.changes.Change.{Change}
use Rattle.group_terms.specs.declared.values.BatchValues.{BatchValues}
use Rattle.group_terms.specs.declared.values.Drawn.{Drawn}
use Rattle.group_terms.specs.declared.values.TrafficValue.{TrafficValue}
use Rattle.gd_wire.specs.Readings.{octet_at}
use Rattle.group_records.specs.declared.heads.Head.{Head}

-- a head that can be written: a tree of depth 1 to 9, a SPI of rekey datagrams, a limit of 32 bits that is not zero,
-- and the name of a group
pub record HeadFits (head : Head) : Type 0 where
  pub shallow : 1 ≤ head.depth
  pub not_deep : head.depth ≤ 9
  pub spi : length head.spi ≡ rekey_spi_octets
  pub positive : 0 < head.limit
  pub small : head.limit < 4294967296
  pub name : is_group_name head.name ≡ true

-- the name in a change is that of a member
abbrev pub IsNamed : Change → Type 0
IsNamed change = is_name (member_of change) ≡ true

-- the value of a position that can be written: the position's number is not zero and has 16 bits, and the IV and the key have their sizes
pub record NodeFits (node : Drawn) : Type 0 where
  pub positive : 0 < node.id
  pub small : node.id < 65536
  pub iv : length node.value.iv ≡ iv_octets
  pub key : length node.value.key ≡ key_octets

-- the value of a traffic key that can be written: both keys and the SPI have their sizes, and the highest bit of the SPI is set,
-- so that no SPI is reserved (RFC 4303 section 2.1)
pub record TrafficFits (traffic : TrafficValue) : Type 0 where
  pub cipher_key : length traffic.cipher_key ≡ key_octets
  pub integrity_key : length traffic.integrity_key ≡ integrity_octets
  pub spi : length traffic.spi ≡ traffic_spi_octets
  pub high : 128 ≤ octet_at traffic.spi 0

-- a batch that can be written: at most 32 changes, each of a member's name; an epoch and a sequence number of 32 bits;
-- and values of its keys that can be written
pub record BatchFits (batch : List Change) (epoch sequence : ℕ) (values : BatchValues) : Type 0 where
  pub few : length batch ≤ 32
  pub named : All IsNamed batch
  pub epoch_small : epoch < 4294967296
  pub sequence_small : sequence < 4294967296
  pub count : length values.nodes < 65536
  pub nodes : All NodeFits values.nodes
  pub traffic : TrafficFits values.traffic
