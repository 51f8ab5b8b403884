-- What is drawn for a batch, block by block. The order is our choice.
use Rattle.std.specs.Prelude.{ℕ, zero, suc, ◌+◌, ◌*◌, ◌%◌, ◌^◌, List, [], ◌∷◌, ◌++◌, length, take, bit_or}
use Rattle.group_terms.specs.declared.values.BatchValues.{BatchValues}
use Rattle.group_terms.specs.declared.values.Drawn.{Drawn}
use Rattle.group_terms.specs.declared.values.NodeValue.{NodeValue}
use Rattle.group_terms.specs.declared.values.TrafficValue.{TrafficValue}

-- the place of the next block; after the greatest number of 64 bits comes 0
abbrev pub next_place : ℕ → ℕ
next_place place = (place + 1) % 2 ^ 64

-- the place that comes so many blocks later
abbrev pub place_after : ℕ → ℕ → ℕ
place_after zero place = place
place_after (suc n) place = place_after n (next_place place)

-- the first octet with its highest bit set
abbrev pub with_high_bit : List ℕ → List ℕ
with_high_bit [] = []
with_high_bit (octet ∷ octets) = bit_or octet 128 ∷ octets

-- draws with these blocks
module _ (block : ℕ → List ℕ) where
  -- for a position its IV, and then its key
  abbrev pub node_drawn : ℕ → NodeValue
  node_drawn place = record { iv = block place; key = block (next_place place) }

  -- for each of these positions, in their order
  abbrev pub nodes_drawn : ℕ → List ℕ → List Drawn
  nodes_drawn place [] = []
  nodes_drawn place (id ∷ ids) = record { id = id; value = node_drawn place } ∷ nodes_drawn (place_after 2 place) ids

  -- for the traffic the key of the cipher, that of the integrity algorithm in two blocks, and the SPI, which is none of those that are reserved (RFC
  -- 4303 section 2.1), since its highest bit is set
  abbrev pub traffic_drawn : ℕ → TrafficValue
  traffic_drawn place = record {
    cipher_key = block place;
    integrity_key = block (place_after 1 place) ++ block (place_after 2 place);
    spi = with_high_bit (take 4 (block (place_after 3 place)));
  }

  -- first for the positions, then for the traffic
  abbrev pub values_drawn : ℕ → List ℕ → BatchValues
  values_drawn place ids = record {
    nodes = nodes_drawn place ids;
    traffic = traffic_drawn (place_after (2 * length ids) place);
  }

-- how many blocks that takes
abbrev pub blocks_for : List ℕ → ℕ
blocks_for ids = 2 * length ids + 4
