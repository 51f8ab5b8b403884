-- A member's store of keys, as its callers see it (RFC 6407 sections 3.2 and 4; the keys of the path are the key set of RFC 2627 section 5.4).
use Rattle.std.specs.Prelude.{◌≡◌, ℕ, ◌-◌, ◌==◌, ◌&&◌, ◌||◌, nat_lt, Bool, List, [], length, map, slice_index_or}
use Rattle.std.specs.List.{find, list_any}
use Rattle.std.specs.Option.{unwrap_or}
use Rattle.group_terms.specs.declared.paths.Keyed.{Keyed}
use Rattle.group_terms.specs.declared.paths.PathKey.{PathKey}
use Rattle.group_terms.specs.declared.values.TrafficValue.{TrafficValue}
use Rattle.kd_wire.specs.Texts.{IsPath}

-- the SPI of its Rekey SA; the keys of the member's path, from its leaf up to the root; the traffic key, and the epoch that has it; and the number of the
-- last push that was accepted
pub record Store : Type 0 where
  pub spi : List ℕ
  pub path : List PathKey
  pub traffic : TrafficValue
  pub traffic_epoch : ℕ
  pub sequence : ℕ

-- ---- the keys of a path

-- the default key of a look-up in a path, which is never met: a path has at least two keys
abbrev pub no_key : PathKey
no_key = record { id = 0; made = 0; value = record { iv = []; key = [] } }

-- the position of a path's leaf, whose key is the first one
abbrev pub leaf_of : List PathKey → ℕ
leaf_of path = (slice_index_or path 0 no_key).id

-- the key of the root, which is the last one of a path
abbrev pub root_of : List PathKey → PathKey
root_of path = slice_index_or path (length path - 1) no_key

-- whether a key is that of this position
abbrev pub is_at : ℕ → PathKey → Bool
is_at id key = key.id == id

-- whether one of these keys is that of this position
abbrev pub has_position : List PathKey → ℕ → Bool
has_position keys id = list_any (is_at id) keys

-- the key that is among the new ones for its position, or else itself
abbrev pub renewed_by : List PathKey → PathKey → PathKey
renewed_by new key = unwrap_or (find (is_at key.id) new) key

-- a path whose positions have these new keys
abbrev pub with_keys : List PathKey → List PathKey → List PathKey
with_keys path new = map (renewed_by new) path

-- ---- the store

-- the epoch of the root's key
abbrev pub root_epoch : Store → ℕ
root_epoch store = (root_of store.path).made

-- a reply that a store can be made of: the keys of a path, and the epoch of the root's (RFC 6407 section 3.2)
pub record IsReply (keyed : Keyed) : Type 0 where
  pub path : IsPath keyed.path
  pub epoch : keyed.epoch ≡ (root_of keyed.path).made

-- what a reply makes
abbrev pub store_of : Keyed → Store
store_of keyed =
    record { spi = keyed.spi; path = keyed.path; traffic = keyed.traffic; traffic_epoch = keyed.epoch; sequence = keyed.sequence }

-- A reply is older than what a store has where the last number that it tells is less than that of the store (RFC 6407 section 5.7); or, by our choice, where
-- it is equal and its epoch less than that of the store's root.
abbrev pub is_older : Store → Keyed → Bool
is_older store keyed =
    nat_lt keyed.sequence store.sequence || (keyed.sequence == store.sequence && nat_lt keyed.epoch (root_epoch store))

-- with new keys of the tree, by the push of this number
abbrev pub with_tree_keys : Store → ℕ → List PathKey → Store
with_tree_keys store number new = record store { path = with_keys store.path new; sequence = number }

-- with the traffic key of the epoch that the root's key has, by the push of this number
abbrev pub with_traffic_key : Store → ℕ → TrafficValue → Store
with_traffic_key store number traffic = record store { traffic = traffic; traffic_epoch = root_epoch store; sequence = number }
