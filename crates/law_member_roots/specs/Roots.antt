-- At which root of its group a member's store is (the key set of Wong, Gouda and Lam; RFC 6407 section 4).
use Rattle.std.specs.Prelude.{◌≡◌, ℕ, ◌≤◌, List, map, Some}
use Rattle.std.specs.List.{All}
use Rattle.group_terms.specs.Names.{Name}
use Rattle.group_terms.specs.declared.keys.KeyName.TheVariants.{Node}
use Rattle.group_terms.specs.declared.paths.PathKey.{PathKey}
use Rattle.group_values.specs.Values.{HasValue, Made, batches_made, traffic_value}
use Rattle.group_model.specs.Fresh.{key_path}
use Rattle.group_model.specs.Places.{holders_at, place_in}
use Rattle.group_model.specs.Stayed.{sequence_at}
use Rattle.member_store.specs.Stores.{Store, leaf_of, root_epoch}

-- A store of m is at the root of an epoch of which m is a member: its leaf is the place of m then, its path has the keys that m has then, with the values that
-- the batches made, and its SPI is that of the group.
pub record IsAtRoot (depth : ℕ) (rekey : List ℕ) (list : List Made) (epoch : ℕ) (m : Name) (store : Store) : Type 0 where
  pub leaf : place_in depth (holders_at depth (batches_made list) epoch) m ≡ Some (leaf_of store.path)
  pub names : map (λ (key : PathKey). Node key.id key.made) store.path ≡ key_path depth (batches_made list) epoch m
  pub values : All (HasValue list) store.path
  pub spi : store.spi ≡ rekey

-- its traffic key has the value of this epoch's
pub record HasTrafficOf (list : List Made) (epoch : ℕ) (store : Store) : Type 0 where
  pub traffic_epoch : store.traffic_epoch ≡ epoch
  pub traffic : traffic_value list epoch ≡ Some store.traffic

-- A member has the keys of an epoch as the server has them: it is at that root, with that traffic key, and has accepted no number past that of the last push.
pub record HasKeysOf (depth : ℕ) (rekey : List ℕ) (list : List Made) (epoch : ℕ) (m : Name) (store : Store) : Type 0 where
  pub root : IsAtRoot depth rekey list epoch m store
  pub traffic : HasTrafficOf list epoch store
  pub sequence : store.sequence ≤ sequence_at depth (batches_made list) epoch

-- A store is one that m may have in the group, up to date or not: it is at the root whose epoch its root's key tells, has accepted no number past that of the
-- last push then, and its traffic key is that of the epoch for which it is kept, which is no later one.
pub record IsStoreOf (depth : ℕ) (rekey : List ℕ) (list : List Made) (m : Name) (store : Store) : Type 0 where
  pub root : IsAtRoot depth rekey list (root_epoch store) m store
  pub sequence : store.sequence ≤ sequence_at depth (batches_made list) (root_epoch store)
  pub not_later : store.traffic_epoch ≤ root_epoch store
  pub traffic : traffic_value list store.traffic_epoch ≡ Some store.traffic
