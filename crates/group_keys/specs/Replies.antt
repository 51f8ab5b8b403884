-- What a member is told (RFC 6407 section 3.2), octet for octet.
use Rattle.std.specs.Prelude.{◌≡◌, ℕ, List, length, map, Some}
use Rattle.std.specs.List.{All}
use Rattle.group_terms.specs.Names.{Name}
use Rattle.group_terms.specs.declared.keys.KeyName.TheVariants.{Node}
use Rattle.group_terms.specs.declared.paths.Keyed.{Keyed}
use Rattle.group_terms.specs.declared.paths.PathKey.{PathKey}
use Rattle.group_values.specs.Values.{HasValue, Made, batches_made, traffic_value}
use Rattle.group_model.specs.Fresh.{key_path}
use Rattle.group_model.specs.Stayed.{sequence_at}

-- at the epoch that the last of these batches made: the number of the last push, the SPI of pushes, the keys from the member's leaf to the root, and the
-- traffic key
pub record IsKeyedOf (depth : ℕ) (rekey : List ℕ) (list : List Made) (m : Name) (keyed : Keyed) : Type 0 where
  pub epoch : keyed.epoch ≡ length list
  pub sequence : keyed.sequence ≡ sequence_at depth (batches_made list) (length list)
  pub spi : keyed.spi ≡ rekey
  pub names : map (λ (key : PathKey). Node key.id key.made) keyed.path ≡ key_path depth (batches_made list) (length list) m
  pub values : All (HasValue list) keyed.path
  pub traffic : traffic_value list (length list) ≡ Some keyed.traffic
