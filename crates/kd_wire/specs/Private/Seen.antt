-- What the code keeps of the keys and the arrays that it reads.
use Rattle.std.specs.Prelude.{ℕ, ◌+◌, ◌==◌, ◌||◌, List, [], ◌∷◌, length, Option, Some}
use Rattle.std.specs.List.{list_any}
use Rattle.kd_wire.specs.declared.arrays.Found.{Found}
use Rattle.kd_wire.specs.declared.arrays.Seen.{Seen}
use Rattle.kd_wire.specs.declared.arrays.SeenArray.{SeenArray}
use Rattle.kd_wire.specs.declared.arrays.SeenUpdates.{SeenUpdates}
use Rattle.kd_wire.specs.declared.updates.UpdateArray.{UpdateArray}
use Rattle.kd_wire.specs.declared.updates.UpdateKey.{UpdateKey}
use Rattle.kd_wire.specs.Arrays.{PlacedArray, PlacedUpdates, arrays_of, end_after, gives_root}
use Rattle.kd_wire.specs.Seals.{handle_after, is_root}

-- the handle that is due after some keys, where one is due, and whether one of them is that of the root, or one was before
abbrev pub handle_of_given : Option ℕ → List UpdateKey → Option ℕ
handle_of_given handle [] = handle
handle_of_given handle (key ∷ keys) = handle_of_given (Some key.made) keys

abbrev pub seen_after : Seen → List UpdateKey → Seen
seen_after seen keys = record {
  handle = handle_of_given seen.handle keys;
  has_root =
      seen.has_root || list_any (λ (key : UpdateKey). key.id == 1) keys;
}

-- an array with the same of its keys, after this handle
abbrev pub with_seen : Option ℕ → UpdateArray → SeenArray
with_seen handle array = record {
  array = array;
  seen = record {
    handle = handle_after handle array.keys;
    has_root =
        list_any is_root array.keys;
  };
}

-- what has been found when more arrays are read: whether a key of the root is among theirs, where the last one ends, and how many there are
abbrev pub found_after : Found → List PlacedArray → Found
found_after found more = record {
  has_root = found.has_root || gives_root (arrays_of more);
  end = end_after found.end more;
  arrays = found.arrays + length more;
}

abbrev pub seen_updates : PlacedUpdates → SeenUpdates
seen_updates placed = record { span = placed.span; has_root = gives_root placed.arrays }
