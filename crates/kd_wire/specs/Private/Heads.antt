-- What is written before the keys of an array, with the header of its attribute.
use Rattle.std.specs.Prelude.{ℕ, List, [], ◌∷◌, ◌++◌}
use Rattle.byteorder.specs.Endian.{big_bytes}
use Rattle.group_terms.specs.declared.paths.PathKey.{PathKey}
use Rattle.kd_wire.specs.Widths.{download_array_octets, update_array_octets}

-- a download array of this number of keys
abbrev pub download_head : ℕ → List ℕ
download_head count = 0 ∷ 1 ∷ big_bytes 2 (download_array_octets count) ++ (1 ∷ big_bytes 2 count ++ (0 ∷ []))

-- an update array of one key, sealed under this one
abbrev pub sealer_head : PathKey → List ℕ
sealer_head by = 0 ∷ 2 ∷ big_bytes 2 update_array_octets ++ (1 ∷ 0 ∷ 1 ∷ 0 ∷ big_bytes 2 by.id ++ (0 ∷ 0 ∷ big_bytes 4 by.made))
