-- How long a name is.
use Rattle.std.proofs.Common.{◌≡◌, ℕ, ◌≤◌, List, length, refl}
use Rattle.std.specs.List.{list_all}
use Rattle.std.proofs.lemmas.Bool.{le-leb}
use Rattle.group_terms.specs.Names.{is_name_octet, is_name}

-- a text of 1 to 32 octets is a name where each octet is of one
pub is_name-within : (text : List ℕ) → 1 ≤ length text → length text ≤ 32 → is_name text ≡ list_all is_name_octet text
is_name-within text some few = rw (le-leb 1 (length text) some, le-leb (length text) 32 few) refl
