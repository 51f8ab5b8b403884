-- Names of groups: the octets of an identification (RFC 2407 section 4.6.2.1), of which any is taken.
use Rattle.std.specs.Prelude.{ℕ, ◌&&◌, nat_le, Bool, List, length, Option, Some, None, if◌then◌else◌}

-- 1 to 32 octets
abbrev pub is_group_name : List ℕ → Bool
is_group_name text = nat_le 1 (length text) && nat_le (length text) 32

-- the name that a text is, where it is one
abbrev pub group_name_of : List ℕ → Option (List ℕ)
group_name_of text = if is_group_name text then Some text else None
