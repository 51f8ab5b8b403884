-- Names of members: what a script may call one, and when two are the same.
use Rattle.std.specs.Prelude.{ℕ, ◌==◌, ◌&&◌, ◌||◌, nat_le, Bool, List, length, Option, Some, None, if◌then◌else◌}
use Rattle.std.specs.List.{list_all}
use Rattle.std.specs.Str.{bytes_eq}

-- a name is the octets of its text
abbrev pub Name : Type 0
Name = List ℕ

-- a letter from a to z, a digit, or _
abbrev pub is_name_octet : ℕ → Bool
is_name_octet c = (nat_le 97 c && nat_le c 122) || ((nat_le 48 c && nat_le c 57) || c == 95)

-- 1 to 32 such octets
abbrev pub is_name : List ℕ → Bool
is_name text = nat_le 1 (length text) && (nat_le (length text) 32 && list_all is_name_octet text)

-- the name that a text is, where it is one
abbrev pub name_of : List ℕ → Option Name
name_of text = if is_name text then Some text else None

-- whether two names are equal, octet by octet
abbrev pub same_name : Name → Name → Bool
same_name = bytes_eq
