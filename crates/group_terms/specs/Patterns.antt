-- Which members a rule of the policy matches: a name matches one member, a name with a `*` after it all whose names begin with it, and `*` alone everybody.
use Rattle.std.specs.Prelude.{ℕ, ◌-◌, ◌==◌, ◌&&◌, ◌||◌, Bool, List, length, take, slice_index_or, Option, None, Some, if◌then◌else◌}
use Rattle.std.specs.Str.{bytes_eq}
use Rattle.group_terms.specs.Names.{Name, is_name, same_name}

-- the octet of `*`
abbrev pub star : ℕ
star = 42

-- its last octet is a `*`
abbrev pub ends_in_star : List ℕ → Bool
ends_in_star text = slice_index_or text (length text - 1) 0 == star

-- all octets but the last one
abbrev pub front_of : List ℕ → List ℕ
front_of text = take (length text - 1) text

-- a name, a name with a `*` after it, or a `*` alone
abbrev pub is_pattern : List ℕ → Bool
is_pattern text = is_name text || (ends_in_star text && (length text == 1 || is_name (front_of text)))

-- the pattern that a text is, where it is one
abbrev pub pattern_of : List ℕ → Option (List ℕ)
pattern_of text = if is_pattern text then Some text else None

-- a text has another one at its front
abbrev pub begins_with : List ℕ → List ℕ → Bool
begins_with text front = bytes_eq front (take (length front) text)

-- whether a pattern matches a member
abbrev pub matches : List ℕ → Name → Bool
matches pattern m = if ends_in_star pattern then begins_with m (front_of pattern) else same_name pattern m
