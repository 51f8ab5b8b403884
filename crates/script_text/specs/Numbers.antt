-- Decimal numbers.
use Rattle.std.specs.Prelude.{ℕ, ◌+◌, ◌-◌, ◌*◌, ◌&&◌, nat_le, nat_lt, Bool, List, length, Option, None, Some, if◌then◌else◌}
use Rattle.std.specs.List.{fold, list_all}

-- whether a character is a decimal digit
abbrev pub is_digit : ℕ → Bool
is_digit c = nat_le 48 c && nat_le c 57

-- what decimal digits say
abbrev pub number_of : List ℕ → ℕ
number_of digits = fold (λ number digit. number * 10 + (digit - 48)) 0 digits

-- whether a text is one decimal digit or more, but no more than the most
abbrev pub is_number : ℕ → List ℕ → Bool
is_number most text = nat_le 1 (length text) && (nat_le (length text) most && list_all is_digit text)

-- the number that a text of at most this many digits says, where it is below a limit; leading zeros are taken
abbrev pub decimal_in : ℕ → ℕ → List ℕ → Option ℕ
decimal_in most limit text = if is_number most text && nat_lt (number_of text) limit then Some (number_of text) else None
