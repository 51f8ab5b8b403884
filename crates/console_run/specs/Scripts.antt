-- A script as octets, and its lines.
use Rattle.std.specs.Prelude.{◌≡◌, ◌⊎◌, ℕ, ◌==◌, nat_lt, Bool, List, [], ◌∷◌, ◌++◌}
use Rattle.std.specs.List.{list_all, slice_split}

-- how many octets a line has at most
abbrev pub longest_line : ℕ
longest_line = 200

-- how many lines a script has at most
abbrev pub most_lines : ℕ
most_lines = 16384

-- how many octets a source is asked for at a time
abbrev pub longest_piece : ℕ
longest_piece = 4096

-- whether each of these numbers is an octet
abbrev pub are_octets : List ℕ → Bool
are_octets octets = list_all (λ octet. nat_lt octet 256) octets

-- octet 10 ends a line
abbrev pub ends_line : ℕ → Bool
ends_line octet = octet == 10

-- what comes after the last line end: a line, where it has octets
abbrev pub unfinished : List ℕ → List (List ℕ)
unfinished [] = []
unfinished (octet ∷ octets) = (octet ∷ octets) ∷ []

-- the lines in the parts between line ends
abbrev pub lines_of_parts : List (List ℕ) → List (List ℕ)
lines_of_parts [] = []
lines_of_parts (part ∷ []) = unfinished part
lines_of_parts (part ∷ next ∷ parts) = part ∷ lines_of_parts (next ∷ parts)

-- the lines of a script, each without its line end
abbrev pub script_lines : List ℕ → List (List ℕ)
script_lines octets = lines_of_parts (slice_split ends_line octets)

-- a text with nothing after its last line end
abbrev pub EndsLine : List ℕ → Type 0
EndsLine text = (text ≡ []) ⊎ ((front : List ℕ) × (text ≡ front ++ 10 ∷ []))
