-- The words of a line of a script.
use Rattle.std.specs.Prelude.{ℕ, ◌==◌, Bool, true, false, List, [], ◌∷◌, filter, Option, None, Some}
use Rattle.std.specs.List.{slice_split}

-- a space; a tab and a carriage return are part of a word
abbrev pub is_space : ℕ → Bool
is_space c = c == 32

-- whether a piece between two spaces has octets
abbrev pub is_word : List ℕ → Bool
is_word [] = false
is_word (c ∷ cs) = true

-- the pieces between the spaces, without the empty ones: spaces at the ends, and more than one between two words, count for
-- nothing
unfoldable pub words_of : List ℕ → List (List ℕ)
words_of text = filter is_word (slice_split is_space text)

-- the one word of words that have exactly one
abbrev pub only_word : List (List ℕ) → Option (List ℕ)
only_word [] = None
only_word (word ∷ []) = Some word
only_word (word ∷ second ∷ words) = None
