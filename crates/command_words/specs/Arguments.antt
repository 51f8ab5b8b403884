-- The arguments of the command line: `--new` with a number from 1 to 9, `--open` with none, `--soak` with a number from 0 to 2^64 - 1, `--limit` with a
-- number from 1 to 2^32 - 1, `--seed` with a number from 0 to 2^64 - 1, and `--workers` with a number from 1 to 16. A number is the next word, or it is in
-- the same word after an equals sign.
use Rattle.std.specs.Prelude.{ℕ, ◌+◌, ◌-◌, ◌^◌, ◌==◌, nat_le, Bool, List, [], ◌∷◌, take, drop, position, Option, None, Some, if◌then◌else◌}
use Rattle.std.specs.Prelude.{codes}
use Rattle.std.specs.Option.{is_some, option_map, option_map_or}
use Rattle.std.specs.Str.{bytes_eq}
use Rattle.script_text.specs.Numbers.{decimal_in}
use Rattle.command_words.specs.declared.commands.Opening.TheVariants.{New, Open, Soak}
use Rattle.command_words.specs.declared.arguments.Argument.{Argument}
use Rattle.command_words.specs.declared.arguments.Argument.TheVariants.{Opens, Limit, Seed, Workers}
use Rattle.command_words.specs.Options.{◌>>=◌}

-- the number that 1 to 20 decimal digits say, where it is from a least to a greatest one
abbrev pub number_between : ℕ → ℕ → List ℕ → Option ℕ
number_between least greatest text = do
  number ← decimal_in 20 (greatest + 1) text
  if nat_le least number then Some number else None

-- an argument that takes a number: its name, and the text of its number
abbrev pub argument_with : List ℕ → List ℕ → Option Argument
argument_with name text =
    if bytes_eq name (codes "--new") then option_map (λ depth. Opens (New depth)) (number_between 1 9 text)
    else (if bytes_eq name (codes "--soak") then option_map (λ number. Opens (Soak number)) (number_between 0 (2 ^ 64 - 1) text)
    else (if bytes_eq name (codes "--limit") then option_map Limit (number_between 1 (2 ^ 32 - 1) text)
    else (if bytes_eq name (codes "--seed") then option_map Seed (number_between 0 (2 ^ 64 - 1) text)
    else (if bytes_eq name (codes "--workers") then option_map Workers (number_between 1 16 text)
    else None))))

-- whether a character is the equals sign
abbrev pub is_equals_sign : ℕ → Bool
is_equals_sign c = c == 61

-- an argument that takes no number
abbrev pub lone_argument : List ℕ → Option Argument
lone_argument word = if bytes_eq word (codes "--open") then Some (Opens Open) else None

-- an argument in one word: a name and a number, with the first equals sign between them, or an argument that takes no number
abbrev pub argument_in : List ℕ → Option Argument
argument_in word =
    option_map_or (λ at. argument_with (take at word) (drop (at + 1) word)) (position is_equals_sign word) (lone_argument word)

-- an argument, and further ones after it
abbrev pub followed_by : Option Argument → Option (List Argument) → Option (List Argument)
followed_by first others = do
  argument ← first
  arguments ← others
  Some (argument ∷ arguments)

-- the arguments that words are, one after the other: each is one word, or else a name and then its number
abbrev pub arguments_of : List (List ℕ) → Option (List Argument)
arguments_of [] = Some []
arguments_of (word ∷ []) = followed_by (argument_in word) (Some [])
arguments_of (word ∷ next ∷ words) =
    if is_some (argument_in word) then followed_by (argument_in word) (arguments_of (next ∷ words))
    else followed_by (argument_with word next) (arguments_of words)
