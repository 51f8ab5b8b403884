-- What a line of a script says.
use Rattle.std.specs.Prelude.{ℕ, ◌^◌, ◌&&◌, nat_lt, nat_le, nat_eq, List, [], ◌∷◌, length, Option, None, Some, if◌then◌else◌, codes}
use Rattle.std.specs.List.{starts_with}
use Rattle.std.specs.Option.{option_map, option_and_then}
use Rattle.std.specs.Str.{bytes_eq}
use Rattle.group_terms.specs.Names.{Name, name_of}
use Rattle.group_terms.specs.Patterns.{pattern_of}
use Rattle.script_text.specs.Words.{words_of, only_word}
use Rattle.script_text.specs.Numbers.{decimal_in}
use Rattle.script_text.specs.declared.lines.Line.{Line}
use Rattle.script_text.specs.declared.lines.Line.TheVariants.{Nothing, Allow, Deny, Join, Again, Lose, Leave, Batch, Deliver, DeliverAll, Key, Derive, Halt, Reopen, Show, Now, Together, End}

-- a command of one word
abbrev pub lone_command : List ℕ → Option Line
lone_command command =
    if bytes_eq command (codes "batch") then Some Batch
    else (if bytes_eq command (codes "deliver-all") then Some DeliverAll
    else (if bytes_eq command (codes "halt") then Some Halt
    else (if bytes_eq command (codes "reopen") then Some Reopen
    else (if bytes_eq command (codes "show") then Some Show
    else (if bytes_eq command (codes "now") then Some Now
    else (if bytes_eq command (codes "together") then Some Together
    else (if bytes_eq command (codes "end") then Some End
    else None)))))))

-- a command and its one argument
abbrev pub command_with : List ℕ → List ℕ → Option Line
command_with command name =
    if bytes_eq command (codes "allow") then option_map Allow (pattern_of name)
    else (if bytes_eq command (codes "deny") then option_map Deny (pattern_of name)
    else (if bytes_eq command (codes "join") then option_map Join (name_of name)
    else (if bytes_eq command (codes "again") then option_map Again (name_of name)
    else (if bytes_eq command (codes "lose") then option_map Lose (name_of name)
    else (if bytes_eq command (codes "leave") then option_map Leave (name_of name)
    else (if bytes_eq command (codes "key") then option_map Key (name_of name)
    else None))))))

-- a number of 1 to 10 decimal digits, below 2^32
abbrev pub number_in : List ℕ → Option ℕ
number_in text = decimal_in 10 (2 ^ 32) text

-- the names that words are, where each is one
abbrev pub names_of : List (List ℕ) → Option (List Name)
names_of [] = Some []
names_of (word ∷ words) = option_and_then (λ name. option_map (λ names. name ∷ names) (names_of words)) (name_of word)

-- 1 to 8 names
abbrev pub members_of : List (List ℕ) → Option (List Name)
members_of words = if nat_le 1 (length words) && nat_le (length words) 8 then names_of words else None

-- which member is given the push of which number
abbrev pub deliver_of : List ℕ → List (List ℕ) → Option Line
deliver_of name numbers =
    option_and_then (λ member. option_map (Deliver member) (option_and_then number_in (only_word numbers))) (name_of name)

-- the key of which epoch, and whether these members derive it
abbrev pub derive_of : List ℕ → List (List ℕ) → Option Line
derive_of number names = option_and_then (λ epoch. option_map (λ members. Derive epoch members) (members_of names)) (number_in number)

-- a command and its two arguments or more: the first one, and the others
abbrev pub command_with_more : List ℕ → List ℕ → List (List ℕ) → Option Line
command_with_more command first others =
    if bytes_eq command (codes "deliver") then deliver_of first others
    else (if bytes_eq command (codes "derive") then derive_of first others
    else None)

-- a command, by the words after it
abbrev pub command_of : List ℕ → List (List ℕ) → Option Line
command_of command [] = lone_command command
command_of command (first ∷ []) = command_with command first
command_of command (first ∷ second ∷ others) = command_with_more command first (second ∷ others)

-- empty lines and comments: no word, or a number sign at the first word
abbrev pub line_of_words : List (List ℕ) → Option Line
line_of_words [] = Some Nothing
line_of_words (command ∷ others) =
    if starts_with nat_eq command (codes "#") then Some Nothing else command_of command others

-- what a line says, if it is one of the grammar; none is of more than 200 octets
unfoldable pub line_of : List ℕ → Option Line
line_of text = if nat_lt 200 (length text) then None else line_of_words (words_of text)
