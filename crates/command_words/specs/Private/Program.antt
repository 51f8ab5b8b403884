-- The command line as it is built for `clap`, and the command that the texts which `clap` finds say.
use Rattle.std.specs.Prelude.{ℕ, ◌-◌, ◌^◌, true, List, Option, Some, codes}
use Rattle.std.specs.Option.{option_map, option_map_or}
use Rattle.clap.specs.Walk.{Rule}
use Rattle.clap.specs.Simple.{App, new_app, new_rule, on_top, with_rule}
use Rattle.clap.specs.declared.builder.action.ArgAction.TheVariants.{Set, SetTrue}
use Rattle.command_words.specs.declared.commands.Command.{Command}
use Rattle.command_words.specs.declared.commands.Opening.{Opening}
use Rattle.command_words.specs.declared.commands.Opening.TheVariants.{New, Open, Soak}
use Rattle.command_words.specs.Options.{◌>>=◌}
use Rattle.command_words.specs.Arguments.{number_between}

-- an argument that takes no text
abbrev pub flag_rule : List ℕ → Rule
flag_rule name = record (new_rule name) { long = Some name; action = Some SetTrue }

-- an argument that takes a text
abbrev pub number_rule : List ℕ → Rule
number_rule name = record (new_rule name) { long = Some name; action = Some Set }

-- no argument yet, and no name of a program before the words
abbrev pub no_argument : App
no_argument = on_top (λ s. record s { no_binary_name = true }) (new_app (codes "gdoi_console"))

-- the arguments of the command line
unfoldable pub program : App
program =
    with_rule (with_rule (with_rule (with_rule (with_rule (with_rule no_argument (flag_rule (codes "open"))) (number_rule (codes "new")))
    (number_rule (codes "soak"))) (number_rule (codes "limit"))) (number_rule (codes "seed"))) (number_rule (codes "workers"))

-- the soak that the text of `--soak` asks for; where there is none, the group of the disk is opened
abbrev pub soak_given : Option (List ℕ) → Option Opening
soak_given text = option_map_or (λ text. option_map (λ number. Soak number) (number_between 0 (2 ^ 64 - 1) text)) text (Some Open)

-- the opening that the text of `--new` asks for; where there is none, that of `--soak`
abbrev pub opening_given : Option (List ℕ) → Option (List ℕ) → Option Opening
opening_given new soak = option_map_or (λ text. option_map (λ depth. New depth) (number_between 1 9 text)) new (soak_given soak)

-- the number that a text says, or the one that holds where there is none
abbrev pub number_given : ℕ → ℕ → ℕ → Option (List ℕ) → Option ℕ
number_given least greatest absent text = option_map_or (number_between least greatest) text (Some absent)

-- the command of these parts, where all of them are there
abbrev pub command_of_parts : Option Opening → Option ℕ → Option ℕ → Option ℕ → Option Command
command_of_parts opening limit seed workers = do
  opening ← opening
  limit ← limit
  seed ← seed
  workers ← workers
  Some (record { opening = opening; limit = limit; seed = seed; workers = workers })

-- the command that the texts of the arguments say
abbrev pub command_given : (List ℕ → Option (List ℕ)) → Option Command
command_given text =
    command_of_parts (opening_given (text (codes "new")) (text (codes "soak"))) (number_given 1 (2 ^ 32 - 1) (2 ^ 32 - 1) (text (codes "limit")))
    (number_given 0 (2 ^ 64 - 1) 0 (text (codes "seed"))) (number_given 1 16 1 (text (codes "workers")))
