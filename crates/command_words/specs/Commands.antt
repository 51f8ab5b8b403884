-- The command that the words ask for: exactly one argument says how a group is opened, and each of the others is there once at most.
use Rattle.std.specs.Prelude.{◌≤◌, ℕ, ◌-◌, ◌^◌, List, Option, None, Some}
use Rattle.std.specs.List.{filter_map}
use Rattle.command_words.specs.declared.commands.Opening.{Opening}
use Rattle.command_words.specs.declared.commands.Opening.TheVariants.{New, Open, Soak}
use Rattle.command_words.specs.declared.commands.Command.{Command}
use Rattle.command_words.specs.declared.arguments.Argument.{Argument}
use Rattle.command_words.specs.declared.arguments.Argument.TheVariants.{Opens, Limit, Seed, Workers}
use Rattle.command_words.specs.Options.{◌>>=◌, one, one_or}
use Rattle.command_words.specs.Arguments.{arguments_of}

-- the opening that an argument asks for, where it asks for one
abbrev pub opening_in : Argument → Option Opening
opening_in (Opens opening) = Some opening
opening_in _ = None

-- the limit that an argument gives, where it gives one
abbrev pub limit_in : Argument → Option ℕ
limit_in (Limit limit) = Some limit
limit_in _ = None

-- the seed that an argument gives, where it gives one
abbrev pub seed_in : Argument → Option ℕ
seed_in (Seed seed) = Some seed
seed_in _ = None

-- how many workers an argument asks for, where it does
abbrev pub workers_in : Argument → Option ℕ
workers_in (Workers workers) = Some workers
workers_in _ = None

-- One opening, and a limit, a seed and a number of workers where they are given: else the limit is the greatest one, the seed is 0, and there is one worker.
abbrev pub command_from : List Argument → Option Command
command_from arguments = do
  opening ← one (filter_map opening_in arguments)
  limit ← one_or (2 ^ 32 - 1) (filter_map limit_in arguments)
  seed ← one_or 0 (filter_map seed_in arguments)
  workers ← one_or 1 (filter_map workers_in arguments)
  Some (record { opening = opening; limit = limit; seed = seed; workers = workers })

-- the command that the words ask for, where they are of the grammar
unfoldable pub command_of : List (List ℕ) → Option Command
command_of words = arguments_of words >>= command_from

-- a depth from 1 to 9, where it has one
abbrev pub HasDepth : Opening → Type 0
HasDepth (New depth) = (1 ≤ depth) × (depth ≤ 9)
HasDepth Open = Unit {0}
HasDepth (Soak number) = Unit {0}

-- a command has a depth from 1 to 9, where it has one, a limit of 1 at least, and from 1 to 16 workers
pub record IsWithin (command : Command) : Type 0 where
  pub depth : HasDepth command.opening
  pub limit : 1 ≤ command.limit
  pub workers : (1 ≤ command.workers) × (command.workers ≤ 16)
