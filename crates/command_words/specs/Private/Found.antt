-- The arguments that were found so far.
-- An argument that is found makes, with any further ones, the command that the new `Found` makes with them; so the loop's invariant is one equation.
use Rattle.std.specs.Prelude.{◌≡◌, ◌≤◌, List, ◌∷◌, ◌++◌, map, Option, None, IfSome}
use Rattle.std.specs.Option.{option_to_list}
use Rattle.command_words.specs.declared.commands.Command.{Command}
use Rattle.command_words.specs.declared.arguments.Argument.{Argument}
use Rattle.command_words.specs.declared.arguments.Argument.TheVariants.{Opens, Limit, Seed, Workers}
use Rattle.command_words.specs.declared.found.Found.{Found}
use Rattle.command_words.specs.Commands.{HasDepth, command_from}

-- the arguments that were found, one kind after another
abbrev pub found_arguments : Found → List Argument
found_arguments found =
    map Opens (option_to_list found.opening) ++ map Limit (option_to_list found.limit) ++ map Seed (option_to_list found.seed)
    ++ map Workers (option_to_list found.workers)

-- the command of what was found and of more arguments
abbrev pub command_with : Found → List Argument → Option Command
command_with found more = command_from (found_arguments found ++ more)

-- an argument cannot be added to what was found: with it there is no command, whatever more is given
abbrev pub IsRefused : Found → Argument → Type 0
IsRefused found argument = (more : List Argument) → command_with found (argument ∷ more) ≡ None

-- an argument was added to what was found: the command is the same, whatever more is given
abbrev pub IsAdded : Found → Argument → Found → Type 0
IsAdded found argument now = (more : List Argument) → command_with found (argument ∷ more) ≡ command_with now more

-- an argument that a command may have
abbrev pub IsAllowed : Argument → Type 0
IsAllowed (Opens opening) = HasDepth opening
IsAllowed (Limit limit) = 1 ≤ limit
IsAllowed (Seed seed) = Unit {0}
IsAllowed (Workers workers) = (1 ≤ workers) × (workers ≤ 16)

-- what was found may be in a command
pub record AreAllowed (found : Found) : Type 0 where
  pub depth : IfSome found.opening HasDepth
  pub limit : IfSome found.limit (λ limit. 1 ≤ limit)
  pub workers : IfSome found.workers (λ workers. (1 ≤ workers) × (workers ≤ 16))
