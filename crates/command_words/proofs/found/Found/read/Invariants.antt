use Rattle.std.proofs.Common.{◌≡◌, length, map, string_bytes}
use Rattle.command_words.specs.Options.{◌>>=◌}
use Rattle.command_words.specs.Arguments.{arguments_of}
use Rattle.command_words.specs.Commands.{command_of}
use Rattle.command_words.specs.Private.Found.{AreAllowed, command_with}
use Rattle.command_words.proofs.found.Found.read.Given as goal

-- what was found and the arguments of what is left make the command
abbrev pub invariant-loop-word : goal.invariant-loop-word
invariant-loop-word l = record {
  command : command_of (map string_bytes l.words) ≡ (arguments_of (map string_bytes l.rest) >>= command_with l.found);
  allowed : AreAllowed l.found;
}

abbrev pub decreases-loop-word : goal.decreases-loop-word
decreases-loop-word l = length l.rest
