use Rattle.std.proofs.Common.{◌≡◌, take, min}
use Rattle.script_text.specs.Numbers.{number_of}
use Rattle.script_text.proofs.numbers.number_of.Given as goal

abbrev pub invariant-loop-digit : goal.invariant-loop-digit
invariant-loop-digit l = l.number ≡ min (number_of (take l.digit-index l.digits)) l.limit
