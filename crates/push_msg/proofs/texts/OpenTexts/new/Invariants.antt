use Rattle.std.specs.Prelude.{◌<◌, length}
use Rattle.push_msg.proofs.texts.OpenTexts.new.Given as goal

abbrev pub invariant-loop : goal.invariant-loop
invariant-loop l = 0 < length l.texts.items
