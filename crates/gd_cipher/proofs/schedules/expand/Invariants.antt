use Rattle.std.proofs.Common.{◌≡◌, ◌-◌, ◌/◌, ◌<◌, length, take}
use Rattle.gd_cipher.specs.Schedules.{expanded, power_of_x, schedule}
use Rattle.gd_cipher.specs.Words.{bytes_of}
use Rattle.gd_cipher.proofs.schedules.expand.Given as goal

abbrev pub invariant-loop-i : goal.invariant-loop-i
invariant-loop-i l = record {
  small : l.power < 256;
  power : l.power ≡ power_of_x ((l.i - 1) / l.key_words);
  rest : expanded l.key_words (length l.words - l.i) (bytes_of (take l.i l.words)) ≡ schedule (bytes_of (take l.key_words l.fn.words));
}
