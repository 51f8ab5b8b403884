use Rattle.std.proofs.Common.{◌≡◌, ◌≤◌, ◌-◌}
use Rattle.gd_cipher.specs.Ciphers.{add_round_key}
use Rattle.gd_cipher.specs.Words.{bytes_of}
use Rattle.gd_cipher.specs.Private.Equivalents.{equivalently_undone}
use Rattle.gd_cipher.proofs.blocks.decrypt.Given as goal

abbrev pub invariant-loop-round : goal.invariant-loop-round
invariant-loop-round l = record {
  down : 1 ≤ l.round;
  left : equivalently_undone (bytes_of l.words) (l.round - 1) (bytes_of l.state)
      ≡ equivalently_undone (bytes_of l.words) (l.rounds - 1) (add_round_key (bytes_of l.words) l.rounds (bytes_of l.fn.state));
}
