use Rattle.std.proofs.Common.{◌≡◌, ◌*◌, length, take}
use Rattle.kd_wire.specs.Widths.{update_octets}
use Rattle.group_pushes.specs.Private.Jobs.{AreArraysAfter}
use Rattle.group_pushes.proofs.arrays.update_arrays.Given as goal

-- those of the encryptions that were passed
abbrev pub invariant-loop-wrap : goal.invariant-loop-wrap
invariant-loop-wrap l = record {
  made : AreArraysAfter l.fn.tree.kept l.fn.values (take l.wrap-index l.wraps) l.arrays;
  size : length l.arrays ≡ update_octets * l.wrap-index;
}
