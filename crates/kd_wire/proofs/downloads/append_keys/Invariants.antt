use Rattle.std.proofs.Common.{◌≡◌, ◌++◌, ◌*◌, take, length}
use Rattle.kd_wire.specs.Texts.{path_text}
use Rattle.kd_wire.specs.Widths.{lkh_key_octets}
use Rattle.kd_wire.proofs.downloads.append_keys.Given as goal

abbrev pub invariant-loop-key : goal.invariant-loop-key
invariant-loop-key l = record {
  text : l.out ≡ l.fn.out ++ path_text (take l.key-index l.fn.keys);
  size : length (path_text (take l.key-index l.fn.keys)) ≡ lkh_key_octets * l.key-index;
}
