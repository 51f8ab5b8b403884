use Rattle.std.proofs.Common.{◌≡◌, ◌+◌, ◌*◌, ◌≤◌, ◌++◌, drop, length}
use Rattle.group_records.specs.Texts.{changes_text}
use Rattle.group_records.proofs.changes.append_changes.Given as goal

abbrev pub invariant-loop-change : goal.invariant-loop-change
invariant-loop-change l = record {
  octets : l.out ++ changes_text (drop l.change-index l.batch) ≡ l.fn.out ++ changes_text l.batch;
  few : length l.out ≤ length l.fn.out + 34 * l.change-index;
}
