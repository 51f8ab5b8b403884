use Rattle.std.proofs.Common.{◌≡◌, drop}
use Rattle.std.specs.List.{find}
use Rattle.member_store.specs.Takings.{is_called}
use Rattle.member_store.proofs.takings.called.Given as goal

abbrev pub invariant-loop-key : goal.invariant-loop-key
invariant-loop-key l = find (is_called l.given.by l.given.by_made) (drop l.key-index l.keys) ≡ find (is_called l.given.by l.given.by_made) l.keys
