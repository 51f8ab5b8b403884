use Rattle.std.proofs.Common.{◌≡◌, drop}
use Rattle.std.specs.List.{find}
use Rattle.member_store.specs.Stores.{is_at}
use Rattle.member_store.proofs.paths.new_key.Given as goal

abbrev pub invariant-loop-key : goal.invariant-loop-key
invariant-loop-key l = find (is_at l.id) (drop l.key-index l.keys) ≡ find (is_at l.id) l.keys
