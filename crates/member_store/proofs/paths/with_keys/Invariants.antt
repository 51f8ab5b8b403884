use Rattle.std.proofs.Common.{◌≡◌, ◌++◌, drop, length, map}
use Rattle.member_store.specs.Stores.{renewed_by}
use Rattle.member_store.proofs.paths.with_keys.Given as goal

abbrev pub invariant-loop-key : goal.invariant-loop-key
invariant-loop-key l =
    (l.renewed ++ map (renewed_by l.new) (drop l.key-index l.keys) ≡ map (renewed_by l.new) l.keys)
    × (length l.renewed ≡ l.key-index)
