use Rattle.std.proofs.Common.{◌≡◌, ◌++◌, map, take}
use Rattle.server_steps.specs.Private.Told.{node_name}
use Rattle.server_steps.proofs.replying.push_names.Given as goal

-- the names of the keys that it went over
abbrev pub invariant-loop-key : goal.invariant-loop-key
invariant-loop-key l = l.names ≡ l.initial.names ++ map node_name (take l.key-index l.keys)
