use Rattle.std.proofs.Common.{◌≡◌, true, ℕ, List}
use Rattle.std.specs.Io.KnownBytes.{Consumes}
use Rattle.console_run.specs.Scripts.{are_octets}
use Rattle.console_run.specs.Private.Follows.{at}
use Rattle.group_steps.specs.Devices.{devices}
use Rattle.console_run.specs.Private.Runs.{drawn_by, GoesOn, IsReady, room_left}
use Rattle.console_run.proofs.script_run.ScriptRun.take_script.Given as goal

-- what was taken so far was run
abbrev pub invariant-pieces : goal.invariant-pieces
invariant-pieces g l = record {
  blocks : (k : ℕ) → g.P.Draws.block_at l.peers k ≡ g.P.Draws.block_at l.fn.peers k;
  ready : IsReady (at l.self (g.K.Sink.shows l.out) (drawn_by g.P.Draws l.peers));
  no_fault : (g.S.Source.shows l.script).faults ≡ (g.S.Source.shows l.fn.script).faults;
  goes : (taken : List ℕ) × Consumes (g.S.Source.shows l.fn.script).octets (g.S.Source.shows l.script).octets taken × (are_octets taken ≡ true)
      × GoesOn (devices g.D.Disk g.G.Signer g.V.Verifier l.tools.verifier.now) g.R.Draws l.tools.workers taken (at l.fn.self (g.K.Sink.shows l.fn.out) (drawn_by g.P.Draws l.fn.peers))
      (at l.self (g.K.Sink.shows l.out) (drawn_by g.P.Draws l.peers));
}

abbrev pub decreases-pieces : goal.decreases-pieces
decreases-pieces g l = room_left (at l.self (g.K.Sink.shows l.out) (drawn_by g.P.Draws l.peers))
