use Rattle.std.proofs.Common.{◌≡◌, ◌+◌, ◌≤◌, ℕ, take}
use Rattle.console_run.specs.Private.Follows.{at}
use Rattle.group_steps.specs.Devices.{devices}
use Rattle.console_run.specs.Private.Runs.{drawn_by, GoesOn, IsReady, room_left}
use Rattle.console_run.proofs.script_run.ScriptRun.take_piece.Given as goal

-- the octets so far
abbrev pub invariant-loop-octet : goal.invariant-loop-octet
invariant-loop-octet g l = record {
  blocks : (k : ℕ) → g.P.Draws.block_at l.peers k ≡ g.P.Draws.block_at l.fn.peers k;
  ready : IsReady (at l.self (g.K.Sink.shows l.out) (drawn_by g.P.Draws l.peers));
  goes : GoesOn (devices g.D.Disk g.G.Signer g.V.Verifier l.tools.verifier.now) g.R.Draws l.tools.workers (take l.octet-index l.piece)
      (at l.fn.self (g.K.Sink.shows l.fn.out) (drawn_by g.P.Draws l.fn.peers))
      (at l.self (g.K.Sink.shows l.out) (drawn_by g.P.Draws l.peers));
  nearer : room_left (at l.self (g.K.Sink.shows l.out) (drawn_by g.P.Draws l.peers)) + l.octet-index ≤ room_left
      (at l.fn.self (g.K.Sink.shows l.fn.out) (drawn_by g.P.Draws l.fn.peers));
}
