-- What the turns of a block leave of a run.
use Rattle.std.specs.Prelude.{◌≡◌, ℕ, ◌<◌, ◌^◌, Bool, true, MatchBool, List, [], ◌++◌, All, length}
use Rattle.std.specs.List.{flat_map}
use Rattle.desk.specs.Calls.{AreCallsOf}
use Rattle.desk.specs.declared.calls.Call.{Call}
use Rattle.gd_disk.specs.declared.disks.Disk.{Ghosts as DiskGhosts}
use Rattle.gd_edges.specs.declared.draws.Draws.{Ghosts as DrawGhosts}
use Rattle.gd_edges.specs.declared.signers.Signer.{Ghosts as SignerGhosts}
use Rattle.group_model.specs.declared.entries.Answer.{Answer}
use Rattle.group_model.specs.declared.entries.Answer.TheVariants.{Batched}
use Rattle.group_model.specs.declared.entries.Entry.{Entry}
use Rattle.group_peers.specs.Peers.{is_peer}
use Rattle.group_peers.specs.declared.members.Peer.{Peer}
use Rattle.group_run.specs.Mails.{mail_in}
use Rattle.group_run.specs.Private.Kept.{GoesToPeer}
use Rattle.group_run.specs.Views.{View}
use Rattle.register_workers.specs.Blocks.{Worked}
use Rattle.register_workers.specs.declared.lines.BlockAsk.{BlockAsk}
use Rattle.register_workers.specs.declared.lines.BlockAsk.TheVariants.{Again, Join}
use Rattle.register_workers.specs.declared.lines.BlockLine.{BlockLine}
use Rattle.server_steps.specs.Serves.{IsSince}

-- the member of a line that sends is a peer
abbrev pub IsOfPeer : List Peer → BlockAsk → Type 0
IsOfPeer peers (Join m) = is_peer peers m ≡ true
IsOfPeer peers (Again m) = is_peer peers m ≡ true
IsOfPeer peers ask = Unit {0}

-- workers ran the lines
pub record HaveWorked (workers : ℕ) (before turns : List Entry) (short : Bool) (lines news : List BlockLine) : Type 0 where
  pub calls : List (List (Call Entry))
  pub a_list_each : length calls ≡ workers
  pub are_calls : AreCallsOf turns calls
  pub as_many : length news ≡ length lines
  pub worked : (w : ℕ) → w < workers → Worked short before (before ++ turns) workers w lines news calls

-- there was no memory for that, and nothing was done
pub record AreUntouched (turns : List Entry) (short : Bool) (lines news : List BlockLine) : Type 0 where
  pub out : short ≡ true
  pub none : turns ≡ []
  pub same : news ≡ lines

module _ {D G R : Type 0} (d : DiskGhosts D) (g : SignerGhosts G) (draws : DrawGhosts R) where
  -- The turns were added to the history, each a step of the server; what they sent goes to peers, and members know of none of it yet.
  pub record HasTurned (workers : ℕ) (short ran : Bool) (lines news : List BlockLine) (old new : View D G R) : Type 0 where
    pub since : IsSince d g draws (record { server = old.server; before = old.entries }) new.server new.entries
    pub worked : MatchBool ran (HaveWorked workers old.entries since.news short lines news) (AreUntouched since.news short lines news)
    pub members : new.members ≡ old.members
    pub to_peers : All (GoesToPeer new.members.all) (flat_map mail_in since.news)
    pub rules : new.server.rules ≡ old.server.rules

-- the number of a batch has 32 bits
abbrev pub small_by : Answer → Type 0
small_by (Batched output) = output.sequence < 2 ^ 32
small_by answer = Unit {0}

abbrev pub IsSmall : Entry → Type 0
IsSmall entry = small_by entry.answer
