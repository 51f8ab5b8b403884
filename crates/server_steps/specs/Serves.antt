-- What a request does to a key server: whatever host it is on, the request is one step of that host.
use Rattle.std.specs.Prelude.{◌≡◌, ℕ, List, ◌++◌, Option, Result, Ok, Err}
use Rattle.gd_disk.specs.declared.disks.Disk.{Ghosts as DiskGhosts}
use Rattle.gd_edges.specs.declared.draws.Draws.{Ghosts as DrawGhosts}
use Rattle.gd_edges.specs.declared.signers.Signer.{Ghosts as SignerGhosts}
use Rattle.group_terms.specs.declared.patterns.Rule.{Rule}
use Rattle.group_model.specs.Seen.{seen_group}
use Rattle.group_model.specs.Servers.{Server, present_batches}
use Rattle.group_model.specs.declared.entries.Answer.{Answer}
use Rattle.group_model.specs.declared.entries.Answer.TheVariants.{Batched, Done, Opened, Refused}
use Rattle.group_model.specs.declared.entries.Asked.{Asked}
use Rattle.group_model.specs.declared.entries.Asked.TheVariants.{Reopen}
use Rattle.group_model.specs.declared.entries.Entry.{Entry}
use Rattle.group_model.specs.declared.entries.Output.{Output}
use Rattle.group_model.specs.declared.entries.PushPair.{PushPair}
use Rattle.group_model.specs.declared.entries.Refusal.{Refusal}
use Rattle.gcks_core.specs.Views.{View as CoreView}
use Rattle.pull_sessions.specs.Sessions.{Sessions, without_sessions}
use Rattle.server_steps.specs.Entries.{noted}
use Rattle.server_steps.specs.Hosts.{Host}
use Rattle.server_steps.specs.Reflects.{IsServerOf}
use Rattle.server_steps.specs.Steps.{AreServed, IsServerStep}
use Rattle.server_steps.specs.Views.{View, server_of}

-- ---- what calls answer, as answers of a history

-- a call that says no more than that it is done
abbrev pub answer_done : Result (Unit {0}) Refusal → Answer
answer_done (Ok done) = Done
answer_done (Err why) = Refused why

-- what a batch puts out
abbrev pub answer_batch : Result Output Refusal → Answer
answer_batch (Ok output) = Batched output
answer_batch (Err why) = Refused why

-- an opening that was granted: it shows the group as it is then, and the pair that was sent again
abbrev pub answer_opened : Server → Option PushPair → Answer
answer_opened server resent = Opened (seen_group server.depth (present_batches server)) resent

-- a call that opens the group again
abbrev pub answer_reopened : Server → Result (Option PushPair) Refusal → Answer
answer_reopened server (Ok resent) = answer_opened server resent
answer_reopened server (Err why) = Refused why

-- the sessions after it
abbrev pub sessions_reopened : Result (Option PushPair) Refusal → Sessions → Sessions
sessions_reopened (Ok resent) sessions = without_sessions sessions
sessions_reopened (Err why) sessions = sessions

-- ---- what requests do

-- what a server is built on goes on: the signer, and the blocks of the draws
pub record GoesOn {D G R : Type 0} (draws : DrawGhosts R) (old new : View D G R) : Type 0 where
  pub signer : new.core.signer ≡ old.core.signer
  pub blocks : (k : ℕ) → draws.block_at new.core.draws k ≡ draws.block_at old.core.draws k

-- where some entries began: the server, and the history up to there
pub record Start (D G R : Type 0) : Type 0 where
  pub server : View D G R
  pub before : List Entry

module _ {D G R : Type 0} (d : DiskGhosts D) (g : SignerGhosts G) (draws : DrawGhosts R) where
  -- the entry of a request that a server answered so is a step of a host to another one
  abbrev pub Noted : Asked → Answer → View D G R → Host D → Host D → Type 0
  Noted request answer old host next =
      IsServerStep d g old.core.signer (draws.block_at old.core.draws) host (noted request answer (draws.place_of old.core.draws)) next

  -- A server answered a request so. Whatever host it was on, the entry of that answer is a step of it, and it is the server of the host after that.
  pub record Serves (request : Asked) (answer : Answer) (old new : View D G R) : Type 0 where
    pub goes_on : GoesOn draws old new
    pub each : (host : Host D) → IsServerOf d draws old host → (next : Host D) × Noted request answer old host next × IsServerOf d draws new next

  -- A core answered a request so, whatever rules and sessions are beside it; these stay.
  abbrev pub ServesBeside : Asked → Answer → CoreView D G R → CoreView D G R → Type 0
  ServesBeside request answer old new =
      (rules : List Rule) (sessions : Sessions) → Serves request answer (server_of old rules sessions) (server_of new rules sessions)

  -- The same of a call that opens the group again: its answer shows the group that is open then.
  pub record ServesReopening (result : Result (Option PushPair) Refusal) (old new : View D G R) : Type 0 where
    pub goes_on : GoesOn draws old new
    pub each : (host : Host D) → IsServerOf d draws old host
        → (next : Host D) × Noted Reopen (answer_reopened next.server result) old host next × IsServerOf d draws new next

  -- Entries were added since. Whatever host the server was on then, they are steps from it, and it is the server of the host after them.
  pub record IsSince (start : Start D G R) (view : View D G R) (entries : List Entry) : Type 0 where
    pub news : List Entry
    pub history : entries ≡ start.before ++ news
    pub goes_on : GoesOn draws start.server view
    pub each : (host : Host D) → IsServerOf d draws start.server host → (next : Host D)
        × AreServed d g start.server.core.signer (draws.block_at start.server.core.draws) host news next × IsServerOf d draws view next
