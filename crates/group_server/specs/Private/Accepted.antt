-- What becomes of a server that accepts a message.
use Rattle.std.specs.Prelude.{◌≡◌, ◌⊎◌, ℕ, List, Some, IsSome}
use Rattle.gd_disk.specs.declared.disks.Disk.{Ghosts as DiskGhosts}
use Rattle.gd_edges.specs.declared.draws.Draws.{Ghosts as DrawGhosts}
use Rattle.gd_edges.specs.declared.signers.Signer.{Ghosts as SignerGhosts}
use Rattle.group_terms.specs.Names.{Name}
use Rattle.group_model.specs.declared.entries.Answer.{Answer}
use Rattle.group_model.specs.declared.entries.Answer.TheVariants.{Refused}
use Rattle.group_model.specs.declared.entries.Outside.{Outside}
use Rattle.group_model.specs.declared.entries.Refusal.TheVariants.{NoMemory}
use Rattle.group_terms.specs.declared.paths.Keyed.{Keyed}
use Rattle.group_model.specs.Servers.{Server}
use Rattle.gcks_core.specs.Stands.{Stands}
use Rattle.gcks_core.specs.Views.{View as CoreView}
use Rattle.pull_msgs.specs.Fits.{NonceFits, PoliciesFit}
use Rattle.pull_msgs.specs.declared.messages.First.{First}
use Rattle.pull_msgs.specs.declared.messages.Third.{Third}
use Rattle.pull_sessions.specs.Builds.{IsFourthOf, IsSecondOf}
use Rattle.pull_sessions.specs.Sessions.{HasSession, sa_of}
use Rattle.pull_sessions.specs.declared.sas.Sa.{Sa}
use Rattle.pull_sessions.specs.declared.sas.Session.{Session}
use Rattle.sa_wire.specs.declared.policies.SaPolicy.{SaPolicy}
use Rattle.server_steps.specs.Entries.{beside}
use Rattle.server_steps.specs.Hosts.{Host}
use Rattle.server_steps.specs.Outsides.{Says}
use Rattle.server_steps.specs.Pulls.{Begins, Queues, Replies, RunsOutAtFirst, present_policy}
use Rattle.server_steps.specs.Reflects.{IsServerOf}
use Rattle.server_steps.specs.Serves.{GoesOn}
use Rattle.server_steps.specs.Views.{View}

module _ {D G R : Type 0} (d : DiskGhosts D) (g : SignerGhosts G) (draws : DrawGhosts R) where
  -- Whatever host the server was on, the answer is a step of it of this kind, which leaves its disk, and it is the server of the host after that.
  pub record StepsBy (step : Host D → Answer → Outside → Host D → Type 0) (answer : Answer) (old new : View D G R) : Type 0 where
    pub goes_on : GoesOn draws old new
    pub each : (host : Host D) → IsServerOf d draws old host → (next : Host D)
        × step host answer (beside answer (draws.place_of old.core.draws)) next × (next.disk ≡ host.disk) × IsServerOf d draws new next

  -- a first message is accepted, or memory is short
  abbrev pub AcceptsFirst : Name → First → List ℕ → Answer → View D G R → View D G R → Type 0
  AcceptsFirst m first datagram answer old new =
      StepsBy (λ host answer outside next.
      Begins g old.core.signer (draws.block_at old.core.draws) host m first datagram answer outside next ⊎ RunsOutAtFirst g old.core.signer (draws.block_at old.core.draws) host answer outside next)
      answer old new

  -- a third message of a member is
  abbrev pub AcceptsMember : Name → Third → List ℕ → Answer → View D G R → View D G R → Type 0
  AcceptsMember m third datagram answer old new =
      StepsBy (λ host answer outside next.
      Replies g old.core.signer (draws.block_at old.core.draws) host m third datagram answer outside next ⊎ Says (Refused NoMemory) host answer outside next)
      answer old new

  -- a third message of somebody else is
  abbrev pub AcceptsJoin : Name → Third → List ℕ → Answer → View D G R → View D G R → Type 0
  AcceptsJoin m third datagram answer old new =
      StepsBy (λ host answer outside next.
      Queues g old.core.signer (draws.block_at old.core.draws) host m third datagram answer outside next ⊎ Says (Refused NoMemory) host answer outside next)
      answer old new

-- ---- messages

-- a second message of a member, by what its core has
pub record IsSecondNow {D G R : Type 0} (g : SignerGhosts G) (draws : DrawGhosts R) (core : CoreView D G R) (sas : List Sa) (m : Name) (first : First)
    (nr second : List ℕ) : Type 0 where
  pub nonce_fits : NonceFits nr
  pub policy : SaPolicy
  pub policy_is : (server : Server) → Stands draws core server → policy ≡ present_policy core.head.spi (g.kind_of core.signer) server.list
  pub policy_fits : PoliciesFit policy
  pub kek : IsSome policy.kek
  pub tek : IsSome policy.tek
  pub is_text : (sa : Sa) → sa_of sas m ≡ Some sa → IsSecondOf sa.phase first nr policy second

-- a fourth message in the session of a member, with these keys
abbrev pub IsFourthNow : List Sa → Name → Third → Keyed → List ℕ → Type 0
IsFourthNow sas m third keyed fourth = (sa : Sa) (session : Session) → HasSession sas m sa session → IsFourthOf sa.phase session third.next_iv keyed fourth
