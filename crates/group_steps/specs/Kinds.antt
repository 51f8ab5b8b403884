-- The kinds of steps, whatever is asked: a batch is stored, the group is opened again, or neither.
use Rattle.std.specs.Prelude.{◌≡◌, ◌⊎◌, Bool, true, false, List, ◌∷◌}
use Rattle.group_model.specs.Places.{Fits}
use Rattle.group_model.specs.Servers.{members_now}
use Rattle.group_model.specs.declared.entries.Answer.{Answer}
use Rattle.group_model.specs.declared.entries.Answer.TheVariants.{Batched, Opened}
use Rattle.group_model.specs.declared.entries.Entry.{Entry}
use Rattle.server_steps.specs.Batches.{IsStored}
use Rattle.group_steps.specs.Devices.{Devices, Keying}
use Rattle.group_steps.specs.Laws.{asks_again}
use Rattle.server_steps.specs.Hosts.{Host}
use Rattle.server_steps.specs.Openings.{FindsGroup, Found}
use Rattle.group_steps.specs.Runs.{Run}
use Rattle.group_steps.specs.Steps.{IsRunStep}

-- whether an answer sends something for all to see, or says that a group is open
abbrev pub speaks : Answer → Bool
speaks (Batched output) = true
speaks (Opened seen resent) = true
speaks answer = false

-- The group stays as it is, but for the changes that wait, which still fit if they did. Nothing is sent but a message of a pull.
pub record IsQuiet {D : Type 0} (host : Host D) (answer : Answer) (next : Host D) : Type 0 where
  pub head : next.head ≡ host.head
  pub depth : next.server.depth ≡ host.server.depth
  pub limit : next.server.limit ≡ host.server.limit
  pub list : next.server.list ≡ host.server.list
  pub fits : Fits (members_now host.server) host.server.queue → Fits (members_now host.server) next.server.queue
  pub silent : speaks answer ≡ false

module _ {D G V : Type 0} (on : Devices D G V) (by : Keying G) where
  -- it is asked to open the group again, and a group was found, be it the one that there was or another one
  abbrev pub IsFoundAgain : Host D → Entry → Host D → Type 0
  IsFoundAgain host entry next =
      (found : Found) × (asks_again entry.asked ≡ true) × FindsGroup on.disks on.signers by.signer host found entry.answer entry.outside next

  -- one of the three
  abbrev pub IsOfAKind : Host D → Entry → Host D → Type 0
  IsOfAKind host entry next =
      IsQuiet host entry.answer next ⊎ (IsStored on.disks on.signers by.signer by.block host entry.answer entry.outside next ⊎ IsFoundAgain host entry next)

  -- Each step after the first request is of one of these kinds.
  abbrev pub EachStepIsOfAKind : Type 0
  EachStepIsOfAKind =
      (first : Entry) (before : List Entry) (run : Run D) (entry : Entry) (next : Run D)
      → IsRunStep on by (first ∷ before) run entry next → IsOfAKind run.host entry next.host
