-- The steps of a run: what is answered to each request, what the outside did meanwhile, and the run after it. Members send what they ask the server; the server
-- serves a request, and what it sends is on its way to them; or a member acts, and the host stays as it is.
use Rattle.std.specs.Prelude.{◌≡◌, ℕ, List, [], Option}
use Rattle.std.specs.Option.{option_map}
use Rattle.gd_disk.specs.Moments.{Keeps}
use Rattle.gd_disk.specs.declared.disks.Disk.{Ghosts as DiskGhosts}
use Rattle.gd_edges.specs.declared.signers.Signer.{Ghosts as SignerGhosts}
use Rattle.group_model.specs.Answers.{BeginsWithOpening}
use Rattle.group_model.specs.declared.entries.Answer.{Answer}
use Rattle.group_model.specs.declared.entries.Asked.{Asked}
use Rattle.group_model.specs.declared.entries.Asked.TheVariants.{Create, Begin, Lose, Again, Keep, Deliver, Key, Derive, Now, Together, Together2}
use Rattle.group_model.specs.declared.entries.Entry.{Entry}
use Rattle.group_model.specs.declared.entries.Outside.{Outside}
use Rattle.server_steps.specs.Disks.{Counts}
use Rattle.server_steps.specs.Hosts.{Host}
use Rattle.server_steps.specs.Openings.{IsBeginning, IsCreation}
use Rattle.server_steps.specs.Outsides.{quiet}
use Rattle.server_steps.specs.Sent.{SentPush, last_push}
use Rattle.server_steps.specs.Steps.{IsServed}
use Rattle.member_steps.specs.Acts.{Acts, IsReady}
use Rattle.member_steps.specs.Members.{Members}
use Rattle.member_steps.specs.Steps.{IsMemberStep}
use Rattle.group_steps.specs.Chains.{Along}
use Rattle.group_steps.specs.Devices.{Devices, Keying}
use Rattle.group_steps.specs.Gets.{get}
use Rattle.group_steps.specs.Questions.{IsLook, IsMark, IsQuestion}
use Rattle.group_steps.specs.Runs.{Run, with_members}

-- One entry is such a step. The disk stays as honest as it is, and a fault of it was counted exactly where the entry notes one.
pub record IsStepBy {D : Type 0} (d : DiskGhosts D) (step : Run D → Answer → Outside → Run D → Type 0) (run : Run D) (entry : Entry) (next : Run D)
    : Type 0 where
  pub answered : step run entry.answer entry.outside next
  pub keeps : Keeps d run.host.disk next.host.disk
  pub counts : Counts d entry.outside.disk_failed run.host.disk next.host.disk

-- the datagram of the last push of this number that was sent before
abbrev pub push_sent : List Entry → ℕ → Option (List ℕ)
push_sent before number = option_map (λ (push : SentPush). push.datagram) (last_push before number)

-- a group is made, or first opened, before all else; the members stay
pub record IsOpening {D : Type 0} (before : List Entry) (step : Host D → Answer → Outside → Host D → Type 0) (run : Run D) (answer : Answer)
    (outside : Outside) (next : Run D) : Type 0 where
  pub is_first : before ≡ []
  pub opens : step run.host answer outside next.host
  pub stay : next.members ≡ run.members

-- a member does what it is asked to do; the host stays
pub record IsActing {D : Type 0} (acts : Members → Answer → Members → Type 0) (run : Run D) (answer : Answer) (outside : Outside) (next : Run D) : Type 0 where
  pub acted : acts run.members answer next.members
  pub beside : outside ≡ quiet run.host
  pub stays : next.host ≡ run.host

-- the server serves a request, and what it sends is on its way to the members
pub record IsServing {D G : Type 0} (d : DiskGhosts D) (g : SignerGhosts G) (signer : G) (block : ℕ → List ℕ) (request : Asked) (run : Run D)
    (answer : Answer) (outside : Outside) (next : Run D) : Type 0 where
  pub served : IsServed d g signer block request run.host answer outside next.host
  pub gets : next.members ≡ get request answer run.members

module _ {D G V : Type 0} (on : Devices D G V) (by : Keying G) where
  -- a member does what it is asked to do, given the pushes that were sent so far
  abbrev pub IsMemberActing : List Entry → Asked → Run D → Answer → Outside → Run D → Type 0
  IsMemberActing before request run answer outside next =
      IsActing (IsMemberStep on.verifiers on.verifier (push_sent before) request) run answer outside next

  -- the answer to a request after these entries, once the members sent what they ask
  abbrev pub IsAnswered : List Entry → Asked → Run D → Answer → Outside → Run D → Type 0
  IsAnswered before (Create depth) run answer outside next = IsOpening before (IsCreation on.disks by.block depth) run answer outside next
  IsAnswered before Begin run answer outside next = IsOpening before (IsBeginning on.disks on.signers by.signer) run answer outside next
  IsAnswered before (Lose m) run answer outside next = IsMemberActing before (Lose m) run answer outside next
  IsAnswered before (Again m) run answer outside next = IsMemberActing before (Again m) run answer outside next
  IsAnswered before (Keep m) run answer outside next = IsMemberActing before (Keep m) run answer outside next
  IsAnswered before (Deliver m number) run answer outside next = IsMemberActing before (Deliver m number) run answer outside next
  IsAnswered before (Key m) run answer outside next = IsMemberActing before (Key m) run answer outside next
  IsAnswered before (Derive epoch members) run answer outside next = IsQuestion before epoch members run answer outside next
  IsAnswered before Now run answer outside next = IsLook before run answer outside next
  IsAnswered before (Together lines) run answer outside next = IsMark run answer outside next
  IsAnswered before Together2 run answer outside next = IsMark run answer outside next
  IsAnswered before asked run answer outside next = IsServing on.disks on.signers by.signer by.block asked run answer outside next

  -- once the members acted so, an entry answers a request
  abbrev pub IsAnsweredAfter : Members → List Entry → Run D → Entry → Run D → Type 0
  IsAnsweredAfter acted before run entry next = IsStepBy on.disks (IsAnswered before entry.asked) (with_members run acted) entry next

  -- An entry may follow on those before it, which made this run, and leaves that one: members act, and then it answers a request. Which acts come between, and
  -- in which order datagrams come, is free here; the lines of a script say it.
  pub record IsRunStep (before : List Entry) (run : Run D) (entry : Entry) (next : Run D) : Type 0 where
    pub acted : Members
    pub acts : Acts by.members_block by.group run.members acted
    pub ready : IsReady entry.asked acted
    pub answered : IsAnsweredAfter acted before run entry next

  -- each entry is a step, from the run that those before it made
  abbrev pub AreRunSteps : List Entry → Run D → List Entry → Run D → Type 0
  AreRunSteps = Along IsRunStep

  -- A history from the opening on, and the run after it; where the opening failed, nothing is after that. What follows where memory ran out is for who asks.
  pub record IsHistory (start : Run D) (entries : List Entry) (after : Run D) : Type 0 where
    pub begins : BeginsWithOpening entries
    pub steps : AreRunSteps [] start entries after
