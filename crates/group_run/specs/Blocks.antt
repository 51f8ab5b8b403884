-- What a block of lines gives to a history: first what its members begin, line by line; then the turns of the workers that run the lines side by side; then what
-- members do with the datagrams that came meanwhile; and at last what the looks at the board showed.
use Rattle.std.specs.Prelude.{◌≡◌, ◌⊎◌, ℕ, zero, suc, ◌<◌, ◌&&◌, Bool, true, false, List, [], ◌∷◌, ◌++◌, drop, length, map, if◌then◌else◌}
use Rattle.std.specs.Prelude.{Option, None, Some}
use Rattle.std.specs.List.{AllZip, filter_map, list_any}
use Rattle.desk.specs.Calls.{AreCallsOf}
use Rattle.desk.specs.declared.calls.Call.{Call}
use Rattle.epoch_board.specs.declared.pairs.Seen.{Seen}
use Rattle.gd_disk.specs.declared.disks.Disk.{Ghosts as DiskGhosts}
use Rattle.gd_edges.specs.declared.signers.Signer.{Ghosts as SignerGhosts}
use Rattle.group_terms.specs.Names.{Name}
use Rattle.group_terms.specs.declared.phases.Phase1.{Phase1}
use Rattle.group_model.specs.Answers.{ran_out}
use Rattle.group_model.specs.declared.entries.Answer.{Answer}
use Rattle.group_model.specs.declared.entries.Asked.{Asked}
use Rattle.group_model.specs.declared.entries.Asked.TheVariants as requests
use Rattle.group_model.specs.declared.entries.Entry.{Entry}
use Rattle.group_model.specs.declared.entries.Outside.{Outside}
use Rattle.group_peers.specs.Peers.{is_named, loses, peer_of, phase_of, sent_by, was_introduced, with_loss}
use Rattle.group_peers.specs.declared.members.Peer.{Peer}
use Rattle.group_steps.specs.Chains.{Along}
use Rattle.group_steps.specs.Devices.{Keying}
use Rattle.group_steps.specs.Gets.{mail_by, mail_to}
use Rattle.group_steps.specs.Questions.{IsLook, IsMark, answer_pair}
use Rattle.group_steps.specs.Runs.{Run, with_members}
use Rattle.group_steps.specs.Steps.{IsActing, IsServing, IsStepBy}
use Rattle.member_steps.specs.Acts.{Acts, Agrees, BeginsPull, IsIgnoring, IsReady, IsUse}
use Rattle.member_steps.specs.Members.{Mail, Members, with_all}
use Rattle.member_steps.specs.Steps.{HasSentNothing, IsKeeping}
use Rattle.register_workers.specs.Blocks.{Worked}
use Rattle.register_workers.specs.Own.{serves}
use Rattle.register_workers.specs.declared.lines.BlockAsk.{BlockAsk}
use Rattle.register_workers.specs.declared.lines.BlockAsk.TheVariants.{Again, Join}
use Rattle.register_workers.specs.declared.lines.BlockLine.{BlockLine}

-- ---- lines that are handed to workers

-- with what its member has: its pull, the datagram that it sent last, and whether the next one to it goes missing
pub record HasOf (m : Name) (members : Members) (line : BlockLine) : Type 0 where
  pub peer : Peer
  pub is_there : peer_of members.all m ≡ Some peer
  pub pull : line.pull ≡ peer.pull
  pub sent : line.sent ≡ peer.sent
  pub loses : line.lose ≡ peer.loses

-- with nothing, where it asks nothing of a member's pull
pub record HasNothing (line : BlockLine) : Type 0 where
  pub pull : line.pull ≡ None
  pub sent : line.sent ≡ None
  pub loses : line.lose ≡ false

-- by what it asks
abbrev pub Has : BlockAsk → Members → BlockLine → Type 0
Has (Join m) members line = HasOf m members line
Has (Again m) members line = HasOf m members line
Has ask members line = HasNothing line

pub record IsHanded (members : Members) (ask : BlockAsk) (line : BlockLine) : Type 0 where
  pub asked : line.asked ≡ ask
  pub has : Has ask members line

abbrev pub AreHanded : Members → List BlockAsk → List BlockLine → Type 0
AreHanded members asks lines = AllZip (IsHanded members) asks lines

-- ---- members once they were run

-- whether a line is for the pull of this peer
abbrev pub is_for : BlockAsk → Peer → Bool
is_for (Join m) peer = is_named m peer
is_for (Again m) peer = is_named m peer
is_for ask peer = false

-- a peer with what its line has, if there is one
abbrev pub took : List BlockLine → Peer → Peer
took [] peer = peer
took (line ∷ lines) peer = if is_for line.asked peer then record peer { pull = line.pull; sent = line.sent; loses = line.lose } else took lines peer

-- A datagram that turns left on its way, and whether it answers one of its member.
pub record Left : Type 0 where
  pub mail : Mail
  pub own : Bool

-- What answers a member is on its way, unless the member sent another datagram later in the block: then it has read it. So are the replies of a batch.
abbrev pub left_by : Asked → Answer → List Entry → List Left
left_by (requests.Serve m datagram) answer later =
    if list_any (serves m) later then [] else map (λ (mail : Mail). record { mail = mail; own = true }) (mail_to m answer)
left_by requests.Batch answer later = map (λ (mail : Mail). record { mail = mail; own = false }) (mail_by answer)
left_by asked answer later = []

abbrev pub left_of : List Entry → List Left
left_of [] = []
left_of (turn ∷ later) = left_by turn.asked turn.answer later ++ left_of later

-- what the members are then
abbrev pub taken_back : List BlockLine → List Entry → Members → Members
taken_back news turns members = record members { all = map (took news) members.all; mail = map (λ (left : Left). left.mail) (left_of turns) }

-- For each of these whether it goes missing: the first datagram that comes for a line does, where the next one to its member was to go missing when the block began.
abbrev pub marks_of : Members → List Entry → List Bool
marks_of members turns = map (λ (left : Left). left.own && loses members.all left.mail.0) (left_of turns)

-- a mark for the first datagram on its way
abbrev pub marked_first : List Bool → List Mail → Members → Members
marked_first (true ∷ marks) (mail ∷ later) members = with_all members (with_loss members.all mail.0 true)
marked_first marks mail members = members

abbrev pub marked : List Bool → Members → Members
marked marks members = marked_first marks members.mail members

-- ---- what looks at the board showed

abbrev pub seen_in : List BlockLine → List Seen
seen_in lines = filter_map (λ (line : BlockLine). line.seen) lines

-- ---- places in a run

-- The history so far, the run that it made, and the members as they are since: they may have acted.
pub record Point (D : Type 0) : Type 0 where
  pub entries : List Entry
  pub run : Run D
  pub present : Members

-- with these members
abbrev pub at_present : {D : Type 0} → Point D → Members → Point D
at_present old present = record old { present = present }

-- One entry is added, which answers this request by such a step, once members acted so; memory ran out for it, or not.
pub record Adds {D : Type 0} (d : DiskGhosts D) (out : Bool) (step : Run D → Answer → Outside → Run D → Type 0) (acted : Members) (request : Asked)
    (old new : Point D) : Type 0 where
  pub entry : Entry
  pub added : new.entries ≡ old.entries ++ entry ∷ []
  pub asked : entry.asked ≡ request
  pub stepped : IsStepBy d step (with_members old.run acted) entry new.run
  pub present : new.present ≡ new.run.members
  pub memory : ran_out entry.answer ≡ out

module _ {D : Type 0} (d : DiskGhosts D) where
  -- a mark in the history
  abbrev pub Marks : Asked → Point D → Point D → Type 0
  Marks request old new = Adds d false IsMark old.present request old new

  -- a look showed this pair
  pub record Looks (seen : Seen) (old new : Point D) : Type 0 where
    pub adds : Adds d false (IsLook old.entries) old.present requests.Now old new
    pub pair : adds.entry.answer ≡ answer_pair seen

  -- looks showed these, one after the other
  abbrev pub LooksAll : List Seen → Point D → Point D → Type 0
  LooksAll [] old new = new ≡ old
  LooksAll (seen ∷ pairs) old new = (mid : Point D) × Looks seen old mid × LooksAll pairs mid new

module _ {D G : Type 0} (d : DiskGhosts D) (g : SignerGhosts G) (by : Keying G) where
  -- the server serves a request, once members acted
  abbrev pub Serves : Bool → Members → Asked → Point D → Point D → Type 0
  Serves out acted request old new = Adds d out (IsServing d g by.signer by.block request) acted request old new

  -- ---- before the turns

  -- a member begins a pull
  pub record Pulls (m : Name) (old new : Point D) : Type 0 where
    pub acted : Members
    pub begins : BeginsPull by.members_block by.group m old.present acted
    pub now : new ≡ at_present old acted

  -- its SA is introduced, which is drawn at its first use
  pub record Introduces (out : Bool) (m : Name) (old new : Point D) : Type 0 where
    pub used : Members
    pub uses : IsUse by.members_block m old.present used
    pub phase : Phase1
    pub is : phase_of used.all m ≡ Some phase
    pub serves : Serves out used (requests.Introduce phase) old new

  -- Where its SA is introduced then, it begins a pull, and its line is handed to a worker; else the line is over.
  abbrev pub PullsIf : Bool → Name → Point D → Point D → Bool → Type 0
  PullsIf true m old new handed = Pulls m old new × (handed ≡ true)
  PullsIf false m old new handed = (new ≡ old) × (handed ≡ false)

  -- who was introduced before begins a pull at once
  abbrev pub Joins : Bool → Name → Point D → Point D → Bool → Type 0
  Joins true m old new handed = PullsIf true m old new handed
  Joins false m old new handed = (mid : Point D) × Introduces false m old mid × PullsIf (was_introduced mid.present.all m) m mid new handed

  -- who has sent nothing has nothing to send again
  abbrev pub SendsAgain : Option (List ℕ) → Name → Point D → Point D → Bool → Type 0
  SendsAgain None m old new handed = Adds d false (IsActing (HasSentNothing m)) old.present (requests.Again m) old new × (handed ≡ false)
  SendsAgain (Some datagram) m old new handed = (new ≡ old) × (handed ≡ true)

  -- what a line gives before the turns, and whether it is handed to a worker then
  abbrev pub Prepares : BlockAsk → Point D → Point D → Bool → Type 0
  Prepares (Join m) old new handed = Joins (was_introduced old.present.all m) m old new handed
  Prepares (Again m) old new handed = SendsAgain (sent_by old.present.all m) m old new handed
  Prepares ask old new handed = (new ≡ old) × (handed ≡ true)

  -- what the lines give, one after the other, and those that are handed on
  abbrev pub PreparesAll : List BlockAsk → List BlockAsk → Point D → Point D → Type 0
  PreparesAll [] handed old new = (handed ≡ []) × (new ≡ old)
  PreparesAll (ask ∷ asks) handed old new =
      (mid : Point D) × (is_handed : Bool) × (others : List BlockAsk) × Prepares ask old mid is_handed
      × (handed ≡ (if is_handed then ask ∷ others else others)) × PreparesAll asks others mid new

  -- memory ran out before the introduction of a member, in it, or right after it
  abbrev pub StopsIntroducing : Name → Point D → Point D → Type 0
  StopsIntroducing m old new = (new ≡ old) ⊎ ((out : Bool) × Introduces out m old new)

  -- Memory ran out for a line: who was not introduced before may be then, if the line is its join; else nothing was done.
  abbrev pub StopsInOne : BlockAsk → Point D → Point D → Type 0
  StopsInOne (Join m) old new = (new ≡ old) ⊎ ((was_introduced old.present.all m ≡ false) × StopsIntroducing m old new)
  StopsInOne ask old new = new ≡ old

  -- for the next of these lines, if there is one
  abbrev pub StopsInNext : List BlockAsk → Point D → Point D → Type 0
  StopsInNext [] old new = new ≡ old
  StopsInNext (ask ∷ asks) old new = StopsInOne ask old new

  -- Memory ran out before the turns, after some of the lines.
  pub record StopsInLines (asks : List BlockAsk) (old new : Point D) : Type 0 where
    pub front : List BlockAsk
    pub later : List BlockAsk
    pub are : asks ≡ front ++ later
    pub handed : List BlockAsk
    pub ready : Point D
    pub prepares : PreparesAll front handed old ready
    pub last : StopsInNext later ready new

  -- ---- the turns

  -- one turn of the server, once members acted
  pub record IsTurn (before : List Entry) (run : Run D) (turn : Entry) (next : Run D) : Type 0 where
    pub acted : Members
    pub acts : Acts by.members_block by.group run.members acted
    pub ready : IsReady turn.asked acted
    pub served : IsStepBy d (IsServing d g by.signer by.block turn.asked) (with_members run acted) turn next

  -- Workers, so many, take turns at the server to run the lines that are handed to them, each worker its own lines one after the other. Then, unless memory ran
  -- out for a line, each member has what its line has, and what came meanwhile is on its way.
  pub record TakesTurns (workers : ℕ) (asks : List BlockAsk) (short : Bool) (turns : List Entry) (news : List BlockLine) (old new : Point D) : Type 0 where
    pub lines : List BlockLine
    pub handed : AreHanded old.present asks lines
    pub as_many : length news ≡ length lines
    pub calls : List (List (Call Entry))
    pub a_list_each : length calls ≡ workers
    pub are_calls : AreCallsOf turns calls
    pub worked : (w : ℕ) → w < workers → Worked short old.entries (old.entries ++ turns) workers w lines news calls
    pub entries : new.entries ≡ old.entries ++ turns
    pub steps : Along IsTurn old.entries (with_members old.run old.present) turns new.run
    pub acts : Acts by.members_block by.group new.run.members new.present
    pub back : short ≡ false → new.present ≡ taken_back news turns old.present

  -- ---- after the turns

  -- the first datagram on its way comes, or goes missing
  abbrev pub ReadsOne : Bool → Members → Point D → Point D → Type 0
  ReadsOne out members old new =
      ((read : Members) × IsIgnoring members read × (new ≡ at_present old read))
      ⊎ (((m : Name) × (third : List ℕ) × (acted : Members) × Agrees m third members acted × Serves out acted (requests.Serve m third) old new)
      ⊎ ((m : Name) × Adds d out (IsActing (IsKeeping m)) members (requests.Keep m) old new))

  -- Members read so many datagrams, those that were sent first, and those that come meanwhile; which of them go missing is marked.
  abbrev pub Reads : ℕ → List Bool → Point D → Point D → Type 0
  Reads zero marks old new = new ≡ old
  Reads (suc n) marks old new = (mid : Point D) × ReadsOne false (marked marks old.present) old mid × Reads n (drop 1 marks) mid new

  -- ---- all of it, by so many workers

  module _ (workers : ℕ) (asks : List BlockAsk) where
    -- The lines were prepared, and some were handed on.
    pub record HasBegun (handed : List BlockAsk) (old ready : Point D) : Type 0 where
      pub begun : Point D
      pub begins : Marks d (requests.Together (length asks)) old begun
      pub prepares : PreparesAll asks handed begun ready

    -- The workers ran those lines, and memory did not run out: the block is over, and members may read what is on its way.
    pub record HasRun (handed : List BlockAsk) (turns : List Entry) (news : List BlockLine) (ready ended : Point D) : Type 0 where
      pub ran : Point D
      pub takes : TakesTurns workers handed false turns news ready ran
      pub ends : Marks d requests.Together2 ran ended

    -- what the workers and then the members make of those lines; nothing is on its way at last
    pub record Finishes (handed : List BlockAsk) (ready new : Point D) : Type 0 where
      pub turns : List Entry
      pub news : List BlockLine
      pub ended : Point D
      pub has_run : HasRun handed turns news ready ended
      pub count : ℕ
      pub rest : Point D
      pub reads : Reads count (marks_of ready.present turns) ended rest
      pub all_read : rest.present.mail ≡ []
      pub looks : LooksAll d (seen_in news) rest new

    -- A block of lines, before which nothing is on its way to members.
    pub record IsBlock (old new : Point D) : Type 0 where
      pub handed : List BlockAsk
      pub ready : Point D
      pub begun : HasBegun handed old ready
      pub finishes : Finishes handed ready new

    -- ---- where memory ran out

    -- before the turns
    pub record StopsBefore (old new : Point D) : Type 0 where
      pub begun : Point D
      pub begins : Marks d (requests.Together (length asks)) old begun
      pub stops : StopsInLines asks begun new

    -- in the turns, or right after them
    pub record StopsIn (handed : List BlockAsk) (ready new : Point D) : Type 0 where
      pub short : Bool
      pub turns : List Entry
      pub news : List BlockLine
      pub ran : Point D
      pub takes : TakesTurns workers handed short turns news ready ran
      pub last : (new ≡ ran) ⊎ Marks d requests.Together2 ran new

    -- while members read what is on its way
    pub record StopsReading (handed : List BlockAsk) (ready new : Point D) : Type 0 where
      pub turns : List Entry
      pub news : List BlockLine
      pub ended : Point D
      pub has_run : HasRun handed turns news ready ended
      pub count : ℕ
      pub mid : Point D
      pub reads : Reads count (marks_of ready.present turns) ended mid
      pub last : (new ≡ mid) ⊎ ReadsOne true (marked (drop count (marks_of ready.present turns)) mid.present) mid new

    -- after some of the looks
    pub record StopsLooking (handed : List BlockAsk) (ready new : Point D) : Type 0 where
      pub turns : List Entry
      pub news : List BlockLine
      pub ended : Point D
      pub has_run : HasRun handed turns news ready ended
      pub count : ℕ
      pub rest : Point D
      pub reads : Reads count (marks_of ready.present turns) ended rest
      pub all_read : rest.present.mail ≡ []
      pub front : List Seen
      pub later : List Seen
      pub are : seen_in news ≡ front ++ later
      pub looks : LooksAll d front rest new

    -- once the lines were prepared
    abbrev pub StopsAfter : List BlockAsk → Point D → Point D → Type 0
    StopsAfter handed ready new = StopsIn handed ready new ⊎ (StopsReading handed ready new ⊎ StopsLooking handed ready new)

    pub record StopsLater (old new : Point D) : Type 0 where
      pub handed : List BlockAsk
      pub ready : Point D
      pub begun : HasBegun handed old ready
      pub stops : StopsAfter handed ready new

    -- the entries that a block gave before memory ran out
    abbrev pub StopsShort : Point D → Point D → Type 0
    StopsShort old new = (new ≡ old) ⊎ (StopsBefore old new ⊎ StopsLater old new)
