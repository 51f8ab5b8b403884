-- Which entries the lines of a script give.
use Rattle.std.specs.Prelude.{◌≡◌, ◌⊎◌, ℕ, ◌≤◌, true, false, List, [], ◌∷◌, ◌++◌, length, reverse, slice_get, MatchBool, Option, None, Some}
use Rattle.group_terms.specs.Names.{Name}
use Rattle.group_terms.specs.declared.phases.Phase1.{Phase1}
use Rattle.group_model.specs.Answers.{any_ran_out, is_open, ran_out}
use Rattle.group_model.specs.Servers.{members_now}
use Rattle.group_model.specs.declared.entries.Answer.{Answer}
use Rattle.group_model.specs.declared.entries.Answer.TheVariants.{Done}
use Rattle.group_model.specs.declared.entries.Asked.{Asked}
use Rattle.group_model.specs.declared.entries.Asked.TheVariants as requests
use Rattle.group_model.specs.declared.entries.Entry.{Entry}
use Rattle.group_model.specs.declared.entries.Outside.{Outside}
use Rattle.group_peers.specs.Peers.{phase_of, sent_by, was_introduced}
use Rattle.group_peers.specs.declared.members.Peer.{Peer}
use Rattle.group_run.specs.Blocks.{IsBlock, Point, StopsShort}
use Rattle.group_run.specs.Deliveries.{IsFirstDue, NoneIsDue}
use Rattle.group_run.specs.Looks.{ShowsLast}
use Rattle.group_run.specs.Reads.{AreAtRest, Ask, ReadsMail}
use Rattle.group_run.specs.declared.deliveries.Delivery.{Delivery}
use Rattle.member_steps.specs.Acts.{BeginsPull, IsUse}
use Rattle.member_steps.specs.Members.{Members}
use Rattle.group_steps.specs.Devices.{Devices, Keying}
use Rattle.group_steps.specs.Runs.{Run, with_members}
use Rattle.group_steps.specs.Steps.{AreRunSteps, IsAnswered, IsAnsweredAfter, IsStepBy}
use Rattle.register_workers.specs.declared.lines.BlockAsk.{BlockAsk}
use Rattle.script_text.specs.Lines.{line_of}
use Rattle.script_text.specs.declared.lines.Line.{Line}
use Rattle.script_text.specs.declared.lines.Line.TheVariants.{Nothing, Allow, Deny, Join, Again, Lose, Leave, Batch, Deliver, DeliverAll, Key, Derive}
use Rattle.script_text.specs.declared.lines.Line.TheVariants.{Halt, Reopen, Show, Now, Together, End}
use Rattle.console_run.specs.Blocks.{BlockSoFar, after_line}
use Rattle.console_run.specs.Scripts.{most_lines}

-- ---- what a line asks next

-- what was given last by a line that gave these entries so far
abbrev pub WasGivenLast : List Peer → List Entry → Option Delivery → Type 0
WasGivenLast peers so_far None = so_far ≡ []
WasGivenLast peers so_far (Some last) =
    (front : List Entry) × (entry : Entry) × (so_far ≡ front ++ entry ∷ []) × (entry.asked ≡ requests.Deliver last.member last.number)
    × (peer : Peer) × (slice_get peers last.place ≡ Some peer) × (last.member ≡ peer.phase.member)

-- what is asked of members that have a part in it
abbrev pub Asks : Asked → Members → Option Ask → Type 0
Asks request members next = next ≡ Some (request, members)

-- a member sends its last datagram again, if it has sent one
abbrev pub asked_again : Name → Option (List ℕ) → Asked
asked_again m None = requests.Again m
asked_again m (Some datagram) = requests.Serve m datagram

-- the last of some entries
abbrev pub last_of : List Entry → Option Entry
last_of entries = slice_get (reverse entries) 0

module _ (block : ℕ → List ℕ) (group : Name) {D : Type 0} (run : Run D) (before so_far : List Entry) where
  -- ---- a push for each member that missed one

  -- the first push that is due after the last one given, or nothing where none is due any more
  abbrev pub IsNextGiven : Members → Option Delivery → Option Ask → Type 0
  IsNextGiven members last next =
      ((next ≡ None) × NoneIsDue (members_now run.host.server) members.all (before ++ so_far) last)
      ⊎ ((delivery : Delivery) × Asks (requests.Deliver delivery.member delivery.number) members next
      × IsFirstDue (members_now run.host.server) members.all (before ++ so_far) last delivery)

  -- the line goes on with the push that is due after the one that it gave last, and asks nothing more where none is due
  abbrev pub GivesWhatIsDue : Members → Option Ask → Type 0
  GivesWhatIsDue members next = (last : Option Delivery) × WasGivenLast members.all so_far last × IsNextGiven members last next

  -- ---- a pull

  -- a member begins a pull, and sends its first message
  abbrev pub AsksToPull : Name → Members → Option Ask → Type 0
  AsksToPull m members next =
      (acted : Members) × BeginsPull block group m members acted
      × (datagram : List ℕ) × (sent_by acted.all m ≡ Some datagram) × Asks (requests.Serve m datagram) acted next

  -- its SA is introduced, which is drawn at its first use
  abbrev pub AsksToIntroduce : Name → Members → Option Ask → Type 0
  AsksToIntroduce m members next =
      (used : Members) × IsUse block m members used × (phase : Phase1) × (phase_of used.all m ≡ Some phase)
      × Asks (requests.Introduce phase) used next

  -- a pull, once its SA was introduced
  abbrev pub AsksToJoin : Name → Members → Option Ask → Type 0
  AsksToJoin m members next = MatchBool (was_introduced members.all m) (AsksToPull m members next) (AsksToIntroduce m members next)

  -- after an introduction that was granted a pull follows, and after one that was refused nothing; after anything else members read what is on its way
  abbrev pub JoinsAfter : Name → Asked → Answer → Option Ask → Type 0
  JoinsAfter m (requests.Introduce phase) Done next = AsksToPull m run.members next
  JoinsAfter m (requests.Introduce phase) answer next = next ≡ None
  JoinsAfter m asked answer next = ReadsMail run.members next

  -- ---- all lines

  -- what a line asks first, of members to whom nothing is on its way
  abbrev pub AsksFirst : Line → Members → Option Ask → Type 0
  AsksFirst Nothing members next = next ≡ None
  AsksFirst (Allow pattern) members next = Asks (requests.AddRule (record { allow = true; pattern = pattern })) members next
  AsksFirst (Deny pattern) members next = Asks (requests.AddRule (record { allow = false; pattern = pattern })) members next
  AsksFirst (Join m) members next = AsksToJoin m members next
  AsksFirst (Again m) members next = Asks (asked_again m (sent_by members.all m)) members next
  AsksFirst (Lose m) members next = Asks (requests.Lose m) members next
  AsksFirst (Leave m) members next = Asks (requests.Leave m) members next
  AsksFirst Batch members next = Asks requests.Batch members next
  AsksFirst (Deliver m number) members next = Asks (requests.Deliver m number) members next
  AsksFirst DeliverAll members next = MatchBool run.host.server.needs_reopen (Asks requests.DeliverAll members next) (GivesWhatIsDue members next)
  AsksFirst (Key m) members next = Asks (requests.Key m) members next
  AsksFirst (Derive epoch members) present next = Asks (requests.Derive epoch members) present next
  AsksFirst Halt members next = Asks requests.Halt members next
  AsksFirst Reopen members next = Asks requests.Reopen members next
  AsksFirst Show members next = Asks requests.Show members next
  AsksFirst Now members next = Asks requests.Now members next
  AsksFirst Together members next = next ≡ None
  AsksFirst End members next = next ≡ None

  -- what it asks after an entry that it gave: a line that sends something goes on until nothing is on its way
  abbrev pub AsksAfter : Line → Entry → Option Ask → Type 0
  AsksAfter (Join m) last next = JoinsAfter m last.asked last.answer next
  AsksAfter (Again m) last next = ReadsMail run.members next
  AsksAfter Batch last next = ReadsMail run.members next
  AsksAfter DeliverAll last next = MatchBool run.host.server.needs_reopen (next ≡ None) (GivesWhatIsDue run.members next)
  AsksAfter line last next = next ≡ None

  -- by the last entry that the line gave so far
  abbrev pub AsksBy : Line → Option Entry → Option Ask → Type 0
  AsksBy line None next = (rest : Members) × AreAtRest run.members rest × AsksFirst line rest next
  AsksBy line (Some last) next = AsksAfter line last next

  -- what a line asks, after the entries before it and its own so far, which made this run
  abbrev pub AsksNext : Line → Option Ask → Type 0
  AsksNext line next = AsksBy line (last_of so_far) next

-- ---- what a script gives

-- after these entries, which made this run, with the members as they are since
abbrev pub point : {D : Type 0} → List Entry → Run D → Members → Point D
point entries run present = record { entries = entries; run = run; present = present }

module _ {D G V : Type 0} (on : Devices D G V) (by : Keying G) where
  -- ---- a line

  -- The answer to what a line asks is that of a step. A look shows the pair that all entries before it showed last.
  abbrev pub IsAnsweredHere : List Entry → Asked → Run D → Answer → Outside → Run D → Type 0
  IsAnsweredHere before requests.Now run answer outside next = ShowsLast before run answer outside next
  IsAnsweredHere before asked run answer outside next = IsAnswered on by before asked run answer outside next

  -- once the members acted so, an entry answers what a line asks
  abbrev pub IsGivenAfter : Members → List Entry → Run D → Entry → Run D → Type 0
  IsGivenAfter acted before run entry next = IsStepBy on.disks (IsAnsweredHere before entry.asked) (with_members run acted) entry next

  -- Entries one after the other, after the entries that a line gave so far. Each answers what the line asks next, and memory ran out in the last of them at most.
  abbrev pub GoesThrough : Line → List Entry → List Entry → Run D → List Entry → Run D → Type 0
  GoesThrough line before so_far run [] after = after ≡ run
  GoesThrough line before so_far run (entry ∷ more) after =
      (acted : Members) × AsksNext by.members_block by.group run before so_far line (Some (entry.asked, acted)) × ((more ≡ []) ⊎ (ran_out entry.answer ≡ false))
      × (next : Run D) × IsGivenAfter acted (before ++ so_far) run entry next × GoesThrough line before (so_far ++ entry ∷ []) next more after

  -- A line begins to give these entries: the first ones that it gives, perhaps none. The last of them may have run out of memory.
  abbrev pub BeginsToGive : Line → List Entry → Run D → List Entry → Run D → Type 0
  BeginsToGive line before run more after = GoesThrough line before [] run more after

  -- a line gives these entries: it asks nothing more after them, and memory did not run out
  pub record Gives (line : Line) (before : List Entry) (run : Run D) (more : List Entry) (after : Run D) : Type 0 where
    pub begins : BeginsToGive line before run more after
    pub no_more : AsksNext by.members_block by.group after before more line None
    pub enough_memory : any_ran_out more ≡ false

  -- ---- the opening

  -- one entry answers the opening that is requested; members do nothing before it
  pub record IsOpeningEntry (request : Asked) (start : Run D) (entries : List Entry) (after : Run D) : Type 0 where
    pub entry : Entry
    pub alone : entries ≡ entry ∷ []
    pub asked : entry.asked ≡ request
    pub step : IsAnsweredAfter on by start.members [] start entry after

  -- the opening that is requested was answered, and the group is open
  pub record Opens (request : Asked) (start : Run D) (entries : List Entry) (after : Run D) : Type 0 where
    pub first : IsOpeningEntry request start entries after
    pub is_open : is_open first.entry.answer ≡ true

  -- ---- blocks of lines, by so many workers

  module _ (workers : ℕ) where
    -- a block of these lines gives these entries, and memory did not run out
    pub record BlockGives (asks : List BlockAsk) (before : List Entry) (run : Run D) (more : List Entry) (after : Run D) : Type 0 where
      pub rest : Members
      pub at_rest : AreAtRest run.members rest
      pub new : Point D
      pub block : IsBlock on.disks on.signers by workers asks (point before run rest) new
      pub entries : new.entries ≡ before ++ more
      pub is_after : new.run ≡ after
      pub enough_memory : any_ran_out more ≡ false

    -- It begins to give these: all that it gives; or what it gave before memory ran out, and then members may have done more since the last of them.
    pub record BlockBegins (asks : List BlockAsk) (before : List Entry) (run : Run D) (more : List Entry) (after : Run D) : Type 0 where
      pub rest : Members
      pub at_rest : AreAtRest run.members rest
      pub new : Point D
      pub block : (StopsShort on.disks on.signers by workers asks (point before run rest) new × (new.run.host ≡ after.host))
          ⊎ (IsBlock on.disks on.signers by workers asks (point before run rest) new × (new.run ≡ after))
      pub entries : new.entries ≡ before ++ more
      pub steps : AreRunSteps on by before run more after

    -- ---- a line where it stands

    -- Outside a block a line gives its own entries. In a block it gives none, but for the end, which gives what the whole block gives.
    abbrev pub GivesAt : BlockSoFar → Line → List Entry → Run D → List Entry → Run D → Type 0
    GivesAt None line before run more after = Gives line before run more after
    GivesAt (Some asks) End before run more after = BlockGives asks before run more after
    GivesAt (Some asks) line before run more after = (more ≡ []) × (after ≡ run)

    -- the same of what it begins to give
    abbrev pub BeginsAt : BlockSoFar → Line → List Entry → Run D → List Entry → Run D → Type 0
    BeginsAt None line before run more after = BeginsToGive line before run more after
    BeginsAt (Some asks) End before run more after = BlockBegins asks before run more after
    BeginsAt (Some asks) line before run more after = (more ≡ []) × (after ≡ run)

    -- a text is a line that may stand in this state, which it leads to that one, and gives these entries
    pub record TextGives (block : BlockSoFar) (text : List ℕ) (next : BlockSoFar) (before : List Entry) (run : Run D) (more : List Entry) (after : Run D) : Type 0 where
      pub line : Line
      pub is : line_of text ≡ Some line
      pub stands : after_line block line ≡ Some next
      pub gives : GivesAt block line before run more after

    -- and begins to give these
    pub record TextGoes (block : BlockSoFar) (text : List ℕ) (before : List Entry) (run : Run D) (more : List Entry) (after : Run D) : Type 0 where
      pub line : Line
      pub is : line_of text ≡ Some line
      pub next : BlockSoFar
      pub stands : after_line block line ≡ Some next
      pub begins : BeginsAt block line before run more after

    -- a text begins to give these entries; one that is no line, or may not stand there, gives none
    abbrev pub TextBegins : BlockSoFar → List ℕ → List Entry → Run D → List Entry → Run D → Type 0
    TextBegins block text before run more after = ((more ≡ []) × (after ≡ run)) ⊎ TextGoes block text before run more after

    -- ---- a script

    -- lines, one after the other, lead from this state and the entries before them to that state and these entries
    abbrev pub LinesGive : BlockSoFar → List Entry → Run D → List (List ℕ) → BlockSoFar → List Entry → Run D → Type 0
    LinesGive block before run [] last entries after = (last ≡ block) × (entries ≡ before) × (after ≡ run)
    LinesGive block before run (text ∷ texts) last entries after =
        (next : BlockSoFar) × (more : List Entry) × (middle : Run D) × TextGives block text next before run more middle
        × LinesGive next (before ++ more) middle texts last entries after

    -- The history of a group that was opened as requested, and on which these lines were run, and the run after it; and which block is open then.
    pub record IsRunOf (request : Asked) (start : Run D) (lines : List (List ℕ)) (block : BlockSoFar) (entries : List Entry) (after : Run D) : Type 0 where
      pub opening : List Entry
      pub opened : Run D
      pub opens : Opens request start opening opened
      pub few : length lines ≤ most_lines
      pub gives : LinesGive None opening opened lines block entries after
