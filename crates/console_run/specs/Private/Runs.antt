-- How far a run of a script has come.
use Rattle.std.specs.Prelude.{◌≡◌, ◌⊎◌, ℕ, ◌+◌, ◌-◌, ◌*◌, ◌<◌, ◌≤◌, Bool, true, false, List, [], ◌∷◌, ◌++◌, length, Option, None, Some}
use Rattle.std.specs.List.{list_any}
use Rattle.std.specs.Option.{option_map}
use Rattle.group_terms.specs.Faults.{Rose}
use Rattle.gd_disk.specs.declared.disks.Disk.{Ghosts as DiskGhosts}
use Rattle.gd_edges.specs.Shown.{Shown}
use Rattle.gd_edges.specs.declared.draws.Draws.{Ghosts as DrawGhosts}
use Rattle.group_model.specs.declared.entries.Asked.{Asked}
use Rattle.group_model.specs.declared.entries.Entry.{Entry}
use Rattle.group_run.specs.Reflects.{Reflects}
use Rattle.group_run.specs.Views.{View}
use Rattle.server_steps.specs.Reflects.{IsServerOf}
use Rattle.group_steps.specs.Runs.{Run}
use Rattle.script_text.specs.Report.{entries_text}
use Rattle.script_text.specs.declared.lines.Line.{Line as ScriptLine}
use Rattle.run_report.specs.declared.stops.Stop.{Stop}
use Rattle.run_report.specs.declared.stops.Stop.TheVariants.{Line, Source as SourceStop, Sink as SinkStop, Memory as MemoryStop, Unreported}
use Rattle.run_report.specs.declared.endings.Ending.{Ending}
use Rattle.run_report.specs.declared.endings.Ending.TheVariants.{Whole, BadLine, Source, Sink, Memory}
use Rattle.group_steps.specs.Devices.{Devices, Keying}
use Rattle.console_run.specs.Names.{console_name}
use Rattle.console_run.specs.Scripts.{EndsLine, are_octets, ends_line, longest_line, longest_piece, most_lines}
use Rattle.script_text.specs.Lines.{line_of}
use Rattle.script_text.specs.declared.lines.Line.TheVariants.{Together}
use Rattle.group_run.specs.Places.{AreAsked}
use Rattle.register_workers.specs.declared.lines.BlockAsk.{BlockAsk}
use Rattle.console_run.specs.Blocks.{BlockSoFar, after_line, inside_block, most_asks}
use Rattle.console_run.specs.Breaks.{LineBreaksOff}
use Rattle.console_run.specs.Lines.{BeginsAt, BeginsToGive, BlockBegins, BlockGives, Gives, GivesAt, IsRunOf, TextBegins, TextGives}
use Rattle.console_run.specs.declared.open_blocks.OpenBlock.{OpenBlock}
use Rattle.console_run.specs.Causes.{CauseOf, Given, IsInParts}
use Rattle.run_report.specs.Reports.{Puts, ReportBreaksOff}
use Rattle.console_run.specs.Private.Cuts.{cut_of}

-- the draws of members: the place of the next block, and the blocks
pub record Drawing : Type 0 where
  pub place : ℕ
  pub block : ℕ → List ℕ

-- with these
abbrev pub drawing : ℕ → (ℕ → List ℕ) → Drawing
drawing place block = record { place = place; block = block }

-- the draws of a drawer
abbrev pub drawn_by : {P : Type 0} → DrawGhosts P → P → Drawing
drawn_by draws drawer = drawing (draws.place_of drawer) (draws.block_at drawer)

-- a group is that of a run, with this server and these draws of its members
pub record Stands {D G R : Type 0} (d : DiskGhosts D) (draws : DrawGhosts R) (peers : Drawing) (by : Keying G) (held : View D G R) (run : Run D)
    : Type 0 where
  pub reflects : Reflects d draws held run
  pub signer : held.server.core.signer ≡ by.signer
  pub blocks : (k : ℕ) → draws.block_at held.server.core.draws k ≡ by.block k
  pub members_blocks : (k : ℕ) → peers.block k ≡ by.members_block k
  pub group : by.group ≡ console_name

-- entries that are given by a server, after earlier entries, which have made this run, and the run after them
abbrev pub Giving : Type 0 → Type 0 → Type 1
Giving D G = Keying G → List Entry → Run D → List Entry → Run D → Type 0

-- entries were added as they are given, and reported; whatever run it was before, it is the run after them
pub record Runs {D G R : Type 0} (d : DiskGhosts D) (draws : DrawGhosts R) (peers : Drawing) (gives : Giving D G) (old new : View D G R) (was now : Shown) :
    Type 0 where
  pub more : List Entry
  pub grown : new.entries ≡ old.entries ++ more
  pub each : (by : Keying G) (run : Run D) → Stands d draws peers by old run → (after : Run D) × gives by old.entries run more after
      × Stands d draws peers by new after
  pub puts : Puts was now (entries_text more)

-- how much was reported of the entries at which the run stopped
abbrev pub ReportsUntil : Stop → Shown → Shown → List Entry → Type 0
ReportsUntil Line was now more = (more ≡ []) × Puts was now []
ReportsUntil SourceStop was now more = ⊥
ReportsUntil SinkStop was now more = ReportBreaksOff Sink was now more
ReportsUntil MemoryStop was now more = Puts was now (entries_text more)
ReportsUntil Unreported was now more = ReportBreaksOff Memory was now more

-- Entries were added as somebody begins to give them, and there the run stopped. Members may have done more by then, of which there is no entry.
pub record Stops {D G R : Type 0} (d : DiskGhosts D) (draws : DrawGhosts R) (peers : Drawing) (begins : Giving D G) (stop : Stop) (old new : View D G R)
    (was now : Shown)
    : Type 0 where
  pub more : List Entry
  pub grown : new.entries ≡ old.entries ++ more
  pub each : (by : Keying G) (run : Run D) → Stands d draws peers by old run → (after : Run D) × begins by old.entries run more after
      × IsServerOf d draws new.server after.host
  pub reports : ReportsUntil stop was now more

module _ {D G V : Type 0} (on : Devices D G V) where
  -- what a line of a script gives, and begins to give
  abbrev pub by_line : ScriptLine → Giving D G
  by_line line by before run more after = Gives on by line before run more after

  abbrev pub begun_by_line : ScriptLine → Giving D G
  begun_by_line line by before run more after = BeginsToGive on by line before run more after

  -- what a line gives where it stands, and begins to give there
  abbrev pub given_at : ℕ → BlockSoFar → ScriptLine → Giving D G
  given_at workers block line by before run more after = GivesAt on by workers block line before run more after

  -- one that may not stand there gives nothing
  abbrev pub begun_at : ℕ → BlockSoFar → ScriptLine → Giving D G
  begun_at workers block line by before run more after =
      ((more ≡ []) × (after ≡ run)) ⊎ ((next : BlockSoFar) × (after_line block line ≡ Some next) × BeginsAt on by workers block line before run more after)

  -- the same of a text
  abbrev pub by_text : ℕ → BlockSoFar → List ℕ → BlockSoFar → Giving D G
  by_text workers block text next by before run more after = TextGives on by workers block text next before run more after

  abbrev pub begun_by_text : ℕ → BlockSoFar → List ℕ → Giving D G
  begun_by_text workers block text by before run more after = TextBegins on by workers block text before run more after

  -- and of a block
  abbrev pub by_block : ℕ → List BlockAsk → Giving D G
  by_block workers asks by before run more after = BlockGives on by workers asks before run more after

  abbrev pub begun_by_block : ℕ → List BlockAsk → Giving D G
  begun_by_block workers asks by before run more after = BlockBegins on by workers asks before run more after

-- ---- where a line stands

-- the block that is open, by its lines
abbrev pub open_of : Option OpenBlock → BlockSoFar
open_of block = option_map (λ (block : OpenBlock). block.asks) block

-- Entries were added as they are given, from whatever run it was before, to the one that it is then.
pub record Leads {D G R : Type 0} (good : Run D → Type 0) (gives : Giving D G) (by : Keying G) (run : Run D) (more : List Entry) (old new : View D G R) : Type 0
  where
    pub after : Run D
    pub grown : new.entries ≡ old.entries ++ more
    pub given : gives by old.entries run more after
    pub stands : good after

-- and reported
pub record RunsThere {D G R : Type 0} (d : DiskGhosts D) (draws : DrawGhosts R) (peers : Drawing) (gives : Giving D G) (old new : View D G R) (was now : Shown) :
    Type 0 where
  pub more : List Entry
  pub each : (by : Keying G) (run : Run D) → Stands d draws peers by old run → Leads (Stands d draws peers by new) gives by run more old new
  pub puts : Puts was now (entries_text more)

-- how much was reported of the entries at which the run stopped, where they may be a block's
abbrev pub ReportsThere : Stop → Shown → Shown → List Entry → Type 0
ReportsThere Line was now more = (more ≡ []) × Puts was now []
ReportsThere SourceStop was now more = ⊥
ReportsThere SinkStop was now more = LineBreaksOff Sink was now more
ReportsThere MemoryStop was now more = Puts was now (entries_text more)
ReportsThere Unreported was now more = LineBreaksOff Memory was now more

-- or there the run stopped
pub record StopsThere {D G R : Type 0} (d : DiskGhosts D) (draws : DrawGhosts R) (peers : Drawing) (begins : Giving D G) (stop : Stop) (old new : View D G R)
    (was now : Shown) : Type 0 where
  pub more : List Entry
  pub each : (by : Keying G) (run : Run D) → Stands d draws peers by old run
      → Leads (λ (after : Run D). IsServerOf d draws new.server after.host) begins by run more old new × ReportsThere stop was now more

-- A block that was begun is the one that was, or one that this line began, before which so many came.
abbrev pub IsPlaced : ℕ → Option OpenBlock → Option OpenBlock → Type 0
IsPlaced count old None = Unit {0}
IsPlaced count None (Some new) = new.before ≡ count
IsPlaced count (Some old) (Some new) = new.before ≡ old.before

-- its lines can be run, and it began before so many lines were over
pub record IsFine (count : ℕ) (block : OpenBlock) : Type 0 where
  pub few : length block.asks ≤ most_asks
  pub apart : AreAsked block.asks
  pub before : block.before < count

-- where one is open
abbrev pub AreFine : ℕ → Option OpenBlock → Type 0
AreFine count None = Unit {0}
AreFine count (Some block) = IsFine count block

-- what a run began with: the opening that was asked for, the run before that, its server, and the sink before it
pub record Start (D G : Type 0) : Type 0 where
  pub request : Asked
  pub run : Run D
  pub by : Keying G
  pub was : Shown

-- a run at some moment: its group, the draws of its members, the block that is open, what has come of the present line, how many lines came before it, and the
-- sink
pub record Moment (D G R : Type 0) : Type 0 where
  pub held : View D G R
  pub peers : Drawing
  pub block : Option OpenBlock
  pub line : List ℕ
  pub count : ℕ
  pub out : Shown

-- nothing is on its way, a block that is open can be run, the members' draws are where the members say, there are no more rules than lines, and the run is within its limits
pub record IsReady {D G R : Type 0} (at : Moment D G R) : Type 0 where
  pub rest : at.held.members.mail ≡ []
  pub block : AreFine at.count at.block
  pub place : at.peers.place ≡ at.held.members.place
  pub rules : length at.held.server.rules ≤ at.count
  pub lines : at.count ≤ most_lines
  pub begun : 0 < length at.line → at.count < most_lines
  pub short : length at.line ≤ longest_line

-- what the limits leave: octets of this line, and lines after it
abbrev pub room_left : {D G R : Type 0} → Moment D G R → ℕ
room_left at = (most_lines - at.count) * (longest_line + 1) + (longest_line - length at.line)

-- what the source gave to a run that took these octets
abbrev pub given_of : List ℕ → Bool → Given
given_of taken ended = record { taken = taken; ended = ended }

-- whether the source failed, by the stop
abbrev pub SourceFails : Stop → ℕ → ℕ → Type 0
SourceFails Line old new = new ≡ old
SourceFails SourceStop old new = Rose old new
SourceFails SinkStop old new = new ≡ old
SourceFails MemoryStop old new = new ≡ old
SourceFails Unreported old new = new ≡ old

module _ {D G V R : Type 0} (on : Devices D G V) (draws : DrawGhosts R) (workers : ℕ) where
  -- A block is open that one of these lines began: those before it were run, and those after it are the block's.
  pub record HasBegun (start : Start D G) (lines : List (List ℕ)) (entries : List Entry) (now : Run D) (block : OpenBlock) : Type 0 where
    pub front : List (List ℕ)
    pub first : List ℕ
    pub inner : List (List ℕ)
    pub parts : lines ≡ front ++ first ∷ inner
    pub run : IsRunOf on start.by workers start.request start.run front None entries now
    pub begins : line_of first ≡ Some Together
    pub inside : inside_block [] inner ≡ Some block.asks
    pub counted : length front ≡ block.before

  -- if one is open
  abbrev pub HasBegunIf : Start D G → List (List ℕ) → List Entry → Run D → Option OpenBlock → Type 0
  HasBegunIf start lines entries now None = Unit {0}
  HasBegunIf start lines entries now (Some block) = HasBegun start lines entries now block

  -- The octets so far: their lines were run and reported, but for those of an open block, and what has come of the next is kept.
  pub record IsSoFar (start : Start D G) (octets : List ℕ) (at : Moment D G R) : Type 0 where
    pub small : are_octets octets ≡ true
    pub rest : (cut_of octets).rest ≡ at.line
    pub counted : length (cut_of octets).lines ≡ at.count
    pub now : Run D
    pub run : IsRunOf on start.by workers start.request start.run (cut_of octets).lines (open_of at.block) at.held.entries now
    pub begun : HasBegunIf start (cut_of octets).lines at.held.entries now at.block
    pub stands : Stands on.disks draws at.peers start.by at.held now
    pub puts : Puts start.was at.out (entries_text at.held.entries)
    pub front : List ℕ
    pub parts : octets ≡ front ++ at.line
    pub ended : EndsLine front
    pub cut : cut_of front ≡ record { lines = (cut_of octets).lines; rest = [] }
    pub one_line : list_any ends_line at.line ≡ false

  -- the run went on by these octets
  abbrev pub GoesOn : List ℕ → Moment D G R → Moment D G R → Type 0
  GoesOn octets old new = (start : Start D G) (before : List ℕ) → IsSoFar start before old → IsSoFar start (before ++ octets) new

  -- the history was reported up to what the opening or the line begun last gave, and there the report broke off
  pub record IsBrokenOff (ending : Ending) (given : Given) (start : Start D G) (at : Moment D G R) : Type 0 where
    pub after : Run D
    pub server : IsServerOf on.disks draws at.held.server after.host
    pub history : IsInParts on start.by workers given start.request start.run at.held.entries after
    pub middle : Shown
    pub report : Puts start.was middle (entries_text history.done)
    pub breaks : LineBreaksOff ending middle at.out history.more

  -- the ending that is due, with its cause, where the whole history was reported
  pub record IsReported (due : Ending) (given : Given) (start : Start D G) (at : Moment D G R) : Type 0 where
    pub after : Run D
    pub server : IsServerOf on.disks draws at.held.server after.host
    pub cause : CauseOf on start.by workers given start.request start.run due at.held.entries after
    pub report : Puts start.was at.out (entries_text at.held.entries)

  -- the run stopped, with what the source gave
  abbrev pub IsStoppedAt : Stop → Given → Start D G → Moment D G R → Type 0
  IsStoppedAt Line given start at = IsReported (BadLine (at.count + 1)) given start at
  IsStoppedAt SourceStop given start at = IsReported Source given start at
  IsStoppedAt SinkStop given start at = IsBrokenOff Sink given start at
  IsStoppedAt MemoryStop given start at = IsReported Memory given start at
  IsStoppedAt Unreported given start at = IsBrokenOff Memory given start at

  -- the run stopped at some of these octets, after the octets so far
  abbrev pub StopsWithin : List ℕ → Stop → Moment D G R → Moment D G R → Type 0
  StopsWithin octets stop old new =
      (start : Start D G) (before : List ℕ) → IsSoFar start before old → IsStoppedAt stop (given_of (before ++ octets) false) start new

  -- the run stopped at this octet, the next after the octets so far, whatever came with it
  abbrev pub StopsAt : ℕ → Stop → Moment D G R → Moment D G R → Type 0
  StopsAt octet stop old new = (later : List ℕ) → length later < longest_piece → are_octets later ≡ true → StopsWithin (octet ∷ later) stop old new

  -- a script of the octets so far is run to its end
  abbrev pub Ends : Moment D G R → Moment D G R → Type 0
  Ends old new = (start : Start D G) (before : List ℕ) → IsSoFar start before old → IsReported Whole (given_of before true) start new

  -- or the run stopped in what comes after its last line end
  abbrev pub StopsAtEnd : Stop → Moment D G R → Moment D G R → Type 0
  StopsAtEnd stop old new = (start : Start D G) (before : List ℕ) → IsSoFar start before old → IsStoppedAt stop (given_of before true) start new
