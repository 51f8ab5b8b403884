-- How far a run came, and why it ended there.
use Rattle.std.specs.Prelude.{◌≡◌, ◌⊎◌, ℕ, ◌+◌, ◌<◌, ◌≤◌, Bool, true, false, List, [], ◌∷◌, ◌++◌, length, Option, None, Some}
use Rattle.std.specs.List.{list_any}
use Rattle.std.specs.Io.KnownBytes.{Consumes}
use Rattle.group_terms.specs.Faults.{Rose}
use Rattle.group_model.specs.declared.entries.Answer.TheVariants.{Refused}
use Rattle.group_model.specs.declared.entries.Asked.{Asked}
use Rattle.group_model.specs.declared.entries.Entry.{Entry}
use Rattle.group_model.specs.declared.entries.Refusal.{Refusal}
use Rattle.group_model.specs.declared.entries.Refusal.TheVariants.{DiskFault, NotAJournal}
use Rattle.group_steps.specs.Devices.{Devices, Keying}
use Rattle.group_steps.specs.Runs.{Run}
use Rattle.run_report.specs.declared.endings.Ending.{Ending}
use Rattle.run_report.specs.declared.endings.Ending.TheVariants.{Whole, NoGroup, BadLine, Source, Sink, Memory, NotOpened}
use Rattle.script_text.specs.Lines.{line_of}
use Rattle.script_text.specs.declared.lines.Line.TheVariants.{Together}
use Rattle.register_workers.specs.declared.lines.BlockAsk.{BlockAsk}
use Rattle.console_run.specs.Blocks.{BlockSoFar, after_text, inside_block}
use Rattle.console_run.specs.Scripts.{EndsLine, are_octets, ends_line, longest_line, longest_piece, most_lines, script_lines}
use Rattle.console_run.specs.Lines.{IsOpeningEntry, IsRunOf, TextBegins}

-- What the source gave to a run: the octets that were taken from it, and whether it then had no more.
pub record Given : Type 0 where
  pub taken : List ℕ
  pub ended : Bool

-- where the source exposed what it had, that was taken whole
abbrev pub TakesAll : Option (List ℕ) → List ℕ → Type 0
TakesAll None taken = Unit {0}
TakesAll (Some octets) taken = octets ≡ taken

-- Octets were taken. Where the source exposes what it has, they came from its front, and are all of it where it had no more.
pub record CameFrom (had left : Option (List ℕ)) (given : Given) : Type 0 where
  pub consumed : Consumes had left given.taken
  pub octets : are_octets given.taken ≡ true
  pub whole : given.ended ≡ true → TakesAll had given.taken

-- Octets in three parts: lines with their line ends, then a text that is a line or a part of one, then no more octets after it than are
-- asked for at a time. Where the text has octets, there was room for its line.
pub record IsCut (taken before text after : List ℕ) : Type 0 where
  pub parts : taken ≡ before ++ (text ++ after)
  pub whole_lines : EndsLine before
  pub one_line : list_any ends_line text ≡ false
  pub short : length text ≤ longest_line
  pub near : length after ≤ longest_piece
  pub within : 0 < length text → length (script_lines before) < most_lines

-- a line is over: a line end is next, or nothing came after it and the source has no more
abbrev pub IsOver : Bool → List ℕ → Type 0
IsOver ended after = ((later : List ℕ) × (after ≡ 10 ∷ later)) ⊎ ((after ≡ []) × (ended ≡ true))

-- The line of this number is faulty: it has an octet and is past the last that there may be, it goes on after as many octets as it may have,
-- or it is over and may not stand where it stands, after lines that left this state: it is not of the grammar, or no line for there.
abbrev pub IsFaulty : BlockSoFar → Bool → ℕ → List ℕ → List ℕ → Type 0
IsFaulty block ended number text after =
    ((most_lines < number) × (0 < length after))
    ⊎ (((length text ≡ longest_line) × ((octet : ℕ) × (later : List ℕ) × (after ≡ octet ∷ later) × (octet ≡ 10 → ⊥)))
    ⊎ ((after_text block text ≡ None) × IsOver ended after))

-- the disk failed, or it has the journal of no group
abbrev pub CannotOpen : Refusal → Type 0
CannotOpen why = (why ≡ DiskFault) ⊎ ((at : ℕ) × (why ≡ NotAJournal at))

-- Of a run on these devices, with so many workers, for which an opening was requested: what the source gave, the run before the opening, the history, and the
-- run after it.
module _ {D G V : Type 0} (on : Devices D G V) (by : Keying G) (workers : ℕ) (given : Given) (request : Asked) (start : Run D) where
  -- the lines before the one of this number were run, but for those of a block that is open, and that one is faulty
  pub record EndsAtFaultyLine (number : ℕ) (entries : List Entry) (after : Run D) : Type 0 where
    pub before : List ℕ
    pub text : List ℕ
    pub rest : List ℕ
    pub cut : IsCut given.taken before text rest
    pub block : BlockSoFar
    pub run : IsRunOf on by workers request start (script_lines before) block entries after
    pub counted : number ≡ length (script_lines before) + 1
    pub faulty : IsFaulty block given.ended number text rest

  -- The script ended in a block, and has no line too many. The line of this number began it, and those before that were run.
  pub record EndsInBlock (number : ℕ) (entries : List Entry) (after : Run D) : Type 0 where
    pub ended : given.ended ≡ true
    pub front : List (List ℕ)
    pub first : List ℕ
    pub inner : List (List ℕ)
    pub few : length (script_lines given.taken) ≤ most_lines
    pub lines : script_lines given.taken ≡ front ++ first ∷ inner
    pub run : IsRunOf on by workers request start front None entries after
    pub begins : line_of first ≡ Some Together
    pub asks : List BlockAsk
    pub inside : inside_block [] inner ≡ Some asks
    pub counted : number ≡ length front + 1

  -- one of these
  abbrev pub EndsAtLine : ℕ → List Entry → Run D → Type 0
  EndsAtLine number entries after = EndsAtFaultyLine number entries after ⊎ EndsInBlock number entries after

  -- Nothing came after the text. The lines that ended were run, but for those of a block that is open, and nothing of the one that has begun. (`SourceAt` says that
  -- the source failed.)
  pub record EndsAtSource (entries : List Entry) (after : Run D) : Type 0 where
    pub before : List ℕ
    pub text : List ℕ
    pub cut : IsCut given.taken before text []
    pub block : BlockSoFar
    pub run : IsRunOf on by workers request start (script_lines before) block entries after

  -- the disk, or what it has, did not let the group be opened; nothing of the script was taken
  pub record EndsUnopened (entries : List Entry) (after : Run D) : Type 0 where
    pub none_taken : given.taken ≡ []
    pub first : IsOpeningEntry on by request start entries after
    pub why : Refusal
    pub refused : first.entry.answer ≡ Refused why
    pub cause : CannotOpen why

  -- nothing of the script was taken; the opening was answered, or not even that
  pub record IsOpening (done more : List Entry) (after : Run D) : Type 0 where
    pub none_taken : given.taken ≡ []
    pub nothing : done ≡ []
    pub begins : ((more ≡ []) × (after ≡ start)) ⊎ IsOpeningEntry on by request start more after

  -- The lines before some place of the script gave the first entries. The others are what the next line began to give, where it was over and
  -- within the limits; or there are none.
  pub record IsUpToLine (done more : List Entry) (after : Run D) : Type 0 where
    pub before : List ℕ
    pub text : List ℕ
    pub rest : List ℕ
    pub cut : IsCut given.taken before text rest
    pub block : BlockSoFar
    pub middle : Run D
    pub run : IsRunOf on by workers request start (script_lines before) block done middle
    pub begins : TextBegins on by workers block text done middle more after
    pub over : (more ≡ []) ⊎ (IsOver given.ended rest × (length (script_lines before) < most_lines))

  -- what the opening and the lines before the one begun last gave, and what that one began to give
  abbrev pub IsUpTo : List Entry → List Entry → Run D → Type 0
  IsUpTo done more after = IsOpening done more after ⊎ IsUpToLine done more after

  -- the history in these two parts
  pub record IsInParts (entries : List Entry) (after : Run D) : Type 0 where
    pub done : List Entry
    pub more : List Entry
    pub parts : entries ≡ done ++ more
    pub up_to : IsUpTo done more after

  -- Memory ran out before the opening was answered, in it, or after it: it was not refused for the disk, or for what that has. Nothing of the script was taken.
  pub record RunsOutAtOpening (entries : List Entry) (after : Run D) : Type 0 where
    pub none_taken : given.taken ≡ []
    pub begins : ((entries ≡ []) × (after ≡ start))
        ⊎ ((first : IsOpeningEntry on by request start entries after) × ((why : Refusal) → first.entry.answer ≡ Refused why → CannotOpen why → ⊥))

  -- it ran out before a line, in it, or after it
  pub record RunsOutInLines (entries : List Entry) (after : Run D) : Type 0 where
    pub done : List Entry
    pub more : List Entry
    pub parts : entries ≡ done ++ more
    pub up_to : IsUpToLine done more after

  -- memory ran out, at the opening or in the lines after it
  abbrev pub EndsForMemory : List Entry → Run D → Type 0
  EndsForMemory entries after = RunsOutAtOpening entries after ⊎ RunsOutInLines entries after

  -- the whole script was run, and no block is open
  pub record IsWhole (entries : List Entry) (after : Run D) : Type 0 where
    pub ended : given.ended ≡ true
    pub run : IsRunOf on by workers request start (script_lines given.taken) None entries after

  -- why an ending was due
  abbrev pub CauseOf : Ending → List Entry → Run D → Type 0
  CauseOf Whole entries after = IsWhole entries after
  CauseOf NoGroup entries after = ⊥
  CauseOf (BadLine line) entries after = EndsAtLine line entries after
  CauseOf Source entries after = EndsAtSource entries after
  CauseOf Sink entries after = ⊥
  CauseOf Memory entries after = EndsForMemory entries after
  CauseOf NotOpened entries after = EndsUnopened entries after

-- the source failed where that is the ending, and nowhere else
abbrev pub SourceAt : Ending → ℕ → ℕ → Type 0
SourceAt Whole old new = new ≡ old
SourceAt NoGroup old new = new ≡ old
SourceAt (BadLine line) old new = new ≡ old
SourceAt Source old new = Rose old new
SourceAt Sink old new = new ≡ old
SourceAt Memory old new = new ≡ old
SourceAt NotOpened old new = new ≡ old
