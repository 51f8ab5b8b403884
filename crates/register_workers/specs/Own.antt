-- The turns of each line of a block that names no member twice.
use Rattle.std.specs.Prelude.{◌≡◌, ◌≢◌, ◌⊎◌, ℕ, ◌<◌, ◌≤◌, Bool, false, List, [], ◌∷◌, ◌++◌, length, filter, flat_map, slice_get, All, None, Some, IsSome}
use Rattle.std.specs.List.{IsDistinct}
use Rattle.desk.specs.Calls.{AreCallsOf}
use Rattle.desk.specs.declared.calls.Call.{Call}
use Rattle.group_terms.specs.Names.{Name, same_name}
use Rattle.group_model.specs.declared.entries.Asked.{Asked}
use Rattle.group_model.specs.declared.entries.Asked.TheVariants as requests
use Rattle.group_model.specs.declared.entries.Entry.{Entry}
use Rattle.register_workers.specs.Blocks.{Worked}
use Rattle.register_workers.specs.Lines.{Becomes}
use Rattle.register_workers.specs.declared.lines.BlockAsk.{BlockAsk}
use Rattle.register_workers.specs.declared.lines.BlockAsk.TheVariants.{Join, Again, Leave, Now}
use Rattle.register_workers.specs.declared.lines.BlockLine.{BlockLine}

-- ---- turns of a member

-- whether a request is to serve a datagram of this member
abbrev pub serves_for : Name → Asked → Bool
serves_for m (requests.Serve sender datagram) = same_name m sender
serves_for m asked = false

-- whether a turn serves one
abbrev pub serves : Name → Entry → Bool
serves m turn = serves_for m turn.asked

-- the turns of a member: those that serve its datagrams, in their order
abbrev pub own_turns : Name → List Entry → List Entry
own_turns m turns = filter (serves m) turns

-- ---- members of lines

-- whom a line names
abbrev pub named_by : BlockAsk → List Name
named_by (Join m) = m ∷ []
named_by (Again m) = m ∷ []
named_by (Leave m) = m ∷ []
named_by asked = []

-- whom lines name, one after the other
abbrev pub names_in : List BlockLine → List Name
names_in lines = flat_map (λ (line : BlockLine). named_by line.asked) lines

-- no member is named twice
abbrev pub AreApart : List BlockLine → Type 0
AreApart lines = IsDistinct same_name (names_in lines)

-- this member sends in a line
abbrev pub IsSender : BlockAsk → Name → Type 0
IsSender asked m = (asked ≡ Join m) ⊎ (asked ≡ Again m)

-- a line, at its place, in which this member sends
abbrev pub HasSender : List BlockLine → Name → Type 0
HasSender lines m = (i : ℕ) × (line : BlockLine) × (slice_get lines i ≡ Some line) × IsSender line.asked m

-- ---- what becomes of lines

-- A line whose member sends becomes what the turns of that member make of it. Of any other line only the pair that it shows changes.
abbrev pub BecomesBy : Bool → BlockAsk → BlockLine → List Entry → BlockLine → Type 0
BecomesBy short (Join m) line turns new = Becomes short line.asked (record line { seen = None }) (own_turns m turns) new
BecomesBy short (Again m) line turns new = Becomes short line.asked (record line { seen = None }) (own_turns m turns) new
BecomesBy short asked line turns new = new ≡ record line { seen = new.seen }

-- by what it asks
abbrev pub BecomesByOwn : Bool → BlockLine → List Entry → BlockLine → Type 0
BecomesByOwn short line turns new = BecomesBy short line.asked line turns new

-- a request of one of these lines: a batch, a leave, or a datagram of a member that sends in one
abbrev pub IsRequestOf : List BlockLine → Asked → Type 0
IsRequestOf lines requests.Batch = Unit {0}
IsRequestOf lines (requests.Leave m) = Unit {0}
IsRequestOf lines (requests.Serve m datagram) = HasSender lines m
IsRequestOf lines asked = ⊥

-- a turn with such a request
abbrev pub IsOfLines : List BlockLine → Entry → Type 0
IsOfLines lines turn = IsRequestOf lines turn.asked

-- Each line becomes what the turns of its own member make of it, and each turn is of some line. A look shows a pair, and no other line does.
pub record HaveOwnTurns (short : Bool) (lines news : List BlockLine) (turns : List Entry) : Type 0 where
  pub own : (i : ℕ) (line new : BlockLine) → slice_get lines i ≡ Some line → slice_get news i ≡ Some new → BecomesByOwn short line turns new
  pub of_lines : All (IsOfLines lines) turns
  pub shown : (i : ℕ) (line new : BlockLine) → slice_get lines i ≡ Some line → slice_get news i ≡ Some new → line.asked ≡ Now → IsSome new.seen
  pub unseen : (i : ℕ) (line new : BlockLine) → slice_get lines i ≡ Some line → slice_get news i ≡ Some new → line.asked ≢ Now → new.seen ≡ None

-- so it is of a block that names no member twice, however many workers ran it
abbrev pub LinesHaveOwnTurns : Type 0
LinesHaveOwnTurns = (short : Bool) (workers : ℕ) (before turns : List Entry) (lines news : List BlockLine) (calls : List (List (Call Entry)))
    → 1 ≤ workers → AreApart lines → length news ≡ length lines → length calls ≡ workers → AreCallsOf turns calls
    → ((w : ℕ) → w < workers → Worked short before (before ++ turns) workers w lines news calls)
    → HaveOwnTurns short lines news turns
