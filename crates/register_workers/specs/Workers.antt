-- What became of lines that one worker ran, one after the other.
use Rattle.std.specs.Prelude.{◌≡◌, ℕ, ◌+◌, Bool, List, [], ◌∷◌, ◌++◌, length, map, Some, None}
use Rattle.desk.specs.declared.calls.Call.{Call}
use Rattle.epoch_board.specs.Pairs.{StartsWith, last_pair}
use Rattle.epoch_board.specs.declared.pairs.Seen.{Seen}
use Rattle.group_model.specs.declared.entries.Entry.{Entry}
use Rattle.register_workers.specs.Lines.{Becomes}
use Rattle.group_steps.specs.Shows.{pairs_shown}
use Rattle.register_workers.specs.declared.lines.BlockAsk.{BlockAsk}
use Rattle.register_workers.specs.declared.lines.BlockAsk.TheVariants.{Now}
use Rattle.register_workers.specs.declared.lines.BlockLine.{BlockLine}

-- the entries of some calls
abbrev pub turns_in : List (Call Entry) → List Entry
turns_in calls = map (λ (call : Call Entry). call.entry) calls

-- in a block that began after so many entries, and left this history
module _ (begun : ℕ) (history : List Entry) where
  -- the pairs that were published up to a turn, with it, which go on from those that were known before it
  pub record IsKnownAt (known : List Seen) (call : Call Entry) (next : List Seen) : Type 0 where
    pub upto : List Entry
    pub within : StartsWith history upto
    pub place : length upto ≡ begun + call.place + 1
    pub is : next ≡ pairs_shown upto
    pub knew : StartsWith next known

  -- Who knew of these pairs knows of those after its calls: each call tells all that was published up to it.
  abbrev pub LearnsBy : List Seen → List (Call Entry) → List Seen → Type 0
  LearnsBy known [] later = later ≡ known
  LearnsBy known (call ∷ calls) later = (next : List Seen) × IsKnownAt known call next × LearnsBy next calls later

  -- and in which these pairs were shown; whether want of memory ended a line
  module _ (shown : List Seen) (memory : Bool) where
    -- A look shows the last of some first pairs of the block, among which are all that the worker knew of.
    pub record Looks (line : BlockLine) (known : List Seen) (calls : List (Call Entry)) (new : BlockLine) (later : List Seen) : Type 0 where
      pub no_turn : calls ≡ []
      pub knew : StartsWith later known
      pub within : StartsWith shown later
      pub now : new ≡ record line { seen = Some (last_pair later) }

    -- turns of a line, which shows no pair
    pub record TakesTurns (line : BlockLine) (known : List Seen) (calls : List (Call Entry)) (new : BlockLine) (later : List Seen) : Type 0 where
      pub becomes : Becomes memory line.asked (record line { seen = None }) (turns_in calls) new
      pub learns : LearnsBy known calls later

    -- by what it asks
    abbrev pub RanBy : BlockAsk → BlockLine → List Seen → List (Call Entry) → BlockLine → List Seen → Type 0
    RanBy Now line known calls new later = Looks line known calls new later
    RanBy asked line known calls new later = TakesTurns line known calls new later

    -- what a worker made of a line by its calls for it
    abbrev pub Ran : BlockLine → List Seen → List (Call Entry) → BlockLine → List Seen → Type 0
    Ran line known calls new later = RanBy line.asked line known calls new later

    -- Of lines one after the other: the calls of each come after those of the lines before it.
    abbrev pub RanAll : List BlockLine → List Seen → List (Call Entry) → List BlockLine → List Seen → Type 0
    RanAll [] known calls news later = (calls ≡ []) × (news ≡ []) × (later ≡ known)
    RanAll (line ∷ lines) known calls news later =
        (own : List (Call Entry)) × (rest : List (Call Entry)) × (new : BlockLine) × (others : List BlockLine) × (next : List Seen)
        × (calls ≡ own ++ rest) × (news ≡ new ∷ others) × Ran line known own new next × RanAll lines next rest others later
