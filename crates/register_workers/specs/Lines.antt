-- The lines of a block: what each asks of the server, and what becomes of it by the answers.
use Rattle.std.specs.Prelude.{◌≡◌, ◌≢◌, ◌⊎◌, ℕ, Bool, false, MatchBool, List, [], ◌∷◌, All, Some, IsSome, Ok, Err}
use Rattle.group_terms.specs.Names.{Name}
use Rattle.group_model.specs.Answers.{ran_out}
use Rattle.group_model.specs.declared.entries.Answer.{Answer}
use Rattle.group_model.specs.declared.entries.Answer.TheVariants.{Datagram}
use Rattle.group_model.specs.declared.entries.Asked.{Asked}
use Rattle.group_model.specs.declared.entries.Asked.TheVariants as requests
use Rattle.group_model.specs.declared.entries.Entry.{Entry}
use Rattle.member_pull.specs.Pulls.{IsSecond}
use Rattle.member_pull.specs.Views.{Pull}
use Rattle.member_pull.specs.declared.refusals.PullRefusal.{PullRefusal}
use Rattle.member_pull.specs.declared.refusals.PullRefusal.TheVariants.{NoMemory}
use Rattle.register_workers.specs.declared.lines.BlockAsk.{BlockAsk}
use Rattle.register_workers.specs.declared.lines.BlockAsk.TheVariants.{Join, Again, Leave, Batch, Now}
use Rattle.register_workers.specs.declared.lines.BlockLine.{BlockLine}

-- ---- what there has to be

-- the pull of a member, and a datagram that it is to send
pub record HasPull (line : BlockLine) : Type 0 where
  pub pull : IsSome line.pull
  pub sent : IsSome line.sent

-- whose member sends
abbrev pub CanSend : BlockAsk → BlockLine → Type 0
CanSend (Join m) line = HasPull line
CanSend (Again m) line = HasPull line
CanSend asked line = Unit {0}

-- a line whose member sends has both
abbrev pub IsReady : BlockLine → Type 0
IsReady line = CanSend line.asked line

-- ---- what becomes of a line

-- its pull takes a datagram as the second message, and the member sends the third one (RFC 6407 section 3.2)
pub record Agrees (line : BlockLine) (second third : List ℕ) (new : BlockLine) : Type 0 where
  pub pull : Pull
  pub has : line.pull ≡ Some pull
  pub after : Pull
  pub takes : IsSecond pull second (Ok third) after
  pub now : new ≡ record line { pull = Some after; sent = Some third }

-- Its pull does not take a datagram as the second message, be it refused or that the pull awaits another one; that memory was short is no refusal. A fourth
-- message is given to the member after the block.
pub record PassesOver (line : BlockLine) (datagram : List ℕ) : Type 0 where
  pub pull : Pull
  pub has : line.pull ≡ Some pull
  pub why : PullRefusal
  pub refused : why ≢ NoMemory
  pub takes : IsSecond pull datagram (Err why) pull

-- with no turn more
pub record Ends (line : BlockLine) (turns : List Entry) (new : BlockLine) : Type 0 where
  pub last : turns ≡ []
  pub now : new ≡ line

-- the member answers a second message by the third one, which is served
pub record SendsThird (m : Name) (second : List ℕ) (line : BlockLine) (turns : List Entry) (new : BlockLine) : Type 0 where
  pub third : List ℕ
  pub agrees : Agrees line second third new
  pub turn : Entry
  pub is_turn : turns ≡ turn ∷ []
  pub asked : turn.asked ≡ requests.Serve m third

-- A datagram for the line goes missing, if that was set; then the next one comes. Else it comes to the member.
abbrev pub Comes : Name → List ℕ → BlockLine → List Entry → BlockLine → Type 0
Comes m datagram line turns new =
    MatchBool line.lose (Ends (record line { lose = false }) turns new)
    ((PassesOver line datagram × Ends line turns new) ⊎ SendsThird m datagram line turns new)

-- by the answer to what the member sent
abbrev pub GoesOn : Name → Answer → BlockLine → List Entry → BlockLine → Type 0
GoesOn m (Datagram octets names) line turns new = Comes m octets line turns new
GoesOn m answer line turns new = Ends line turns new

-- The first turn asks this; those after it, and what becomes of the line, follow from its answer.
pub record Asks (request : Asked) (then : Answer → BlockLine → List Entry → BlockLine → Type 0) (line : BlockLine) (turns : List Entry) (new : BlockLine)
    : Type 0 where
  pub turn : Entry
  pub later : List Entry
  pub are : turns ≡ turn ∷ later
  pub asked : turn.asked ≡ request
  pub goes_on : then turn.answer line later new

-- the member of a line sends what it has to
pub record Sends (m : Name) (line : BlockLine) (turns : List Entry) (new : BlockLine) : Type 0 where
  pub datagram : List ℕ
  pub has : line.sent ≡ Some datagram
  pub asks : Asks (requests.Serve m datagram) (GoesOn m) line turns new

-- one turn, by which a line does not change
abbrev pub AsksOnce : Asked → BlockLine → List Entry → BlockLine → Type 0
AsksOnce request line turns new = Asks request (λ answer. Ends) line turns new

-- all turns of a line, and what becomes of it by them
abbrev pub Turns : BlockAsk → BlockLine → List Entry → BlockLine → Type 0
Turns (Join m) line turns new = Sends m line turns new
Turns (Again m) line turns new = Sends m line turns new
Turns (Leave m) line turns new = AsksOnce (requests.Leave m) line turns new
Turns Batch line turns new = AsksOnce requests.Batch line turns new
Turns Now line turns new = Ends line turns new

-- ---- where memory runs out

-- no turn was answered that memory ran out
abbrev pub HadMemory : List Entry → Type 0
HadMemory turns = All (λ (turn : Entry). ran_out turn.answer ≡ false) turns

-- after the first turn of a line whose member sends, before the answer came to it, or before it sent the third message
pub record StopsBetween (m : Name) (line : BlockLine) (turns : List Entry) (new : BlockLine) : Type 0 where
  pub datagram : List ℕ
  pub has : line.sent ≡ Some datagram
  pub turn : Entry
  pub is_turn : turns ≡ turn ∷ []
  pub asked : turn.asked ≡ requests.Serve m datagram
  pub now : (new ≡ line) ⊎ ((second : List ℕ) × (third : List ℕ) × Agrees line second third new)

-- only a line whose member sends has two turns
abbrev pub StopsAfterFirst : BlockAsk → BlockLine → List Entry → BlockLine → Type 0
StopsAfterFirst (Join m) line turns new = StopsBetween m line turns new
StopsAfterFirst (Again m) line turns new = StopsBetween m line turns new
StopsAfterFirst asked line turns new = ⊥

-- want of memory ended the line in a turn, before the first one, or between two
abbrev pub StopsShort : BlockAsk → BlockLine → List Entry → BlockLine → Type 0
StopsShort asked line turns new = Turns asked line turns new ⊎ (Ends line turns new ⊎ StopsAfterFirst asked line turns new)

-- whether it did may be told
abbrev pub Becomes : Bool → BlockAsk → BlockLine → List Entry → BlockLine → Type 0
Becomes short asked line turns new = MatchBool short (StopsShort asked line turns new) (Turns asked line turns new × HadMemory turns)
