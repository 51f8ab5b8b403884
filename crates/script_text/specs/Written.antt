-- Lines of a script, as they are written.
use Rattle.std.specs.Prelude.{ℕ, List, [], ◌∷◌, ◌++◌, codes}
use Rattle.std.specs.Fmt.{decimal}
use Rattle.std.specs.List.{join_with_byte}
use Rattle.script_text.specs.declared.lines.Line.{Line}
use Rattle.script_text.specs.declared.lines.Line.TheVariants.{Nothing, Allow, Deny, Join, Again, Lose, Leave, Batch, Deliver, DeliverAll, Key, Derive, Halt, Reopen, Show, Now, Together, End}

-- the words of a line
abbrev pub line_words : Line → List (List ℕ)
line_words Nothing = []
line_words (Allow pattern) = codes "allow" ∷ pattern ∷ []
line_words (Deny pattern) = codes "deny" ∷ pattern ∷ []
line_words (Join m) = codes "join" ∷ m ∷ []
line_words (Again m) = codes "again" ∷ m ∷ []
line_words (Lose m) = codes "lose" ∷ m ∷ []
line_words (Leave m) = codes "leave" ∷ m ∷ []
line_words Batch = codes "batch" ∷ []
line_words (Deliver m sequence) = codes "deliver" ∷ m ∷ decimal sequence ∷ []
line_words DeliverAll = codes "deliver-all" ∷ []
line_words (Key m) = codes "key" ∷ m ∷ []
line_words (Derive epoch members) = codes "derive" ∷ decimal epoch ∷ members
line_words Halt = codes "halt" ∷ []
line_words Reopen = codes "reopen" ∷ []
line_words Show = codes "show" ∷ []
line_words Now = codes "now" ∷ []
line_words Together = codes "together" ∷ []
line_words End = codes "end" ∷ []

-- a line as it is written: its words, with one space between each two
abbrev pub line_text : Line → List ℕ
line_text line = join_with_byte 32 (line_words line)

-- a line with its line end
abbrev pub ended_line : Line → List ℕ
ended_line line = line_text line ++ 10 ∷ []
