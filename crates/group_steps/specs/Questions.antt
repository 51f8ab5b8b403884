-- Questions that are answered from a history, and marks in it: the server and the members stay as they are.
use Rattle.std.specs.Prelude.{◌≡◌, ◌++◌, ℕ, Bool, List, Decides}
use Rattle.epoch_board.specs.Pairs.{last_pair}
use Rattle.epoch_board.specs.declared.pairs.Seen.{Seen}
use Rattle.group_terms.specs.Names.{Name}
use Rattle.group_terms.specs.declared.keys.KeyName.TheVariants.{Traffic}
use Rattle.group_model.specs.Derivations.{CanDerive, held_names, pairs_sent}
use Rattle.group_model.specs.declared.entries.Answer.{Answer}
use Rattle.group_model.specs.declared.entries.Answer.TheVariants.{Derived, Done, Pair}
use Rattle.group_model.specs.declared.entries.Entry.{Entry}
use Rattle.group_model.specs.declared.entries.Outside.{Outside}
use Rattle.server_steps.specs.Outsides.{quiet}
use Rattle.group_steps.specs.Runs.{Run}
use Rattle.group_steps.specs.Shows.{pairs_shown}

-- whether names derive the traffic key of an epoch from what they were given and what was sent before
pub record IsQuestion {D : Type 0} (before : List Entry) (epoch : ℕ) (members : List Name) (run : Run D) (answer : Answer) (outside : Outside)
    (next : Run D) : Type 0 where
  pub yes : Bool
  pub decides : Decides yes (CanDerive (held_names before members) (pairs_sent before) (Traffic epoch))
  pub answers : answer ≡ Derived yes
  pub beside : outside ≡ quiet run.host
  pub stays : next ≡ run

-- the answer that is such a pair
abbrev pub answer_pair : Seen → Answer
answer_pair seen = Pair seen.epoch seen.sequence

-- The pair that some first part of what came before showed last. Workers of a block look while others take turns, so it is free here which part; the lines of a
-- script say it.
pub record IsLook {D : Type 0} (before : List Entry) (run : Run D) (answer : Answer) (outside : Outside) (next : Run D) : Type 0 where
  pub upto : List Entry
  pub later : List Entry
  pub are : before ≡ upto ++ later
  pub answers : answer ≡ answer_pair (last_pair (pairs_shown upto))
  pub beside : outside ≡ quiet run.host
  pub stays : next ≡ run

-- a block of lines begins, or all of it was run
pub record IsMark {D : Type 0} (run : Run D) (answer : Answer) (outside : Outside) (next : Run D) : Type 0 where
  pub answers : answer ≡ Done
  pub beside : outside ≡ quiet run.host
  pub stays : next ≡ run
