-- Looks at the board.
use Rattle.std.specs.Prelude.{◌≡◌, List}
use Rattle.epoch_board.specs.Pairs.{last_pair}
use Rattle.group_model.specs.declared.entries.Answer.{Answer}
use Rattle.group_model.specs.declared.entries.Entry.{Entry}
use Rattle.group_model.specs.declared.entries.Outside.{Outside}
use Rattle.group_steps.specs.Questions.{answer_pair}
use Rattle.group_steps.specs.Runs.{Run}
use Rattle.group_steps.specs.Shows.{pairs_shown}
use Rattle.server_steps.specs.Outsides.{quiet}

-- the pair that what came before showed last; 0 and 0 where it showed none
pub record ShowsLast {D : Type 0} (before : List Entry) (run : Run D) (answer : Answer) (outside : Outside) (next : Run D) : Type 0 where
  pub answers : answer ≡ answer_pair (last_pair (pairs_shown before))
  pub beside : outside ≡ quiet run.host
  pub stays : next ≡ run
