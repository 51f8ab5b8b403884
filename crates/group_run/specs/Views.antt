-- A group that runs, as its callers see it.
use Rattle.std.specs.Prelude.{List}
use Rattle.group_model.specs.declared.entries.Entry.{Entry}
use Rattle.member_steps.specs.Members.{Members}
use Rattle.server_steps.specs.Views.{View as ServerView}

-- its key server, its members, and its history
pub record View (D G R : Type 0) : Type 0 where
  pub server : ServerView D G R
  pub members : Members
  pub entries : List Entry
