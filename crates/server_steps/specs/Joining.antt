-- Which joins wait, and which sessions.
use Rattle.std.specs.Prelude.{◌≡◌, Bool, List}
use Rattle.std.specs.List.{list_any}
use Rattle.group_terms.specs.Changes.{joiners}
use Rattle.group_terms.specs.Names.{Name, same_name}
use Rattle.group_terms.specs.declared.changes.Change.{Change}
use Rattle.pull_sessions.specs.Sessions.{is_queued_of}
use Rattle.pull_sessions.specs.declared.sas.Sa.{Sa}

-- whether a join of a name waits
abbrev pub is_joining : List Change → Name → Bool
is_joining queue m = list_any (same_name m) (joiners queue)

-- A join of a name waits exactly where its session awaits the batch. So each reply of a batch is the fourth message of a session, and no session awaits a batch
-- that does not let its member in.
abbrev pub JoinsHaveSessions : List Change → List Sa → Type 0
JoinsHaveSessions queue sas = (m : Name) → is_queued_of sas m ≡ is_joining queue m
