-- The entries that are noted.
use Rattle.std.specs.Prelude.{ℕ}
use Rattle.group_model.specs.Answers.{disk_failed_by, found_by}
use Rattle.group_model.specs.declared.entries.Answer.{Answer}
use Rattle.group_model.specs.declared.entries.Asked.{Asked}
use Rattle.group_model.specs.declared.entries.Entry.{Entry}
use Rattle.group_model.specs.declared.entries.Outside.{Outside}

-- what is noted of the outside beside an answer, where draws were at this place
abbrev pub beside : Answer → ℕ → Outside
beside answer place = record { disk_failed = disk_failed_by answer; found = found_by answer; place = place }

-- a request with its answer
abbrev pub noted : Asked → Answer → ℕ → Entry
noted asked answer place = record { asked = asked; outside = beside answer place; answer = answer }
