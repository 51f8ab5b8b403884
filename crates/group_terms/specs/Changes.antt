-- What the changes of a batch say.
use Rattle.std.specs.Prelude.{Bool, List, Option, None, Some}
use Rattle.std.specs.List.{filter_map, list_any}
use Rattle.group_terms.specs.Names.{Name, same_name}
use Rattle.group_terms.specs.declared.changes.Change.{Change}
use Rattle.group_terms.specs.declared.changes.Change.TheVariants.{Out, In}

-- whom a change is about
abbrev pub member_of : Change → Name
member_of (Out member) = member
member_of (In member) = member

-- whether a change of m is pending
abbrev pub is_pending : List Change → Name → Bool
is_pending queue m = list_any (λ change. same_name m (member_of change)) queue

-- whom a change takes out, if anybody
abbrev pub leaver : Change → Option Name
leaver (Out m) = Some m
leaver (In m) = None

-- whom a change lets in, if anybody
abbrev pub joiner : Change → Option Name
joiner (Out m) = None
joiner (In m) = Some m

-- whom a batch takes out, in the order of the batch
abbrev pub leavers : List Change → List Name
leavers batch = filter_map leaver batch

-- whom a batch lets in, in the order of the batch
abbrev pub joiners : List Change → List Name
joiners batch = filter_map joiner batch
