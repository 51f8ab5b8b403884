-- Whether one change of a batch suits the members that there are.
use Rattle.std.specs.Prelude.{Bool, not}
use Rattle.group_terms.specs.declared.changes.Change.{Change}
use Rattle.group_terms.specs.declared.changes.Change.TheVariants.{Out, In}
use Rattle.group_model.specs.Places.{Holders, is_member}

-- an Out names a member, an In somebody who is none
abbrev pub suits : Holders → Change → Bool
suits holders (Out m) = is_member holders m
suits holders (In m) = not (is_member holders m)
