-- The members that have some leaves.
use Rattle.std.specs.Prelude.{ℕ, List}
use Rattle.std.specs.List.{filter_map}
use Rattle.std.specs.Option.{option_map}
use Rattle.group_model.specs.Places.{Holders, member_at}
use Rattle.group_model.specs.Seen.{standing_at}
use Rattle.group_model.specs.declared.entries.Standing.{Standing}

-- who has which of these leaves, in their order
unfoldable pub standings_among : ℕ → Holders → List ℕ → List Standing
standings_among depth holders leaves = filter_map (λ leaf. option_map (standing_at leaf) (member_at depth holders leaf)) leaves
