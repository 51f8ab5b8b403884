-- A group as somebody sees it who asks.
use Rattle.std.specs.Prelude.{ℕ, ◌^◌, List, length}
use Rattle.std.specs.List.{filter_map, range_with_len}
use Rattle.std.specs.Option.{option_map}
use Rattle.group_terms.specs.Names.{Name}
use Rattle.group_terms.specs.declared.changes.Change.{Change}
use Rattle.group_model.specs.declared.entries.GroupSeen.{GroupSeen}
use Rattle.group_model.specs.declared.entries.Standing.{Standing}
use Rattle.group_model.specs.Places.{Holders, holders_of, member_at}
use Rattle.group_model.specs.Stayed.{sequence_at}

-- a member with its leaf
abbrev pub standing_at : ℕ → Name → Standing
standing_at leaf m = record { leaf = leaf; member = m }

-- the members with their leaves, by rising leaf
unfoldable pub standings : ℕ → Holders → List Standing
standings depth holders = filter_map (λ leaf. option_map (standing_at leaf) (member_at depth holders leaf)) (range_with_len (2 ^ depth) (2 ^ depth))

-- after these batches: the epoch, the number of the last push, and the members
abbrev pub seen_group : ℕ → List (List Change) → GroupSeen
seen_group depth batches = record {
  depth = depth;
  epoch = length batches;
  sequence = sequence_at depth batches (length batches);
  members = standings depth (holders_of depth batches);
}
