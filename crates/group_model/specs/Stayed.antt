-- Who stayed in the group over a batch, and the number of the last push (RFC 6407 section 5.7: it rises with each push of the group).
use Rattle.std.specs.Prelude.{ℕ, zero, suc, ◌+◌, ◌-◌, ◌&&◌, Bool, false, List, map, Option, None, Some, if◌then◌else◌}
use Rattle.std.specs.List.{list_any}
use Rattle.group_terms.specs.Names.{Name}
use Rattle.group_terms.specs.declared.changes.Change.{Change}
use Rattle.group_model.specs.Places.{Holders, is_member, holders_at}

-- m was a member before the batch and is one after it
abbrev pub has_stayed : Holders → Holders → Name → Bool
has_stayed before after m = is_member before m && is_member after m

-- whether who has a leaf after the batch was a member before it
abbrev pub is_kept : Holders → Option Name → Bool
is_kept before None = false
is_kept before (Some holder) = is_member before holder

-- for each leaf, whether who has it stayed
abbrev pub kept_leaves : Holders → Holders → List Bool
kept_leaves before after = map (is_kept before) after

-- whether somebody who has a leaf after the batch was a member before it
abbrev pub somebody_stayed : Holders → Holders → Bool
somebody_stayed before after = list_any (is_kept before) after

-- whether somebody stayed at an epoch
abbrev pub stayed_at : ℕ → List (List Change) → ℕ → Bool
stayed_at depth batches epoch = somebody_stayed (holders_at depth batches (epoch - 1)) (holders_at depth batches epoch)

-- the number of the last push up to an epoch: a batch over which somebody stayed uses the next two
unfoldable pub sequence_at : ℕ → List (List Change) → ℕ → ℕ
sequence_at depth batches zero = 0
sequence_at depth batches (suc epoch) =
    sequence_at depth batches epoch + (if stayed_at depth batches (suc epoch) then 2 else 0)
