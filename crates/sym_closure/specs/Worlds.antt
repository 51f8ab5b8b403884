-- All that a group can ever send and tell, over the epochs of a list of batches, whether it was sent or not.
use Rattle.std.specs.Prelude.{ℕ, ◌&&◌, nat_lt, nat_le, List, ◌++◌, map, length}
use Rattle.std.specs.List.{filter, filter_map, flat_map, range_with_len}
use Rattle.group_terms.specs.Names.{Name}
use Rattle.group_terms.specs.declared.changes.Change.{Change}
use Rattle.group_terms.specs.declared.keys.KeyName.{KeyName}
use Rattle.group_terms.specs.declared.keys.KeyName.TheVariants.{Phase}
use Rattle.group_terms.specs.declared.keys.Wrap.{Wrap}
use Rattle.group_model.specs.Places.{is_member, holders_at}
use Rattle.group_model.specs.Wraps.{wraps_at}
use Rattle.group_model.specs.Replies.{reply_at}
use Rattle.group_model.specs.Derivations.{told_pairs}

-- the epochs that the batches make: the first batch makes epoch 1
abbrev pub epochs_of : List (List Change) → List ℕ
epochs_of batches = range_with_len 1 (length batches)

module _ (depth : ℕ) (batches : List (List Change)) where
  -- the members of an epoch, by rising leaf
  abbrev pub members_at : ℕ → List Name
  members_at epoch = filter_map (λ holder. holder) (holders_at depth batches epoch)

  -- the keys in a reply to a member of an epoch (RFC 6407 section 3.2); it is asked of members alone
  abbrev pub keys_told : ℕ → Name → List KeyName
  keys_told epoch m = (reply_at depth batches epoch m).names

  -- all that may be sent at an epoch: the encryptions of its batch (RFC 6407 section 4), and a reply to each of its members
  abbrev pub pairs_at : ℕ → List Wrap
  pairs_at epoch = wraps_at depth batches epoch ++ flat_map (λ m. told_pairs m (keys_told epoch m)) (members_at epoch)

  -- the same, over all epochs
  abbrev pub world : List Wrap
  world = flat_map pairs_at (epochs_of batches)

  -- what those of a coalition are told at an epoch who are members then
  abbrev pub told_at : List Name → ℕ → List KeyName
  told_at coalition epoch = flat_map (keys_told epoch) (filter (is_member (holders_at depth batches epoch)) coalition)

  -- all that a coalition can ever be given: its phase 1 keys (RFC 6407 section 2), and all that it is told, over all epochs
  abbrev pub holdings : List Name → List KeyName
  holdings coalition = map Phase coalition ++ flat_map (told_at coalition) (epochs_of batches)

  -- the encryptions of the epochs after one, up to and with another
  abbrev pub wraps_since : ℕ → ℕ → List Wrap
  wraps_since from to = flat_map (wraps_at depth batches) (filter (λ epoch. nat_lt from epoch && nat_le epoch to) (epochs_of batches))
