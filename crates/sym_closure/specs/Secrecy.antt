-- Who can derive which key (forward and backward access control, RFC 6407 section 7.4), said of every list of batches.
use Rattle.std.specs.Prelude.{◌≡◌, ℕ, ◌+◌, ◌^◌, ◌<◌, ◌≤◌, true, false, List, [], ◌∷◌, length, Contains, None, Some, slice_index_or}
use Rattle.std.specs.List.{list_any}
use Rattle.std.specs.Option.{unwrap_or}
use Rattle.group_terms.specs.Names.{Name}
use Rattle.group_terms.specs.Positions.{is_below}
use Rattle.group_terms.specs.declared.changes.Change.{Change}
use Rattle.group_terms.specs.declared.keys.KeyName.{KeyName}
use Rattle.group_terms.specs.declared.keys.KeyName.TheVariants.{Node, Traffic, Phase}
use Rattle.group_model.specs.declared.entries.Entry.{Entry}
use Rattle.group_model.specs.Places.{is_held_by, is_member, holders_at}
use Rattle.group_model.specs.Fresh.{last_change}
use Rattle.group_model.specs.Answers.{found_by}
use Rattle.group_model.specs.Derivations.{CanDerive}
use Rattle.sym_closure.specs.Worlds.{keys_told, world, holdings, wraps_since}

module _ (depth : ℕ) (batches : List (List Change)) where
  -- No coalition derives the traffic key of an epoch at which none of them is a member, from all that they can ever be given, at epochs
  -- before and after it, by all that can ever be sent.
  abbrev pub NoOthersDerive : Type 0
  NoOthersDerive =
      (epoch : ℕ) (coalition : List Name) → list_any (is_member (holders_at depth batches epoch)) coalition ≡ false
      → CanDerive (holdings depth batches coalition) (world depth batches) (Traffic epoch) → ⊥

  -- And none derives that of an epoch to come.
  abbrev pub NobodyDerivesYet : Type 0
  NobodyDerivesYet =
      (epoch : ℕ) (coalition : List Name) → length batches < epoch
      → CanDerive (holdings depth batches coalition) (world depth batches) (Traffic epoch) → ⊥

  -- one of a coalition had a leaf at v or below it at an epoch of the list at which v had the key that it got at the epoch `made`
  pub record HadLeafBelow (coalition : List Name) (v made : ℕ) : Type 0 where
    pub m : Name
    pub ours : Contains coalition m
    pub epoch : ℕ
    pub begun : 1 ≤ epoch
    pub within : epoch ≤ length batches
    pub leaf : ℕ
    pub low : leaf < 2 ^ depth
    pub held : is_held_by m (slice_index_or (holders_at depth batches epoch) leaf None) ≡ true
    pub below : is_below depth v (2 ^ depth + leaf) ≡ true
    pub key : last_change depth batches epoch v ≡ Some made

  -- the list has this epoch, and one of them is a member of it
  pub record HasMember (coalition : List Name) (epoch : ℕ) : Type 0 where
    pub m : Name
    pub ours : Contains coalition m
    pub within : epoch ≤ length batches
    pub member : is_member (holders_at depth batches epoch) m ≡ true

  -- the keys within a coalition's reach: those that the positions from their leaves up had while they had these leaves, the traffic keys of
  -- their epochs, and their phase 1 keys
  abbrev pub IsWithinReach : List Name → KeyName → Type 0
  IsWithinReach coalition (Node v made) = HadLeafBelow coalition v made
  IsWithinReach coalition (Traffic made) = HasMember coalition made
  IsWithinReach coalition (Phase m) = Contains coalition m

  -- A coalition derives no key but those within its reach.
  abbrev pub DerivesOnlyWithinReach : Type 0
  DerivesOnlyWithinReach =
      (coalition : List Name) (name : KeyName) → CanDerive (holdings depth batches coalition) (world depth batches) name
      → IsWithinReach coalition name

  -- m is a member at each epoch from one to another, both included
  abbrev pub IsMemberThrough : ℕ → ℕ → Name → Type 0
  IsMemberThrough from to m = (epoch : ℕ) → from ≤ epoch → epoch ≤ to → is_member (holders_at depth batches epoch) m ≡ true

  -- A member at each epoch from one to another derives the traffic key of the second from what it may be told at the first, by the
  -- encryptions of the epochs after the first, up to and with the second.
  abbrev pub MembersDerive : Type 0
  MembersDerive =
      (from to : ℕ) (m : Name) → from ≤ to → to ≤ length batches → IsMemberThrough from to m
      → CanDerive (keys_told depth batches from m) (wraps_since depth batches from to) (Traffic to)

-- the epoch at which a history begins: 0 where the group was made, and that at which it was found where it was opened
abbrev pub first_epoch : List Entry → ℕ
first_epoch [] = 0
first_epoch (entry ∷ entries) = unwrap_or (found_by entry.answer) 0
