-- What follows of the definitions, said of every list of batches. The functions of `laws.rt` prove each of these.
use Rattle.std.specs.Prelude.{◌≡◌, ℕ, ◌+◌, ◌*◌, ◌^◌, ◌<◌, ◌≤◌, ◌&&◌, ◌||◌, not, true, false, None, Some, if◌then◌else◌}
use Rattle.std.specs.Prelude.{List, [], ◌∷◌, ◌++◌, length, take, slice_index_or}
use Rattle.std.specs.List.{list_any}
use Rattle.group_terms.specs.Changes.{is_pending, leavers, joiners}
use Rattle.group_terms.specs.Names.{Name, same_name}
use Rattle.group_terms.specs.declared.changes.Change.{Change}
use Rattle.group_terms.specs.declared.changes.Change.TheVariants.{Out, In}
use Rattle.group_values.specs.Values.{Rises}
use Rattle.group_model.specs.Places.{Holders, is_held_by, is_member, member_count, place_in}
use Rattle.group_model.specs.Places.{holders_of, holders_at, Fits, IsValid}
use Rattle.group_model.specs.Drawn.{drawn_at}
use Rattle.group_model.specs.Fresh.{last_change}
use Rattle.group_model.specs.Stayed.{has_stayed, sequence_at}
use Rattle.group_model.specs.Wraps.{wraps_at, is_nil}
use Rattle.group_model.specs.Refusals.{leaves_taken}

-- Each leaf of the tree has its place among the holders, after every list.
abbrev pub EachLeafHasItsPlace : Type 0
EachLeafHasItsPlace = (depth : ℕ) (batches : List (List Change)) → length (holders_of depth batches) ≡ 2 ^ depth

-- The holders of an epoch are those that the batches up to it make.
abbrev pub HoldersStay : Type 0
HoldersStay =
    (depth n epoch : ℕ) (batches : List (List Change)) → epoch ≤ n
    → holders_at depth (take n batches) epoch ≡ holders_at depth batches epoch

-- So is the last change of a position.
abbrev pub LastChangesStay : Type 0
LastChangesStay =
    (depth n epoch v : ℕ) (batches : List (List Change)) → epoch ≤ n
    → last_change depth (take n batches) epoch v ≡ last_change depth batches epoch v

-- The leaf that is a member's place is held by it.
abbrev pub PlacesAreHeld : Type 0
PlacesAreHeld =
    (depth leaf : ℕ) (holders : Holders) (m : Name) → place_in depth holders m ≡ Some leaf
    → (i : ℕ) × (leaf ≡ 2 ^ depth + i) × (is_held_by m (slice_index_or holders i None) ≡ true)

-- Two members never have one leaf.
abbrev pub NoLeafIsShared : Type 0
NoLeafIsShared =
    (depth epoch leaf : ℕ) (batches : List (List Change)) (m n : Name) → place_in depth (holders_at depth batches epoch) m ≡ Some leaf
    → place_in depth (holders_at depth batches epoch) n ≡ Some leaf → m ≡ n

-- In a valid list no name has two leaves. So leaves that are counted are members that are counted.
abbrev pub NoNameHasTwoLeaves : Type 0
NoNameHasTwoLeaves =
    (depth epoch i j : ℕ) (batches : List (List Change)) (m : Name) → IsValid depth batches
    → is_held_by m (slice_index_or (holders_at depth batches epoch) i None) ≡ true
    → is_held_by m (slice_index_or (holders_at depth batches epoch) j None) ≡ true → i ≡ j

-- A member keeps its leaf over each batch over which it stays.
abbrev pub PlacesStay : Type 0
PlacesStay =
    (depth epoch : ℕ) (batches : List (List Change)) (m : Name) → IsValid depth batches → epoch < length batches
    → has_stayed (holders_at depth batches epoch) (holders_at depth batches (epoch + 1)) m ≡ true
    → place_in depth (holders_at depth batches (epoch + 1)) m ≡ place_in depth (holders_at depth batches epoch) m

-- After a batch of a valid list its joiners are members, its leavers are none, and anybody else is one exactly where it was one before.
abbrev pub BatchesSayWhoIsMember : Type 0
BatchesSayWhoIsMember =
    (depth : ℕ) (batches : List (List Change)) (batch : List Change) (m : Name) → IsValid depth (batches ++ batch ∷ [])
    → is_member (holders_of depth (batches ++ batch ∷ [])) m
    ≡ (list_any (same_name m) (joiners batch) || (is_member (holders_of depth batches) m && not (list_any (same_name m) (leavers batch))))

-- A batch that encrypts something uses the next two sequence numbers; any other one uses none.
abbrev pub WrapsUseTwoNumbers : Type 0
WrapsUseTwoNumbers =
    (depth : ℕ) (batches : List (List Change)) (batch : List Change)
    → sequence_at depth (batches ++ batch ∷ []) (length batches + 1)
    ≡ sequence_at depth batches (length batches) + (if is_nil (wraps_at depth (batches ++ batch ∷ []) (length batches + 1)) then 0 else 2)

-- The positions for whose keys a batch draws values come by rising number.
abbrev pub DrawnPositionsRise : Type 0
DrawnPositionsRise = (depth : ℕ) (batches : List (List Change)) (epoch : ℕ) → Rises (drawn_at depth batches epoch)

-- The batch without a change fits always.
abbrev pub NoChangeFits : Type 0
NoChangeFits = (holders : Holders) → Fits holders []

-- No more go out than there are members.
abbrev pub LeaversAreFew : Type 0
LeaversAreFew = (holders : Holders) (batch : List Change) → Fits holders batch → length (leavers batch) ≤ member_count holders

-- A batch that fits has two changes for each leaf at the most.
abbrev pub ChangesAreFew : Type 0
ChangesAreFew = (holders : Holders) (batch : List Change) → Fits holders batch → length batch ≤ 2 * length holders

-- Who is no member may come in beside what waits, where no change of it waits and a leaf is left.
abbrev pub GrantedJoinsFit : Type 0
GrantedJoinsFit =
    (depth : ℕ) (holders : Holders) (queue : List Change) (m : Name) → length holders ≡ 2 ^ depth → Fits holders queue
    → is_member holders m ≡ false → is_pending queue m ≡ false → (leaves_taken depth holders queue ≡ 2 ^ depth → ⊥)
    → Fits holders (queue ++ In m ∷ [])

-- A member may go out beside what waits, where no change of it waits.
abbrev pub GrantedLeavesFit : Type 0
GrantedLeavesFit =
    (holders : Holders) (queue : List Change) (m : Name) → Fits holders queue → is_member holders m ≡ true → is_pending queue m ≡ false
    → Fits holders (queue ++ Out m ∷ [])

-- all of them
pub record Laws : Type 0 where
  pub each_leaf : EachLeafHasItsPlace
  pub holders_stay : HoldersStay
  pub last_changes_stay : LastChangesStay
  pub places_held : PlacesAreHeld
  pub no_leaf_shared : NoLeafIsShared
  pub no_two_leaves : NoNameHasTwoLeaves
  pub places_stay : PlacesStay
  pub who_is_member : BatchesSayWhoIsMember
  pub two_numbers : WrapsUseTwoNumbers
  pub drawn_rise : DrawnPositionsRise
  pub no_change_fits : NoChangeFits
  pub leavers_few : LeaversAreFew
  pub changes_few : ChangesAreFew
  pub joins_fit : GrantedJoinsFit
  pub leaves_fit : GrantedLeavesFit
