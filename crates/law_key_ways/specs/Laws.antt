-- What a batch encrypts on the way from a leaf up to the root, said of every list of batches (RFC 2627 section 5.4). The functions of `laws.rt` prove each of
-- these.
use Rattle.std.specs.Prelude.{◌≡◌, ℕ, suc, ◌+◌, ◌-◌, ◌*◌, ◌/◌, ◌^◌, ◌<◌, ◌≤◌, true, false, List, length, None, Some, Contains, All, slice_index_or}
use Rattle.group_terms.specs.Names.{Name}
use Rattle.group_terms.specs.Positions.{halved, is_below}
use Rattle.group_terms.specs.declared.changes.Change.{Change}
use Rattle.group_terms.specs.declared.keys.KeyName.TheVariants.{Node}
use Rattle.group_terms.specs.declared.keys.Wrap.{Wrap}
use Rattle.group_model.specs.Fresh.{is_fresh, node_name}
use Rattle.group_model.specs.Places.{Holders, IsValid, holders_at, is_member, place_in}
use Rattle.group_model.specs.Stayed.{stayed_at}
use Rattle.group_model.specs.Wraps.{node_wraps}

-- the batch after this epoch gives a position a new key
abbrev pub IsRenewed : ℕ → List (List Change) → ℕ → ℕ → Type 0
IsRenewed depth batches epoch v = is_fresh depth (holders_at depth batches epoch) (holders_at depth batches (epoch + 1)) v ≡ true

-- it does not
abbrev pub IsKept : ℕ → List (List Change) → ℕ → ℕ → Type 0
IsKept depth batches epoch v = is_fresh depth (holders_at depth batches epoch) (holders_at depth batches (epoch + 1)) v ≡ false

-- An encryption of that batch goes one step up: it gives the new key of an inner position, under the key that a child of it has then.
pub record IsStepUp (depth : ℕ) (batches : List (List Change)) (epoch : ℕ) (wrap : Wrap) : Type 0 where
  pub child : ℕ
  pub some : 0 < child / 2
  pub inner : child / 2 < 2 ^ depth
  pub renewed : IsRenewed depth batches epoch (child / 2)
  pub by : wrap.by ≡ node_name depth batches (epoch + 1) child
  pub gives : wrap.gives ≡ Node (child / 2) (epoch + 1)

-- Each encryption that a batch makes for a position goes one step up.
abbrev pub EncryptionsGoUp : Type 0
EncryptionsGoUp = (depth epoch : ℕ) (batches : List (List Change)) → All (IsStepUp depth batches epoch) (node_wraps depth batches (epoch + 1))

-- There are no more of them than one for each lowest inner position, and two for each position above these: a leaf that changes hands is that of nobody who
-- stayed.
abbrev pub EncryptionsAreFew : Type 0
EncryptionsAreFew =
    (depth epoch : ℕ) (batches : List (List Change)) → 1 ≤ depth → IsValid depth batches → epoch < length batches
    → length (node_wraps depth batches (epoch + 1)) ≤ 3 * 2 ^ (depth - 1)

-- Where somebody stayed, one of them gives the new key of the root.
abbrev pub TheRootIsGiven : Type 0
TheRootIsGiven =
    (depth epoch : ℕ) (batches : List (List Change)) → 1 ≤ depth → stayed_at depth batches (epoch + 1) ≡ true
    → (wrap : Wrap) × Contains (node_wraps depth batches (epoch + 1)) wrap × (wrap.gives ≡ Node 1 (epoch + 1))

-- a member's place is a leaf of the tree
abbrev pub PlacesAreLeaves : Type 0
PlacesAreLeaves =
    (depth epoch leaf : ℕ) (batches : List (List Change)) (m : Name) → place_in depth (holders_at depth batches epoch) m ≡ Some leaf
    → (2 ^ depth ≤ leaf) × (leaf < 2 ^ (depth + 1))

-- each member has a place
abbrev pub MembersHavePlaces : Type 0
MembersHavePlaces = (depth : ℕ) (holders : Holders) (m : Name) → is_member holders m ≡ true → (leaf : ℕ) × (place_in depth holders m ≡ Some leaf)

-- As many steps as the tree is deep lead from a leaf to the root.
abbrev pub WaysEndAtTheRoot : Type 0
WaysEndAtTheRoot = (depth leaf : ℕ) → 2 ^ depth ≤ leaf → leaf < 2 ^ (depth + 1) → halved depth leaf ≡ 1

-- What stands below a position stands below the one above that.
abbrev pub ParentsStandAbove : Type 0
ParentsStandAbove =
    (depth child leaf : ℕ) → 0 < child / 2 → leaf < 2 ^ (depth + 1) → is_below depth child leaf ≡ true → is_below depth (child / 2) leaf ≡ true

-- Who stays keeps its leaf, and the key of that leaf.
abbrev pub WhoStaysKeepsItsLeaf : Type 0
WhoStaysKeepsItsLeaf =
    (depth epoch leaf : ℕ) (batches : List (List Change)) (m : Name) → 1 ≤ depth → IsValid depth batches → epoch < length batches
    → place_in depth (holders_at depth batches epoch) m ≡ Some leaf → is_member (holders_at depth batches (epoch + 1)) m ≡ true
    → (place_in depth (holders_at depth batches (epoch + 1)) m ≡ Some leaf) × IsKept depth batches epoch leaf

-- It is given each new key on its way up, under the key of the position below that on its way.
abbrev pub WhoStaysIsGivenItsWay : Type 0
WhoStaysIsGivenItsWay =
    (depth epoch leaf steps : ℕ) (batches : List (List Change)) (m : Name) → 1 ≤ depth → IsValid depth batches → epoch < length batches
    → place_in depth (holders_at depth batches epoch) m ≡ Some leaf → is_member (holders_at depth batches (epoch + 1)) m ≡ true
    → steps < depth → IsRenewed depth batches epoch (halved (suc steps) leaf)
    → Contains (node_wraps depth batches (epoch + 1))
    (record { by = node_name depth batches (epoch + 1) (halved steps leaf); gives = Node (halved (suc steps) leaf) (epoch + 1) })

-- Of who does not stay each position on its way gets a new key.
abbrev pub WhoLeavesHasANewWay : Type 0
WhoLeavesHasANewWay =
    (depth epoch leaf steps : ℕ) (batches : List (List Change)) (m : Name) → place_in depth (holders_at depth batches epoch) m ≡ Some leaf
    → is_member (holders_at depth batches (epoch + 1)) m ≡ false → steps ≤ depth → IsRenewed depth batches epoch (halved steps leaf)

-- A leaf below a position that keeps its key has the holder that it had.
abbrev pub HoldersStayBelowKept : Type 0
HoldersStayBelowKept =
    (depth epoch i v : ℕ) (batches : List (List Change)) → i < 2 ^ depth → is_below depth v (2 ^ depth + i) ≡ true → IsKept depth batches epoch v
    → slice_index_or (holders_at depth batches (epoch + 1)) i None ≡ slice_index_or (holders_at depth batches epoch) i None

-- all of them
pub record Laws : Type 0 where
  pub go_up : EncryptionsGoUp
  pub are_few : EncryptionsAreFew
  pub root_given : TheRootIsGiven
  pub leaves : PlacesAreLeaves
  pub has_place : MembersHavePlaces
  pub at_root : WaysEndAtTheRoot
  pub parent_above : ParentsStandAbove
  pub leaf_kept : WhoStaysKeepsItsLeaf
  pub way_given : WhoStaysIsGivenItsWay
  pub way_new : WhoLeavesHasANewWay
  pub kept_below : HoldersStayBelowKept
