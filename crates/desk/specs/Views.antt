-- What contracts see of a desk and of its passes.
use Rattle.std.specs.Prelude.{◌≡◌, ℕ, List, [], ◌∷◌, ◌++◌, Option, map}
use Rattle.atomic_table.specs.Seated.{TableId}
use Rattle.desk.specs.declared.calls.Call.{Call}
use Rattle.desk.specs.declared.views.Terms.{Terms}
use Rattle.desk.specs.declared.views.Share.{Share}
use Rattle.desk.specs.declared.views.View.{View}

-- which desk it is
pub record DeskId (E G : Type 0) : Type 0 where
  pub table : TableId
  pub told : Option (Terms E G)

-- a desk: which one, and what was fixed when it was made
pub record Told (E G : Type 0) : Type 0 where
  pub id : DeskId E G
  pub terms : Terms E G

-- a pass: whose it is, its number, the history as far as it has seen it, and its own calls
pub record Holder (E G : Type 0) : Type 0 where
  pub desk : DeskId E G
  pub number : ℕ
  pub seen : List E
  pub mine : List (Call E)

module _ {E : Type 0} where
  -- the history begins with this list
  abbrev pub StartsWith : List E → List E → Type 0
  StartsWith history seen = (more : List E) × (history ≡ seen ++ more)

  -- the pass number of the first share, and 0 where there is no share
  abbrev pub first_number : List (Share E) → ℕ
  first_number [] = 0
  first_number (share ∷ shares) = share.number

  -- the calls of the first share, and none where there is no share
  abbrev pub first_mine : List (Share E) → List (Call E)
  first_mine [] = []
  first_mine (share ∷ shares) = share.mine

module _ {E G : Type 0} where
  -- the calls of each share that a note remembers
  abbrev pub calls_noted : List (View E G) → List (List (Call E))
  calls_noted [] = []
  calls_noted (view ∷ views) = map (λ share. share.mine) view.noted
