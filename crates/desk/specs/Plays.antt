-- What each step at the desk's table does to the view of the seat that makes it.
use Rattle.std.specs.Prelude.{◌≡◌, ◌≢◌, ℕ, ◌+◌, ◌-◌, ◌%◌, ◌^◌, ◌<◌, List, [], ◌∷◌, ◌++◌, length, Option, Some, None, All}
use Rattle.atomic_table.specs.Table.{Me, Step, rest}
use Rattle.desk.specs.declared.calls.Call.{Call}
use Rattle.desk.specs.declared.views.Terms.{Terms}
use Rattle.desk.specs.declared.views.Phase.{Phase}
use Rattle.desk.specs.declared.views.Phase.TheVariants.{Idle, Waits, Serves}
use Rattle.desk.specs.declared.views.Share.{Share}
use Rattle.desk.specs.declared.views.View.{View}
use Rattle.desk.specs.Views.{StartsWith}

module _ {E : Type 0} where
  -- the first share gets the call too
  abbrev pub with_call : Call E → List (Share E) → List (Share E)
  with_call call [] = []
  with_call call (share ∷ shares) = record share { mine = share.mine ++ call ∷ [] } ∷ shares

  -- the first share alone, where there is one
  abbrev pub first_of : List (Share E) → List (Share E)
  first_of [] = []
  first_of (share ∷ shares) = share ∷ []

  -- all shares but the first one
  abbrev pub others_of : List (Share E) → List (Share E)
  others_of [] = []
  others_of (share ∷ shares) = shares

module _ {E G : Type 0} where
  -- a view whose turn has come this far
  abbrev pub in_phase : Phase → View E G → View E G
  in_phase phase view = record view { phase = phase }

  -- how many turns each pass has, where a view knows it, and else 0
  abbrev pub turns_told : Option (Terms E G) → ℕ
  turns_told None = 0
  turns_told (Some terms) = terms.turns

  -- the view without its first share, and without the turns of one pass
  abbrev pub without_first : View E G → View E G
  without_first view = record view { shares = others_of view.shares; left = view.left - turns_told view.terms }

  -- a view with the first share alone, and with the turns of one pass
  abbrev pub with_first : View E G → View E G
  with_first view = record view { shares = first_of view.shares; left = turns_told view.terms }

  -- a view that has seen as much, has nothing of its own, and remembers the shares
  abbrev pub note_of : View E G → View E G
  note_of view = record view { phase = Idle; beside = []; shares = []; left = 0; noted = view.shares }

  -- a view that takes in another one; what either has seen is in it, and the other's shares come first
  abbrev pub taken_in : View E G → View E G → View E G
  taken_in view other =
      record view { beside = view.beside ++ other.seen ∷ []; shares = other.shares ++ view.shares; left = view.left + other.left }

abbrev Mine : Type 0 → Type 0 → Type 0 → Type 0
Mine K E G = Me (Option K) (View E G)

module _ {K E G : Type 0} where
  -- the next ticket is drawn
  abbrev pub drawn : Step (Option K) → Mine K E G → ℕ → Mine K E G → Type 0
  drawn step me found after = (ticket : ℕ) × (found ≡ ticket % 2 ^ 64) × (after ≡ (in_phase (Waits ticket) me.0, me.1))

  -- the served ticket is passed on
  abbrev pub passed_on : Step (Option K) → Mine K E G → ℕ → Mine K E G → Type 0
  passed_on step me found after = after ≡ (in_phase Idle me.0, rest me.1)

  -- a view that is served reads how many entries there are since the making
  abbrev pub read : Step (Option K) → Mine K E G → ℕ → Mine K E G → Type 0
  read step me found after =
      (after ≡ me) × ((terms : Terms E G) → me.0.terms ≡ Some terms → length me.0.seen ≡ length terms.start + found)

  -- the whole history is seen, and each list that was kept beside is a first part of it
  abbrev pub learned : Step (Option K) → Mine K E G → ℕ → Mine K E G → Type 0
  learned step me found after =
      (history : List E) × (after ≡ (record me.0 { seen = history; beside = [] }, me.1))
      × StartsWith history me.0.seen × All (StartsWith history) me.0.beside

module _ {K E G : Type 0} (listed : K → List E) (spare : K → ℕ) (tag : K → G) where
  -- the value is taken out: it has the whole history, which is seen now, and room for an entry
  pub record TakesOut (ticket : ℕ) (me after : Mine K E G) : Type 0 where
    pub kept : K
    pub seat : after ≡ (record me.0 { phase = Serves ticket (spare kept); seen = listed kept }, (0, Some kept) ∷ me.1)
    pub goes_on : StartsWith (listed kept) me.0.seen
    pub roomy : 0 < spare kept
    pub tagged : (terms : Terms E G) → me.0.terms ≡ Some terms → tag kept ≡ terms.tag

  -- a ticket that is not served waits on; one that is served takes the value out
  abbrev pub looked : Step (Option K) → Mine K E G → ℕ → Mine K E G → Type 0
  looked step me found after = (ticket : ℕ) → me.0.phase ≡ Waits ticket
      → (found ≢ ticket % 2 ^ 64 → after ≡ me) × (found ≡ ticket % 2 ^ 64 → TakesOut ticket me after)

module _ {K E G : Type 0} (listed : K → List E) where
  -- the entry that the value got while it was out is counted: it is seen, and it is a call of the first share
  abbrev pub counted_view : ℕ → ℕ → ℕ → E → K → View E G → View E G
  counted_view found ticket room entry kept view =
      record view {
        phase = Serves ticket (room - 1);
        seen = listed kept;
        shares = with_call (record { place = found; entry = entry }) view.shares;
        left = view.left - 1;
      }

  -- A view that is served counts the entry that its value got while it was out. What it had seen is the history at the making of the desk, and as many
  -- entries as were counted before.
  abbrev pub counted : Step (Option K) → Mine K E G → ℕ → Mine K E G → Type 0
  counted step me found after = (kept : K) (ticket room : ℕ) (entry : E) → me.1 ≡ (0, Some kept) ∷ []
      → me.0.phase ≡ Serves ticket room → listed kept ≡ me.0.seen ++ entry ∷ []
      → (after ≡ (counted_view found ticket room entry kept me.0, me.1))
      × ((terms : Terms E G) → me.0.terms ≡ Some terms → length me.0.seen ≡ length terms.start + found)
