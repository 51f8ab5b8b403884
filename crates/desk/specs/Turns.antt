-- The rule of a desk: what holds of its words, its slot and all views, between any two steps.
-- The words are the next ticket, the ticket that is served, and how many entries there are since the desk's making. The slot has the value.
use Rattle.std.specs.Prelude.{◌≡◌, ◌⊎◌, ℕ, ◌+◌, ◌*◌, ◌%◌, ◌^◌, ◌<◌, ◌≤◌, ◌==◌, Bool, cond, nat_lt, List, [], ◌∷◌, ◌++◌, map, length, Option, Some, None, All, sum_by, count_by}
use Rattle.std.specs.List.{range_with_len}
use mathlib.Core.Option.{some, none}
use mathlib.Core.Option as maybe
use lib.ListN.{get_elem?}
use Rattle.atomic_table.specs.Table.{State}
use Rattle.desk.specs.declared.views.Terms.{Terms}
use Rattle.desk.specs.declared.views.Phase.{Phase}
use Rattle.desk.specs.declared.views.Phase.TheVariants.{Idle, Waits, Serves}
use Rattle.desk.specs.declared.views.Share.{Share}
use Rattle.desk.specs.declared.views.View.{View}
use Rattle.desk.specs.Calls.{StandsIn, IsRising, times}
use Rattle.desk.specs.Views.{StartsWith}

-- 1 where a test holds, and 0 where it does not
abbrev pub one_if : Bool → ℕ
one_if test = cond test 1 0

-- 1 for a number below the bound, and 0 for any other
abbrev pub below : ℕ → ℕ → ℕ
below number bound = one_if (nat_lt number bound)

-- how many tickets a view has
abbrev pub tickets : Phase → ℕ
tickets Idle = 0
tickets (Waits ticket) = 1
tickets (Serves ticket room) = 1

-- how often a view has this ticket
abbrev pub has : ℕ → Phase → ℕ
has ticket Idle = 0
has ticket (Waits own) = one_if (own == ticket)
has ticket (Serves own room) = one_if (own == ticket)

module _ {E : Type 0} where
  -- how many calls of a view were made
  abbrev pub made : List (Share E) → ℕ
  made shares = sum_by (λ share. length share.mine) shares

  -- how many calls of a view have this place
  abbrev pub placed : ℕ → List (Share E) → ℕ
  placed place shares = sum_by (λ share. times place share.mine) shares

  -- how often a view has this pass number
  abbrev pub numbered : ℕ → List (Share E) → ℕ
  numbered number shares = count_by (λ share. share.number == number) shares

module _ {E G : Type 0} where
  -- Tickets: each ticket below the next one was served before, or is in just one view, which has no second one.
  pub record AreTickets (front next : ℕ) (views : List (View E G)) : Type 0 where
    pub each : (ticket : ℕ) → sum_by (λ view. has ticket view.phase) views + below ticket front ≡ below ticket next
    pub all : sum_by (λ view. tickets view.phase) views + front ≡ next

  -- Pass numbers: each number from 1 to the number of passes is in just one view.
  pub record AreNumbers (passes : ℕ) (views : List (View E G)) : Type 0 where
    pub each : (number : ℕ) → 0 < number → sum_by (λ view. numbered number view.shares) views ≡ below number (passes + 1)
    pub all : sum_by (λ view. length view.shares) views ≡ passes

  -- Own entries: each place in the history is that of just one call, in just one view.
  abbrev pub ArePlaces : List E → List (View E G) → Type 0
  ArePlaces news views = (place : ℕ) → sum_by (λ view. placed place view.shares) views ≡ below place (length news)

  -- how many turns all views together may still make
  abbrev pub left_in : List (View E G) → ℕ
  left_in views = sum_by (λ view. view.left) views

  -- What a view knows. What it has seen, and each list beside that, is a first part of the history. Its calls stand in what the history got
  -- since the making, each share's by rising place. It has made, or has left, as many turns as its pass numbers give it, and without a pass
  -- number it has no ticket.
  pub record Knows (terms : Terms E G) (news : List E) (view : View E G) : Type 0 where
    pub seen : StartsWith (terms.start ++ news) view.seen
    pub beside : All (StartsWith (terms.start ++ news)) view.beside
    pub stand : All (λ share. All (StandsIn news) share.mine) view.shares
    pub rising : All (λ share. IsRising share.mine) view.shares
    pub entitled : view.left + made view.shares ≡ length view.shares * terms.turns
    pub lonely : tickets view.phase ≤ length view.shares

module _ {K E G : Type 0} (listed : K → List E) (spare : K → ℕ) (tag : K → G) where
  -- Slot: the value is at home, with the whole history, the tag of the making, and room for all turns that are left ..
  pub record AtHome (terms : Terms E G) (news : List E) (homes : List (maybe.Option (Option K))) (views : List (View E G)) : Type 0 where
    pub kept : K
    pub home : homes ≡ some (Some kept) ∷ []
    pub whole : listed kept ≡ terms.start ++ news
    pub tagged : tag kept ≡ terms.tag
    pub room : left_in views ≤ spare kept

module _ {K E G : Type 0} where
  -- .. or it is out with a view that is served.
  pub record IsOut (homes : List (maybe.Option (Option K))) (views : List (View E G)) : Type 0 where
    pub away : homes ≡ none ∷ []
    pub holder : ℕ
    pub view : View E G
    pub ticket : ℕ
    pub room : ℕ
    pub there : get_elem? views holder ≡ some view
    pub serves : view.phase ≡ Serves ticket room

  -- A view that is served has the served ticket, has seen the whole history, and has the value, with room for all turns that are left.
  pub record IsServed (terms : Terms E G) (news : List E) (front : ℕ) (homes : List (maybe.Option (Option K)))
      (views : List (View E G)) (view : View E G) (ticket room : ℕ) : Type 0 where
    pub served : ticket ≡ front
    pub away : homes ≡ none ∷ []
    pub seen : view.seen ≡ terms.start ++ news
    pub roomy : left_in views ≤ room

module _ {K E G : Type 0} (listed : K → List E) (spare : K → ℕ) (tag : K → G) (terms : Terms E G) where
  -- There is one history. `news` is what it got since the making.
  pub record Stands (state : State (Option K) (View E G)) : Type 0 where
    pub news : List E
    pub front : ℕ
    pub next : ℕ
    pub words : state.words ≡ (next % 2 ^ 64) ∷ (front % 2 ^ 64) ∷ length news ∷ []
    pub tickets : AreTickets front next state.views
    pub slot : AtHome listed spare tag terms news state.homes state.views ⊎ IsOut state.homes state.views
    pub served : (id : ℕ) (view : View E G) (ticket room : ℕ) → get_elem? state.views id ≡ some view
        → view.phase ≡ Serves ticket room → IsServed terms news front state.homes state.views view ticket room
    pub knows : (id : ℕ) (view : View E G) → get_elem? state.views id ≡ some view → Knows terms news view
    pub places : ArePlaces news state.views
    pub numbers : AreNumbers terms.passes state.views
    pub budget : left_in state.views + length news ≡ terms.passes * terms.turns

module _ {E : Type 0} where
  -- a share of this pass number, which has no call yet
  abbrev pub blank_share : ℕ → Share E
  blank_share number = record { number = number; mine = [] }

  -- so many shares, by their numbers, of which none has a call
  abbrev pub blank_shares : ℕ → ℕ → List (Share E)
  blank_shares first count = map blank_share (range_with_len first count)

module _ {E G : Type 0} where
  -- the view of who makes the desk: it has all pass numbers
  abbrev pub maker : Terms E G → View E G
  maker terms = record {
    terms = Some terms;
    phase = Idle;
    seen = terms.start;
    beside = [];
    shares = blank_shares 1 terms.passes;
    left = terms.passes * terms.turns;
    noted = [];
  }

  -- Spent views: the view of a seat that another one took in has nothing.
  abbrev pub spent : View E G
  spent = record { terms = None; phase = Idle; seen = []; beside = []; shares = []; left = 0; noted = [] }
