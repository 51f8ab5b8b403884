-- What is known of the seat of a pass, between two calls and within them.
use Rattle.std.specs.Prelude.{◌≡◌, ℕ, ◌+◌, ◌-◌, ◌<◌, ◌≤◌, List, [], ◌∷◌, ◌++◌, length, Option, Some, None, map, All}
use Rattle.atomic_table.specs.Table.{Me}
use Rattle.atomic_table.specs.Seated.{TableId}
use Rattle.atomic_table.specs.declared.shared.Seat.{Seat}
use Rattle.desk.specs.declared.calls.Call.{Call}
use Rattle.desk.specs.declared.views.Terms.{Terms}
use Rattle.desk.specs.declared.views.Phase.TheVariants.{Idle, Serves}
use Rattle.desk.specs.declared.views.Share.{Share}
use Rattle.desk.specs.declared.views.View.{View}
use Rattle.desk.specs.Calls.{AreCallsOf}
use Rattle.desk.specs.Views.{StartsWith, Holder, first_number, first_mine}
use Rattle.desk.specs.Plays.{with_call}

-- the table has three words and one slot, and its numbers are within bounds
pub record IsSized {E G : Type 0} (table : TableId) (terms : Terms E G) : Type 0 where
  pub words : table.words ≡ 3
  pub slots : table.slots ≡ 1
  pub few : terms.passes ≤ 64
  pub short : terms.turns ≤ 4096

module _ {K E G : Type 0} where
  -- a seat of this table, told these terms
  pub record IsSeatOf (table : TableId) (terms : Terms E G) (seat : Seat (Option K) (View E G)) : Type 0 where
    pub table_is : seat.table_id ≡ table
    pub told : seat.me.0.terms ≡ Some terms

  -- a seat with no ticket and nothing in hand
  pub record IsAtRest (seat : Seat (Option K) (View E G)) : Type 0 where
    pub idle : seat.me.0.phase ≡ Idle
    pub empty : seat.me.1 ≡ []

  -- a seat that has one pass number, under which it has made so many calls
  pub record IsPlayer (made : ℕ) (seat : Seat (Option K) (View E G)) : Type 0 where
    pub share : Share E
    pub one : seat.me.0.shares ≡ share ∷ []
    pub count : length share.mine ≡ made

  -- what contracts see of a pass with this seat
  abbrev pub holder : Seat (Option K) (View E G) → Holder E G
  holder seat = record {
    desk = record { table = seat.table_id; told = seat.me.0.terms };
    number = first_number seat.me.0.shares;
    seen = seat.me.0.seen;
    mine = first_mine seat.me.0.shares;
  }

  -- the seat of a pass that has made so many turns, between two calls
  pub record IsPass (seat : Seat (Option K) (View E G)) (made : ℕ) : Type 0 where
    pub rest : IsAtRest seat
    pub player : IsPlayer made seat
    pub terms : Terms E G
    pub told : seat.me.0.terms ≡ Some terms
    pub within : made ≤ terms.turns

  -- it is still that seat, and it has this view and these slots in hand
  pub record IsSeat (seat after : Seat (Option K) (View E G)) (me : Me (Option K) (View E G)) : Type 0 where
    pub table_stays : after.table_id ≡ seat.table_id
    pub same : after.id ≡ seat.id
    pub me_is : after.me ≡ me

module _ {K E G : Type 0} where
  -- the seat has seen what it had seen and this list, and otherwise it is as before
  pub record HasHeard (told : List E) (seat after : Seat (Option K) (View E G)) : Type 0 where
    pub table_stays : after.table_id ≡ seat.table_id
    pub rests : IsAtRest after
    pub terms_stay : after.me.0.terms ≡ seat.me.0.terms
    pub shares_stay : after.me.0.shares ≡ seat.me.0.shares
    pub seen : StartsWith after.me.0.seen seat.me.0.seen
    pub heard : StartsWith after.me.0.seen told

  -- the seat has the shares of all these passes, in their order, and each pass's list is one that it has seen or keeps beside
  pub record HasAll (passes : List (Holder E G)) (seat : Seat (Option K) (View E G)) : Type 0 where
    pub calls : map (λ share. share.mine) seat.me.0.shares ≡ map (λ pass. pass.mine) passes
    pub seen : (history : List E) → StartsWith history seat.me.0.seen → All (StartsWith history) seat.me.0.beside
        → All (λ pass. StartsWith history pass.seen) passes

module _ {E G : Type 0} where
  -- the view once a turn is over, which made the history this one and is noted as this call
  abbrev pub after_turn : List E → Call E → View E G → View E G
  after_turn history call view = record view { phase = Idle; seen = history; shares = with_call call view.shares; left = view.left - 1 }

module _ {K E G : Type 0} (listed : K → List E) (spare : K → ℕ) (tag : K → G) where
  -- the seat was served with this ticket, and the value that it took out is in the caller's hands; the place is that of its next entry
  pub record HasTaken (terms : Terms E G) (seat after : Seat (Option K) (View E G)) (kept : K) (place : ℕ) : Type 0 where
    pub ticket : ℕ
    pub is_seat : IsSeat seat after (record seat.me.0 { phase = Serves ticket (spare kept); seen = listed kept }, (0, None) ∷ [])
    pub goes_on : StartsWith (listed kept) seat.me.0.seen
    pub next : length (listed kept) ≡ length terms.start + place
    pub roomy : 0 < spare kept
    pub tagged : tag kept ≡ terms.tag

  -- the seat is served, and the value in the caller's hands has just one entry more than the seat has seen
  pub record MayPutBack (terms : Terms E G) (seat : Seat (Option K) (View E G)) (kept : K) : Type 0 where
    pub ticket : ℕ
    pub room : ℕ
    pub entry : E
    pub serves : seat.me.0.phase ≡ Serves ticket room
    pub hand : seat.me.1 ≡ (0, None) ∷ []
    pub entered : listed kept ≡ seat.me.0.seen ++ entry ∷ []
    pub roomy : room ≤ spare kept + 1
    pub tagged : tag kept ≡ terms.tag

  -- a turn at this place put this entry at the end of the history
  pub record HasPutBack (terms : Terms E G) (seat after : Seat (Option K) (View E G)) (kept : K) (place : ℕ) : Type 0 where
    pub entry : E
    pub entered : listed kept ≡ seat.me.0.seen ++ entry ∷ []
    pub placed : length seat.me.0.seen ≡ length terms.start + place
    pub is_seat : IsSeat seat after (after_turn (listed kept) (record { place = place; entry = entry }) seat.me.0, [])

module _ {K E G : Type 0} (listed : K → List E) (tag : K → G) where
  -- the value, whose history since the making is just the calls of this view, and begins with all that the view has seen
  pub record IsHome (terms : Terms E G) (view : View E G) (kept : K) : Type 0 where
    pub news : List E
    pub whole : listed kept ≡ terms.start ++ news
    pub calls : AreCallsOf news (map (λ share. share.mine) view.shares)
    pub seen : StartsWith (listed kept) view.seen
    pub beside : All (StartsWith (listed kept)) view.beside
    pub tagged : tag kept ≡ terms.tag

module _ {K E G V A : Type 0} (relates : List E → V → E → A → Type 0) where
  -- a turn that hands in this event and gets this answer
  pub record HasTurned (terms : Terms E G) (seat after : Seat (Option K) (View E G)) (event : V) (answer : A) : Type 0 where
    pub before : List E
    pub call : Call E
    pub goes_on : StartsWith before seat.me.0.seen
    pub related : relates before event call.entry answer
    pub placed : length before ≡ length terms.start + call.place
    pub is_seat : IsSeat seat after (after_turn (before ++ call.entry ∷ []) call seat.me.0, [])
