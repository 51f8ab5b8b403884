-- What the definitions of a desk tell apart: a seat that looked at another ticket than its own, a second seat that is served, a turn that was not counted, and the
-- calls of a pass that were given to another one.
use Rattle.std.proofs.Common.{◌≡◌, ◌≢◌, ℕ, ◌+◌, ◌%◌, ◌^◌, ◌<◌, List, [], ◌∷◌, length, length-append, map, Option, All, eqb, ap, ◌∙◌, subst, arith}
use Rattle.std.proofs.lemmas.List.Sums.{sum_by-cons}
use Rattle.std.proofs.lemmas.Option.{slice_get_within}
use mathlib.Core.Option.{some}
use lib.ListN.{get_elem?}
use Rattle.atomic_table.specs.Table.{Me, State, Step}
use Rattle.desk.specs.declared.calls.Call.{Call}
use Rattle.desk.specs.declared.views.Phase.{Phase}
use Rattle.desk.specs.declared.views.Phase.TheVariants.{Idle, Waits, Serves}
use Rattle.desk.specs.declared.views.Terms.{Terms}
use Rattle.desk.specs.declared.views.View.{View}
use Rattle.desk.specs.Calls.{AreCallsOf, StandsIn, times}
use Rattle.desk.specs.Plays.{TakesOut, looked}
use Rattle.desk.specs.Turned.{IsTurn}
use Rattle.desk.specs.Turns.{Stands, has, one_if}
use Rattle.desk.specs.Views.{Holder}
use Rattle.desk.proofs.Sums.{below-small, is-yes, sum-two}

abbrev is_waiting : Phase → ℕ
is_waiting Idle = 0
is_waiting (Waits ticket) = 1
is_waiting (Serves ticket room) = 0

-- a seat that waits, and finds another ticket served, has not taken the value out
module _ {K E G : Type 0} (listed : K → List E) (spare : K → ℕ) (tag : K → G) where
  waits_for_its_own_ticket : (step : Step (Option K)) (me after : Me (Option K) (View E G)) (found ticket other : ℕ) → me.0.phase ≡ Waits ticket
      → found ≢ ticket % 2 ^ 64 → looked listed spare tag step me found after → TakesOut listed spare tag other me after → ⊥
  waits_for_its_own_ticket step me after found ticket other waits differs looks takes =
      let stays : after ≡ me = (looks ticket waits).0 differs in
      let served : is_waiting after.0.phase ≡ 0 = ap (λ (seat : Me (Option K) (View E G)). is_waiting seat.0.phase) takes.seat in
      let waiting : is_waiting after.0.phase ≡ 1 = ap (λ (seat : Me (Option K) (View E G)). is_waiting seat.0.phase) stays ∙ ap is_waiting waits in
      absurd (omega (arith, served, waiting))

-- two seats are never served at once: the tickets that are served are all the one at the front, which only one of them can have
module _ {K E G : Type 0} (listed : K → List E) (spare : K → ℕ) (tag : K → G) (terms : Terms E G) where
  one_seat_is_served : (state : State (Option K) (View E G)) → Stands listed spare tag terms state → (i j : ℕ) (one other : View E G) → i ≢ j
      → get_elem? state.views i ≡ some one → get_elem? state.views j ≡ some other → (ticket room later space : ℕ) → one.phase ≡ Serves ticket room
      → other.phase ≡ Serves later space → ⊥
  one_seat_is_served state stands i j one other apart here there ticket room later space serves serves_too =
      let front = stands.front in
      let at_front = ap (λ number. one_if (eqb number front)) (stands.served i one ticket room here serves).served ∙ is-yes front in
      let at_front_too = ap (λ number. one_if (eqb number front)) (stands.served j other later space there serves_too).served ∙ is-yes front in
      let first : has front one.phase ≡ 1 = ap (has front) serves ∙ at_front in
      let second : has front other.phase ≡ 1 = ap (has front) serves_too ∙ at_front_too in
      let both = sum-two (λ (view : View E G). has front view.phase) state.views i j one other apart here there in
      let each = stands.tickets.each front in
      let few = below-small front stands.next in
      absurd (omega (arith, first, second, both, each, few))

-- of two turns of a pass the second one's call has the higher place
module _ {E G V A : Type 0} (relates : List E → V → E → A → Type 0) (start : List E) where
  each_turn_is_counted : (event later : V) (answer last : A) (old between new : Holder E G) (one : IsTurn relates start event answer old between)
      (two : IsTurn relates start later last between new) → one.call.place < two.call.place
  each_turn_is_counted event later answer last old between new one two =
      let longer : length two.before ≡ length between.seen + length two.goes_on.0 =
      ap length two.goes_on.1 ∙ length-append between.seen two.goes_on.0 in
      let entered : length between.seen ≡ length one.before + 1 = ap length one.seen ∙ length-append one.before (one.call.entry ∷ []) in
      omega (arith, longer, entered, one.placed, two.placed)

abbrev first_list : {X : Type 0} → List (List X) → List X
first_list [] = []
first_list (list ∷ lists) = list

-- a call is that of one pass alone: once a pass has made a turn, the calls of two passes cannot change places
module _ {E G : Type 0} where
  each_call_has_one_pass : (news : List E) (one other : Holder E G) (call : Call E) (calls : List (Call E)) → one.mine ≡ call ∷ calls
      → AreCallsOf news (map (λ (pass : Holder E G). pass.mine) (one ∷ other ∷ []))
      → other.mine ∷ one.mine ∷ [] ≡ map (λ (pass : Holder E G). pass.mine) (one ∷ other ∷ []) → ⊥
  each_call_has_one_pass news one other call calls has are changed =
      let own : List (Call E) → ℕ = λ mine. times call.place mine in
      let same : own other.mine ≡ own one.mine = ap (λ lists. own (first_list lists)) changed in
      let stand : All (StandsIn news) (call ∷ calls) = subst (λ mine. All (StandsIn news) mine) has (are.stand 0 [] (omega arith)) in
      let within : call.place < length news = slice_get_within news call.place call.entry (stand 0 call (omega arith)) in
      let once = are.once call.place within in
      let some : own one.mine ≡ one_if (eqb call.place call.place) + own calls = ap own has ∙ sum_by-cons (λ it. one_if (eqb it.place call.place)) call calls in
      let itself = is-yes call.place in
      absurd (omega (arith, same, once, some, itself))
