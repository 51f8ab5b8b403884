-- Which turns a line has.
use Rattle.std.proofs.Common.{◌≡◌, ◌≢◌, ◌∙◌, ◌⊎◌, ℕ, zero, suc, Bool, true, false, MatchBool, List, [], ◌∷◌, ◌++◌, Some, inl, inr, refl, sym, ap, subst}
use Rattle.std.specs.List.{AllByRecursion, IsDistinct}
use Rattle.std.proofs.lemmas.Bool.{false≢true}
use Rattle.std.proofs.lemmas.Option.{none-some, same_Some}
use Rattle.std.proofs.lemmas.Slice.Eq.{bytes_eq-Decides}
use Rattle.std.specs.Prelude.{slice_get}
use Rattle.group_terms.specs.Names.{Name, same_name}
use Rattle.group_model.specs.declared.entries.Answer.{Answer}
use Rattle.group_model.specs.declared.entries.Answer.TheVariants.{Datagram}
use Rattle.group_model.specs.declared.entries.Asked.{Asked}
use Rattle.group_model.specs.declared.entries.Asked.TheVariants as requests
use Rattle.group_model.specs.declared.entries.Entry.{Entry}
use Rattle.register_workers.specs.Lines.{Becomes, Comes, Ends, GoesOn, PassesOver, Sends, SendsThird, StopsBetween, StopsShort, Turns}
use Rattle.register_workers.specs.Own.{IsOfLines, IsRequestOf, IsSender, named_by, names_in, serves, serves_for}
use Rattle.register_workers.specs.declared.lines.BlockAsk.{BlockAsk}
use Rattle.register_workers.specs.declared.lines.BlockAsk.TheVariants.{Join, Again, Leave, Batch, Now}
use Rattle.register_workers.specs.declared.lines.BlockLine.{BlockLine}

-- ---- the turns of a line

-- a datagram of this member is served
abbrev pub IsServeOf : Name → Entry → Type 0
IsServeOf m turn = (datagram : List ℕ) × (turn.asked ≡ requests.Serve m datagram)

-- what a line asks, a turn may ask
abbrev pub IsTurnOf : BlockAsk → Entry → Type 0
IsTurnOf (Join m) turn = IsServeOf m turn
IsTurnOf (Again m) turn = IsServeOf m turn
IsTurnOf (Leave m) turn = turn.asked ≡ requests.Leave m
IsTurnOf Batch turn = turn.asked ≡ requests.Batch
IsTurnOf Now turn = ⊥

-- the line stays, but where a member sends in it
abbrev pub Stays : BlockAsk → BlockLine → BlockLine → Type 0
Stays (Join m) line new = Unit {0}
Stays (Again m) line new = Unit {0}
Stays asked line new = new ≡ line

-- what is known of a line by its turns
pub record Has (asked : BlockAsk) (line : BlockLine) (turns : List Entry) (new : BlockLine) : Type 0 where
  pub turns_are : AllByRecursion (IsTurnOf asked) turns
  pub seen : new.seen ≡ line.seen
  pub stays : Stays asked line new

-- of a line in which a member sends
record Served (m : Name) (line : BlockLine) (turns : List Entry) (new : BlockLine) : Type 0 where
  turns_are : AllByRecursion (IsServeOf m) turns
  seen : new.seen ≡ line.seen

module _ (m : Name) where
  served_ends : (line : BlockLine) (turns : List Entry) (new : BlockLine) → Ends line turns new → Served m line turns new
  served_ends line turns new ends = record {
    turns_are = subst (AllByRecursion (IsServeOf m)) (sym ends.last) tt;
    seen = ap (λ (line : BlockLine). line.seen) ends.now;
  }

  served_third : (second : List ℕ) (line : BlockLine) (turns : List Entry) (new : BlockLine) → SendsThird m second line turns new → Served m line turns new
  served_third second line turns new sends = record {
    turns_are = subst (AllByRecursion (IsServeOf m)) (sym sends.is_turn) ((sends.third, sends.asked), tt);
    seen = ap (λ (line : BlockLine). line.seen) sends.agrees.now;
  }

  served_kept : (second : List ℕ) (line : BlockLine) (turns : List Entry) (new : BlockLine)
      → (PassesOver line second × Ends line turns new) ⊎ SendsThird m second line turns new → Served m line turns new
  served_kept second line turns new (inl over) = served_ends line turns new over.1
  served_kept second line turns new (inr sends) = served_third second line turns new sends

  served_comes : (second : List ℕ) (line : BlockLine) (turns : List Entry) (new : BlockLine) → Comes m second line turns new → Served m line turns new
  served_comes second line turns new comes = by line.lose comes
    where
      by : (lose : Bool) → MatchBool lose (Ends (record line { lose = false }) turns new)
          ((PassesOver line second × Ends line turns new) ⊎ SendsThird m second line turns new) → Served m line turns new
      by true ends = let has = served_ends (record line { lose = false }) turns new ends in record { turns_are = has.turns_are; seen = has.seen }
      by false kept = served_kept second line turns new kept

  served_on : (answer : Answer) (line : BlockLine) (turns : List Entry) (new : BlockLine) → GoesOn m answer line turns new → Served m line turns new
  served_on (Datagram octets names) line turns new comes = served_comes octets line turns new comes
  served_on answer line turns new ends = served_ends line turns new ends

  served_sends : (line : BlockLine) (turns : List Entry) (new : BlockLine) → Sends m line turns new → Served m line turns new
  served_sends line turns new sends =
      let on = served_on sends.asks.turn.answer line sends.asks.later new sends.asks.goes_on in record {
        turns_are = subst (AllByRecursion (IsServeOf m)) (sym sends.asks.are) ((sends.datagram, sends.asks.asked), on.turns_are);
        seen = on.seen;
      }

  served_between : (line : BlockLine) (turns : List Entry) (new : BlockLine) → StopsBetween m line turns new → Served m line turns new
  served_between line turns new stops = record {
    turns_are = subst (AllByRecursion (IsServeOf m)) (sym stops.is_turn) ((stops.datagram, stops.asked), tt);
    seen = elim stops.now [
      | inl same ↦ ap (λ (line : BlockLine). line.seen) same
      | inr agrees ↦ ap (λ (line : BlockLine). line.seen) agrees.2.now
    ];
  }

  served_short : (line : BlockLine) (turns : List Entry) (new : BlockLine)
      → Sends m line turns new ⊎ (Ends line turns new ⊎ StopsBetween m line turns new) → Served m line turns new
  served_short line turns new (inl sends) = served_sends line turns new sends
  served_short line turns new (inr (inl ends)) = served_ends line turns new ends
  served_short line turns new (inr (inr stops)) = served_between line turns new stops

has_ends : (asked : BlockAsk) (line : BlockLine) (turns : List Entry) (new : BlockLine) → Ends line turns new → Has asked line turns new
has_ends asked line turns new ends = record {
  turns_are = subst (AllByRecursion (IsTurnOf asked)) (sym ends.last) tt;
  seen = ap (λ (line : BlockLine). line.seen) ends.now;
  stays = by asked;
}
  where
    by : (asked : BlockAsk) → Stays asked line new
    by (Join m) = tt
    by (Again m) = tt
    by (Leave m) = ends.now
    by Batch = ends.now
    by Now = ends.now

has_turns : (asked : BlockAsk) (line : BlockLine) (turns : List Entry) (new : BlockLine) → Turns asked line turns new → Has asked line turns new
has_turns (Join m) line turns new sends =
    let has = served_sends m line turns new sends in record { turns_are = has.turns_are; seen = has.seen; stays = tt }
has_turns (Again m) line turns new sends =
    let has = served_sends m line turns new sends in record { turns_are = has.turns_are; seen = has.seen; stays = tt }
has_turns (Leave m) line turns new asks = record {
  turns_are = subst (AllByRecursion (IsTurnOf (Leave m))) (sym (asks.are ∙ ap (λ later. asks.turn ∷ later) asks.goes_on.last)) (asks.asked, tt);
  seen = ap (λ (line : BlockLine). line.seen) asks.goes_on.now;
  stays = asks.goes_on.now;
}
has_turns Batch line turns new asks = record {
  turns_are = subst (AllByRecursion (IsTurnOf Batch)) (sym (asks.are ∙ ap (λ later. asks.turn ∷ later) asks.goes_on.last)) (asks.asked, tt);
  seen = ap (λ (line : BlockLine). line.seen) asks.goes_on.now;
  stays = asks.goes_on.now;
}
has_turns Now line turns new ends = has_ends Now line turns new ends

has_short : (asked : BlockAsk) (line : BlockLine) (turns : List Entry) (new : BlockLine) → StopsShort asked line turns new → Has asked line turns new
has_short (Join m) line turns new stops =
    let has = served_short m line turns new stops in record { turns_are = has.turns_are; seen = has.seen; stays = tt }
has_short (Again m) line turns new stops =
    let has = served_short m line turns new stops in record { turns_are = has.turns_are; seen = has.seen; stays = tt }
has_short asked line turns new (inl are) = has_turns asked line turns new are
has_short asked line turns new (inr (inl ends)) = has_ends asked line turns new ends
has_short asked line turns new (inr (inr none)) = absurd none

pub has : (short : Bool) (asked : BlockAsk) (line : BlockLine) (turns : List Entry) (new : BlockLine) → Becomes short asked line turns new
    → Has asked line turns new
has true asked line turns new becomes = has_short asked line turns new becomes
has false asked line turns new becomes = has_turns asked line turns new becomes.0

-- ---- whom the turns of a line serve

serves_is : (m : Name) (turn : Entry) (request : Asked) → turn.asked ≡ request → serves m turn ≡ serves_for m request
serves_is m turn request is = ap (serves_for m) is

pub same_itself : (m : Name) → same_name m m ≡ true
same_itself m = (bytes_eq-Decides m m).1 refl

turned : (m n : Name) → same_name m n ≡ false → same_name n m ≡ false
turned m n other = by (same_name n m) refl
  where
    by : (b : Bool) → same_name n m ≡ b → same_name n m ≡ false
    by true same = absurd (false≢true (sym other ∙ (bytes_eq-Decides m n).1 (sym ((bytes_eq-Decides n m).0 same))))
    by false is = is

pub no_look : (m : Name) (asked : BlockAsk) → IsSender asked m → asked ≢ Now
no_look m asked (inl joins) now = absurd (cc (joins, now))
no_look m asked (inr again) now = absurd (cc (again, now))

-- the member that sends in it
pub is_served : (m : Name) (asked : BlockAsk) → IsSender asked m → (turn : Entry) → IsTurnOf asked turn → serves m turn ≡ true
is_served m asked sends turn is = elim sends [
  | inl joins ↦ by (subst (λ asked. IsTurnOf asked turn) joins is)
  | inr again ↦ by (subst (λ asked. IsTurnOf asked turn) again is)
]
  where
    by : IsServeOf m turn → serves m turn ≡ true
    by serve = serves_is m turn (requests.Serve m serve.0) serve.1 ∙ same_itself m

-- and nobody else
pub not_served : (m : Name) (asked : BlockAsk) → ((other : Name) → IsSender asked other → same_name m other ≡ false) → (turn : Entry) → IsTurnOf asked turn
    → serves m turn ≡ false
not_served m (Join other) apart turn is = serves_is m turn (requests.Serve other is.0) is.1 ∙ apart other (inl refl)
not_served m (Again other) apart turn is = serves_is m turn (requests.Serve other is.0) is.1 ∙ apart other (inr refl)
not_served m (Leave other) apart turn is = serves_is m turn (requests.Leave other) is
not_served m Batch apart turn is = serves_is m turn requests.Batch is
not_served m Now apart turn is = absurd is

-- so each turn is of the lines
pub is_request : (lines : List BlockLine) (i : ℕ) (line : BlockLine) → slice_get lines i ≡ Some line → (asked : BlockAsk) → line.asked ≡ asked
    → (turn : Entry) → IsTurnOf asked turn → IsOfLines lines turn
is_request lines i line there (Join m) asks turn is = subst (IsRequestOf lines) (sym is.1) (i, line, there, inl asks)
is_request lines i line there (Again m) asks turn is = subst (IsRequestOf lines) (sym is.1) (i, line, there, inr asks)
is_request lines i line there (Leave m) asks turn is = subst (IsRequestOf lines) (sym is) tt
is_request lines i line there Batch asks turn is = subst (IsRequestOf lines) (sym is) tt
is_request lines i line there Now asks turn is = absurd is

-- ---- names of lines

-- a member is named
abbrev pub IsNamed : Name → List Name → Type 0
IsNamed m [] = ⊥
IsNamed m (name ∷ names) = (name ≡ m) ⊎ IsNamed m names

pub at_name : (P : Name → Type 0) (m : Name) (names : List Name) → IsNamed m names → AllByRecursion P names → P m
at_name P m [] named all = absurd named
at_name P m (name ∷ names) (inl is) all = subst P is all.0
at_name P m (name ∷ names) (inr named) all = at_name P m names named all.1

named_first : (m : Name) (asked : BlockAsk) (names : List Name) → IsSender asked m → IsNamed m (named_by asked ++ names)
named_first m asked names (inl joins) = subst (λ asked. IsNamed m (named_by asked ++ names)) (sym joins) (inl refl)
named_first m asked names (inr again) = subst (λ asked. IsNamed m (named_by asked ++ names)) (sym again) (inl refl)

named_later : (m : Name) (asked : BlockAsk) (names : List Name) → IsNamed m names → IsNamed m (named_by asked ++ names)
named_later m (Join other) names named = inr named
named_later m (Again other) names named = inr named
named_later m (Leave other) names named = inr named
named_later m Batch names named = named
named_later m Now names named = named

-- a member that sends in a line is named
pub sender_named : (m : Name) (lines : List BlockLine) (i : ℕ) (line : BlockLine) → slice_get lines i ≡ Some line → IsSender line.asked m
    → IsNamed m (names_in lines)
sender_named m [] i line there sends = absurd (none-some line there)
sender_named m (first ∷ lines) zero line there sends =
    named_first m first.asked (names_in lines) (subst (λ (line : BlockLine). IsSender line.asked m) (sym (same_Some first line there)) sends)
sender_named m (first ∷ lines) (suc i) line there sends = named_later m first.asked (names_in lines) (sender_named m lines i line there sends)

-- where no name is there twice, the names after a line are others than that of its member
pub later_apart : (m : Name) (asked : BlockAsk) (names : List Name) → IsSender asked m → IsDistinct same_name (named_by asked ++ names)
    → AllByRecursion (λ other. same_name m other ≡ false) names
unfolding IsDistinct
later_apart m asked names (inl joins) apart = (subst (λ asked. IsDistinct same_name (named_by asked ++ names)) joins apart).0
later_apart m asked names (inr again) apart = (subst (λ asked. IsDistinct same_name (named_by asked ++ names)) again apart).0

pub rest_apart : (asked : BlockAsk) (names : List Name) → IsDistinct same_name (named_by asked ++ names) → IsDistinct same_name names
unfolding IsDistinct
rest_apart (Join m) names apart = apart.1
rest_apart (Again m) names apart = apart.1
rest_apart (Leave m) names apart = apart.1
rest_apart Batch names apart = apart
rest_apart Now names apart = apart

-- and the member of a line is none of those that are named later
pub first_apart : (m : Name) (asked : BlockAsk) (names : List Name) → IsNamed m names → IsDistinct same_name (named_by asked ++ names)
    → (other : Name) → IsSender asked other → same_name m other ≡ false
first_apart m asked names named apart other sends =
    turned other m (at_name (λ name. same_name other name ≡ false) m names named (later_apart other asked names sends apart))
