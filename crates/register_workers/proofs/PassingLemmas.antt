-- The entries of a history that pass a test, where one list of calls has all of them.
use Rattle.std.proofs.Common.{◌≡◌, ◌≢◌, ◌∙◌, ◌⊎◌, ℕ, zero, suc, ◌+◌, ◌<◌, ◌≤◌, ◌==◌, Bool, true, false, cond, List, [], ◌∷◌, ◌++◌, length, map, filter, slice_get, slice_index_or, Some, sum_by, All, arith, inl, inr, refl, sym, ap, subst}
use Rattle.std.specs.List.{AllByRecursion}
use Rattle.std.proofs.lemmas.Bool.{cases_eq, false≢true}
use Rattle.std.proofs.lemmas.Bool.Decides.{Decides-eqb}
use Rattle.std.proofs.lemmas.List.Elements.{recursion_from_All}
use Rattle.std.proofs.lemmas.List.Sums.{sum_by-cons}
use Rattle.std.proofs.lemmas.Option.{get_or_from_slice_get, none-some, same_Some, slice_get_within}
use Rattle.desk.specs.Calls.{AreCallsOf, IsRising, StandsIn, times}
use Rattle.desk.specs.declared.calls.Call.{Call}

-- ---- sums

-- what an item adds to a count
abbrev one_if : Bool → ℕ
one_if b = cond b 1 0

-- some item of a list has a share in the sum
has_share : {X : Type 0} (f : X → ℕ) (d : X) (xs : List X) → 1 ≤ sum_by f xs → (k : ℕ) × (k < length xs) × (1 ≤ f (slice_index_or xs k d))
has_share f d [] some = absurd (omega (arith, some))
has_share {X} f d (x ∷ xs) some = at_first (f x) refl (has_share f d xs)
  where
    at_first : (n : ℕ) → f x ≡ n → (1 ≤ sum_by f xs → (k : ℕ) × (k < length xs) × (1 ≤ f (slice_index_or xs k d)))
        → (k : ℕ) × (k < length (x ∷ xs)) × (1 ≤ f (slice_index_or (x ∷ xs) k d))
    at_first zero is later =
        let found = later (omega (arith, some, sum_by-cons f x xs, is)) in (suc found.0, omega (arith, found.1), found.2)
    at_first (suc n) is later = (0, omega arith, omega (arith, is))

-- ---- all of a list

module _ {X : Type 0} where
  all_if : (P : X → Type 0) (b : Bool) (x : X) (xs : List X) → (b ≡ true → P x) → AllByRecursion P xs → AllByRecursion P (cond b (x ∷ xs) xs)
  all_if P true x xs first all = (first refl, all)
  all_if P false x xs first all = all

  all_filter : (P : X → Type 0) (p : X → Bool) (xs : List X) → AllByRecursion P xs → AllByRecursion P (filter p xs)
  all_filter P p [] all = tt
  all_filter P p (x ∷ xs) all = all_if P (p x) x (filter p xs) (λ passes. all.0) (all_filter P p xs all.1)

  all_pass : (p : X → Bool) (xs : List X) → AllByRecursion (λ x. p x ≡ true) (filter p xs)
  all_pass p [] = tt
  all_pass p (x ∷ xs) = all_if (λ x. p x ≡ true) (p x) x (filter p xs) (λ passes. passes) (all_pass p xs)

  pub all_map : (P Q : X → Type 0) → ((x : X) → P x → Q x) → (xs : List X) → AllByRecursion P xs → AllByRecursion Q xs
  all_map P Q to [] all = tt
  all_map P Q to (x ∷ xs) all = (to x all.0, all_map P Q to xs all.1)

  all_both : (P Q R : X → Type 0) → ((x : X) → P x → Q x → R x) → (xs : List X) → AllByRecursion P xs → AllByRecursion Q xs → AllByRecursion R xs
  all_both P Q R to [] all also = tt
  all_both P Q R to (x ∷ xs) all also = (to x all.0 also.0, all_both P Q R to xs all.1 also.1)

  pub all_append : (P : X → Type 0) (xs ys : List X) → AllByRecursion P xs → AllByRecursion P ys → AllByRecursion P (xs ++ ys)
  all_append P [] ys all also = also
  all_append P (x ∷ xs) ys all also = (all.0, all_append P xs ys all.1 also)

  filter_if : (p : X → Bool) (x : X) (xs ys : List X) (b : Bool) → p x ≡ b → filter p xs ≡ ys → filter p (x ∷ xs) ≡ cond b (x ∷ ys) ys
  filter_if p x xs ys b is same = λ i. cond (is i) (x ∷ same i) (same i)

  -- nothing passes
  pub filter_none : (p : X → Bool) (xs : List X) → AllByRecursion (λ x. p x ≡ false) xs → filter p xs ≡ []
  filter_none p [] none = refl
  filter_none p (x ∷ xs) none = filter_if p x xs [] false none.0 (filter_none p xs none.1)

  -- all pass
  pub filter_all : (p : X → Bool) (xs : List X) → AllByRecursion (λ x. p x ≡ true) xs → filter p xs ≡ xs
  filter_all p [] all = refl
  filter_all p (x ∷ xs) all = filter_if p x xs xs true all.0 (filter_all p xs all.1)

-- ---- calls

module _ {E : Type 0} where
  abbrev entry_of : Call E → E
  entry_of call = call.entry

  -- one of the calls has this place
  abbrev Has : ℕ → List (Call E) → Type 0
  Has place [] = ⊥
  Has place (call ∷ calls) = (call.place ≡ place) ⊎ Has place calls

  -- their places rise
  abbrev Rise : List (Call E) → Type 0
  Rise [] = Unit {0}
  Rise (call ∷ calls) = AllByRecursion (λ (later : Call E). call.place < later.place) calls × Rise calls

  rise : (calls : List (Call E)) → IsRising calls → Rise calls
  rise [] rising = tt
  rise (call ∷ calls) rising = (
    recursion_from_All (λ (later : Call E). call.place < later.place) calls (λ k d less. rising 0 (suc k) d (omega arith) (omega (arith, less))),
    rise calls (λ i j d before within. rising (suc i) (suc j) d (omega (arith, before)) (omega (arith, within))),
  )

  rise_if : (b : Bool) (call : Call E) (calls : List (Call E)) → AllByRecursion (λ (later : Call E). call.place < later.place) calls → Rise calls
      → Rise (cond b (call ∷ calls) calls)
  rise_if true call calls after rises = (after, rises)
  rise_if false call calls after rises = rises

  rise-filter : (p : Call E → Bool) (calls : List (Call E)) → Rise calls → Rise (filter p calls)
  rise-filter p [] rises = tt
  rise-filter p (call ∷ calls) rises =
      rise_if (p call) call (filter p calls) (all_filter (λ (later : Call E). call.place < later.place) p calls rises.0) (rise-filter p calls rises.1)

  has_after : (least place : ℕ) (calls : List (Call E)) → AllByRecursion (λ (later : Call E). least < later.place) calls → Has place calls → least < place
  has_after least place [] after has = absurd has
  has_after least place (call ∷ calls) after (inl is) = let less = after.0 in omega (arith, less, is)
  has_after least place (call ∷ calls) after (inr has) = has_after least place calls after.1 has

  -- a call is counted, so it is there
  has_counted : (place : ℕ) (calls : List (Call E)) → 1 ≤ times place calls → Has place calls
  has_counted place [] some = absurd (omega (arith, some))
  has_counted place (call ∷ calls) some = first (call.place == place) refl (has_counted place calls)
    where
      first : (b : Bool) → (call.place == place) ≡ b → (1 ≤ times place calls → Has place calls) → Has place (call ∷ calls)
      first true is later = inl ((Decides-eqb call.place place).0 is)
      first false is later =
          inr (later (omega (arith, some, sum_by-cons (λ (call : Call E). one_if (call.place == place)) call calls, ap one_if is)))

  -- what holds of all entries holds of the one at the place of a call
  entry_at : (P : E → Type 0) (turns : List E) (place : ℕ) (calls : List (Call E)) → Has place calls → AllByRecursion (StandsIn turns) calls
      → AllByRecursion P (map entry_of calls) → (e : E) × (slice_get turns place ≡ Some e) × P e
  entry_at P turns place [] has stand all = absurd has
  entry_at P turns place (call ∷ calls) (inl is) stand all = (call.entry, ap (slice_get turns) (sym is) ∙ stand.0, all.0)
  entry_at P turns place (call ∷ calls) (inr has) stand all = entry_at P turns place calls has stand.1 all.1

  -- ---- calls whose entries pass

  module _ (p : E → Bool) where
    abbrev passing : List (Call E) → List (Call E)
    passing calls = filter (λ (call : Call E). p call.entry) calls

    map_if : (b : Bool) (call : Call E) (calls : List (Call E)) → map entry_of (cond b (call ∷ calls) calls) ≡ cond b (call.entry ∷ map entry_of calls) (map entry_of calls)
    map_if true call calls = refl
    map_if false call calls = refl

    map_passing : (calls : List (Call E)) → map entry_of (passing calls) ≡ filter p (map entry_of calls)
    map_passing [] = refl
    map_passing (call ∷ calls) =
        map_if (p call.entry) call (passing calls) ∙ ap (λ list. cond (p call.entry) (call.entry ∷ list) list) (map_passing calls)

    has_if : (place : ℕ) (b : Bool) (call : Call E) (calls : List (Call E)) → Has place calls → Has place (cond b (call ∷ calls) calls)
    has_if place true call calls has = inr has
    has_if place false call calls has = has

    -- the call of an entry that passes is among them
    has_passing : (turns : List E) (place : ℕ) (e : E) → slice_get turns place ≡ Some e → p e ≡ true → (calls : List (Call E))
        → AllByRecursion (StandsIn turns) calls → Has place calls → Has place (passing calls)
    has_passing turns place e there passes [] stand has = absurd has
    has_passing turns place e there passes (call ∷ calls) stand (inl is) =
        let same : e ≡ call.entry = same_Some e call.entry (sym there ∙ ap (slice_get turns) (sym is) ∙ stand.0) in
        subst (λ b. Has place (cond b (call ∷ passing calls) (passing calls))) (sym (ap p (sym same) ∙ passes)) (inl is)
    has_passing turns place e there passes (call ∷ calls) stand (inr has) =
        has_if place (p call.entry) call (passing calls) (has_passing turns place e there passes calls stand.1 has)

    -- ---- a history from a place on

    -- the entry of a call is in it
    abbrev StandsFrom : ℕ → List E → Call E → Type 0
    StandsFrom at turns call = (d : ℕ) × (call.place ≡ at + d) × (slice_get turns d ≡ Some call.entry)

    -- these are the calls of just those entries that pass
    record Covers (at : ℕ) (turns : List E) (calls : List (Call E)) : Type 0 where
      stand : AllByRecursion (StandsFrom at turns) calls
      rises : Rise calls
      pass : AllByRecursion (λ (call : Call E). p call.entry ≡ true) calls
      has : (d : ℕ) (e : E) → slice_get turns d ≡ Some e → p e ≡ true → Has (at + d) calls

    module _ (turn : E) (turns : List E) (at : ℕ) where
      stands_later : (call : Call E) → StandsFrom at (turn ∷ turns) call → at < call.place → StandsFrom (at + 1) turns call
      stands_later call (zero, place, there) less = absurd (omega (arith, place, less))
      stands_later call (suc d, place, there) less = (d, omega (arith, place), there)

      stands_next : p turn ≡ false → (call : Call E) → StandsFrom at (turn ∷ turns) call → p call.entry ≡ true → StandsFrom (at + 1) turns call
      stands_next fails call (zero, place, there) passes =
          absurd (false≢true (sym fails ∙ ap p (same_Some turn call.entry there) ∙ passes))
      stands_next fails call (suc d, place, there) passes = (d, omega (arith, place), there)

      has_next : (calls : List (Call E)) (d : ℕ) → Has (at + suc d) calls → Has (at + 1 + d) calls
      has_next calls d has = let same : at + suc d ≡ at + 1 + d = omega arith in subst (λ place. Has place calls) same has

      -- the next entry does not pass
      covers_next : p turn ≡ false → (calls : List (Call E)) → Covers at (turn ∷ turns) calls → Covers (at + 1) turns calls
      covers_next fails calls covers = record {
        stand = all_both (StandsFrom at (turn ∷ turns)) (λ (call : Call E). p call.entry ≡ true) (StandsFrom (at + 1) turns) (stands_next fails) calls
            covers.stand covers.pass;
        rises = covers.rises;
        pass = covers.pass;
        has = λ d e there passes. has_next calls d (covers.has (suc d) e there passes);
      }

      -- or it does, and the first call has it
      first_at : p turn ≡ true → (call : Call E) (calls : List (Call E)) → Covers at (turn ∷ turns) (call ∷ calls) → call.place ≡ at
      first_at passes call calls covers = which (covers.has 0 turn refl passes)
        where
          which : (call.place ≡ at + 0) ⊎ Has (at + 0) calls → call.place ≡ at
          which (inl is) = omega (arith, is)
          which (inr has) =
              let less = has_after call.place (at + 0) calls covers.rises.0 has in let place = covers.stand.0.1 in absurd (omega (arith, less, place))

      first_is : (call : Call E) → call.place ≡ at → StandsFrom at (turn ∷ turns) call → turn ≡ call.entry
      first_is call here (zero, place, there) = same_Some turn call.entry there
      first_is call here (suc d, place, there) = absurd (omega (arith, here, place))

      covers_later : (call : Call E) (calls : List (Call E)) → call.place ≡ at → Covers at (turn ∷ turns) (call ∷ calls) → Covers (at + 1) turns calls
      covers_later call calls here covers = record {
        stand = all_both (StandsFrom at (turn ∷ turns)) (λ (later : Call E). call.place < later.place) (StandsFrom (at + 1) turns)
            (λ later stands less. stands_later later stands (omega (arith, less, here))) calls covers.stand.1 covers.rises.0;
        rises = covers.rises.1;
        pass = covers.pass.1;
        has = λ d e there passes. which d (covers.has (suc d) e there passes);
      }
        where
          which : (d : ℕ) → (call.place ≡ at + suc d) ⊎ Has (at + suc d) calls → Has (at + 1 + d) calls
          which d (inl is) = absurd (omega (arith, is, here))
          which d (inr has) = has_next calls d has

      one_entry : (b : Bool) → p turn ≡ b → (calls : List (Call E)) → Covers at (turn ∷ turns) calls
          → ((calls : List (Call E)) → Covers (at + 1) turns calls → filter p turns ≡ map entry_of calls)
          → cond b (turn ∷ filter p turns) (filter p turns) ≡ map entry_of calls
      one_entry true passes [] covers later = absurd (covers.has 0 turn refl passes)
      one_entry true passes (call ∷ calls) covers later =
          let here = first_at passes call calls covers in
          λ i. first_is call here covers.stand.0 i ∷ later calls (covers_later call calls here covers) i
      one_entry false fails calls covers later = later calls (covers_next fails calls covers)

    entries_are : (turns : List E) (at : ℕ) (calls : List (Call E)) → Covers at turns calls → filter p turns ≡ map entry_of calls
    entries_are [] at [] covers = refl
    entries_are [] at (call ∷ calls) covers = absurd (none-some call.entry covers.stand.0.2)
    entries_are (turn ∷ turns) at calls covers = one_entry turn turns at (p turn) refl calls covers (entries_are turns (at + 1))

  -- ---- the calls of all workers

  module _ (turns : List E) (calls : List (List (Call E))) (are : AreCallsOf turns calls) where
    -- each place has a call of some worker
    has_worker : (place : ℕ) → place < length turns → (k : ℕ) × (k < length calls) × Has place (slice_index_or calls k [])
    has_worker place within =
        let one = are.once place within in
        let found = has_share (times place) [] calls (omega (arith, one)) in
        (found.0, found.1, has_counted place (slice_index_or calls found.0 []) found.2)

    stand_by : (k : ℕ) → k < length calls → AllByRecursion (StandsIn turns) (slice_index_or calls k [])
    stand_by k within = recursion_from_All (StandsIn turns) (slice_index_or calls k []) (are.stand k [] within)

    -- what holds of the entries of each worker holds of all
    pub all_entries : (P : E → Type 0) → ((k : ℕ) → k < length calls → AllByRecursion P (map entry_of (slice_index_or calls k []))) → All P turns
    all_entries P all place d within =
        let found = has_worker place within in
        let k = found.0 in
        let at = entry_at P turns place (slice_index_or calls k []) found.2 (stand_by k found.1) (all k found.1) in
        subst P (sym (get_or_from_slice_get turns place at.0 d at.1)) at.2

    module _ (p : E → Bool) (w : ℕ) (within : w < length calls)
        (others : (k : ℕ) → k < length calls → k ≢ w → filter p (map entry_of (slice_index_or calls k [])) ≡ []) where
      nobody : (d : ℕ) (list : List (Call E)) → map entry_of list ≡ [] → Has d list → ⊥
      nobody d [] none has = has
      nobody d (call ∷ list) none has = absurd (omega (arith, ap length none))

      has_only : (d : ℕ) (e : E) → slice_get turns d ≡ Some e → p e ≡ true → Has d (passing p (slice_index_or calls w []))
      has_only d e there passes =
          let found = has_worker d (slice_get_within turns d e there) in
          let k = found.0 in
          let list = slice_index_or calls k [] in
          let has = has_passing p turns d e there passes list (stand_by k found.1) found.2 in
          elim (cases_eq k w) [
            | inl same ↦ subst (λ k. Has d (passing p (slice_index_or calls k []))) same has
            | inr other ↦ absurd (nobody d (passing p list) (map_passing p list ∙ others k found.1 other) has)
          ]

      -- the entries that pass, where only one worker has calls with such entries
      pub by_one : filter p turns ≡ filter p (map entry_of (slice_index_or calls w []))
      by_one =
          let mine = slice_index_or calls w [] in
          entries_are p turns 0 (passing p mine) (record {
            stand = all_filter (StandsFrom p 0 turns) (λ (call : Call E). p call.entry) mine
                (all_map (StandsIn turns) (StandsFrom p 0 turns) (λ call stands. (call.place, omega arith, stands)) mine (stand_by w within));
            rises = rise-filter (λ (call : Call E). p call.entry) mine (rise mine (are.rising w [] within));
            pass = all_pass (λ (call : Call E). p call.entry) mine;
            has = λ d e there passes. let same : d ≡ 0 + d = omega arith in subst (λ place. Has place (passing p mine)) same (has_only d e there passes);
          }) ∙ map_passing p mine
