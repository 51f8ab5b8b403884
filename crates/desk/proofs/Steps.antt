-- Each step of a turn keeps the rule of the table.
-- Each number that two steps have to agree on is read in the step (`Read`), and `prove!` shows that it was the one counted; `counted` holds for every value,
-- entry and ticket.
use Rattle.std.proofs.Common.{◌≡◌, ◌≢◌, ℕ, ◌+◌, ◌-◌, ◌*◌, ◌%◌, ◌^◌, ◌<◌, ◌≤◌, eqb, List, [], ◌∷◌, ◌++◌, length, set, get_or, All, slice_get, sym, refl, ap, subst, ◌∙◌, inl, inr, ⊎_elim, Option, Some, None, arith, length-append, append_assoc}
use Rattle.std.proofs.Math.Nat.{mod-add-mod, mod-eq_of_lt, mul-le-mul}
use Rattle.std.proofs.lemmas.Option.{slice_get_within}
use Rattle.std.proofs.lemmas.List.Elements.{All-nil, All-cons, All-head, All-push, All-weaker}
use Rattle.std.proofs.lemmas.List.Sums.{sum_by_push}
use Rattle.std.proofs.lemmas.List.{append_cancel_left}
use Rattle.std.proofs.lemmas.List.Quantifiers.{all_pairs_push}
use mathlib.Core.Logic.{dite}
use mathlib.Core.Option.{some, none, some-injective, some-ne-none}
use mathlib.Core.Option as maybe
use native.Mathlib.Decide.{ℕ_discrete, dec_lt}
use lib.ListN.{get_elem?}
use lib.Seq.{set-get_or}
use Rattle.atomic_table.specs.Table.{State, Me, Act, keeps, takes, gives, step, stepped, carried_after, Valid, put_back, Allows}
use Rattle.atomic_table.proofs.Lists.{set_else, set_again, one_turn}
use Rattle.desk.specs.declared.calls.Call.{Call}
use Rattle.desk.specs.declared.views.Terms.{Terms}
use Rattle.desk.specs.declared.views.Phase.{Phase}
use Rattle.desk.specs.declared.views.Phase.TheVariants.{Idle, Waits, Serves}
use Rattle.desk.specs.declared.views.Share.{Share}
use Rattle.desk.specs.declared.views.View.{View}
use Rattle.desk.specs.Calls.{StandsIn, IsRising, times}
use Rattle.desk.specs.Views.{StartsWith}
use Rattle.desk.specs.Turns.{below, one_if, tickets, has, made, placed, numbered, left_in, Knows, AtHome, IsOut, IsServed, Stands}
use Rattle.desk.specs.Plays.{in_phase, with_call, drawn, looked, counted, counted_view, passed_on, read}
use Rattle.desk.proofs.Sums.{sum-set, sum-same, sum-within, sum-le, below-yes, below-small, below-from, below-next, is-yes}
use Rattle.desk.proofs.Keeps.{there, only_told, put, put_served, starts_itself, knows_longer, get_longer, get_last, only, moves, slot_stays, served_stays}

abbrev ticket_of : ℕ → Phase → ℕ
ticket_of other Idle = other
ticket_of other (Waits ticket) = ticket
ticket_of other (Serves ticket room) = ticket

abbrev room_of : ℕ → Phase → ℕ
room_of other (Serves ticket room) = room
room_of other _ = other

abbrev hand_or : {K : Type 0} → K → List (ℕ × Option K) → K
hand_or other [] = other
hand_or other ((slot, None) ∷ others) = other
hand_or other ((slot, Some kept) ∷ others) = kept

abbrev first_or : {E : Type 0} → E → List E → E
first_or other [] = other
first_or other (entry ∷ entries) = entry

pub last_is : {E : Type 0} {one other : E} → one ∷ [] ≡ other ∷ [] → one ≡ other
last_is {E} {one} e = ap (first_or one) e

abbrev first_home : {X : Type 0} → List (maybe.Option X) → maybe.Option X
first_home [] = none
first_home (home ∷ homes) = home

module _ {K E G : Type 0} (listed : K → List E) (spare : K → ℕ) (tag : K → G) (terms : Terms E G) where
  abbrev V : Type 0
  V = View E G

  abbrev St : Type 0
  St = State (Option K) V

  abbrev M : Type 0
  M = Me (Option K) V

  abbrev Rule : St → Type 0
  Rule = Stands listed spare tag terms

  pub draws : (slots id : ℕ) (me : M) → me.0.phase ≡ Idle → 1 ≤ length me.0.shares → Allows Rule slots id me 0 (λ n. (n + 1) % 2 ^ 64) (drawn (step slots 0 1 0 none) me)
  draws slots id me idle own s r deep at _ =
      let v : V = me.0 in let w : V = in_phase (Waits r.next) v in let vs : List V = set s.views id w in
      let same : left_in vs ≡ left_in s.views = sum-same (λ view. view.left) s.views id v w at refl in
      let known = r.knows id v at in
      let apart : (j : ℕ) (u : V) (ticket room : ℕ) → get_elem? s.views j ≡ some u → u.phase ≡ Serves ticket room → j ≢ id = λ j u ticket room at' serves e. absurd (let both : some u ≡ some v = sym at' ∙ ap (get_elem? s.views) e ∙ at in let p : Serves ticket room ≡ Idle = sym serves ∙ ap (λ (x : V). x.phase) (some-injective u v both) ∙ idle in cc) in (
        w,
        keeps,
        tt,
        moves listed spare tag terms s r id v w _ s.homes r.front (r.next + 1) at refl refl
            (ap (λ ws. set ws 0 ((get_or ws 0 0 + 1) % 2 ^ 64)) r.words ∙ (λ i. mod-add-mod r.next (2 ^ 64) 1 i ∷ (r.front % 2 ^ 64) ∷ length r.news ∷ []))
            (record {
              each = λ t. let h = sum-set (λ view. has t view.phase) s.views id v w at in let z = ap (has t) idle in let e = r.tickets.each t in let b = below-next t r.next in omega (arith, h, z, e, b);
              all = let h = sum-set (λ view. tickets view.phase) s.views id v w at in let z = ap tickets idle in let e = r.tickets.all in omega (arith, h, z, e);
            })
            (slot_stays listed spare tag terms s r vs same (λ j u ticket room at' serves. set_else s.views id j w (apart j u ticket room at' serves) ∙ at'))
            (put_served (IsServed terms r.news r.front s.homes vs) s.views id w
            (λ ticket room serves. absurd cc)
            (λ j u ticket room other at' serves. served_stays listed spare tag terms s r vs same j u ticket room at' serves))
            (record { seen = known.seen; beside = known.beside; stand = known.stand; rising = known.rising; entitled = known.entitled; lonely = own }),
        (r.next, ap (λ ws. get_or ws 0 0) r.words, refl),
      )

  -- the ticket that is found served is the one that is served: no more are out than there are passes
  pub is_front : (s : St) (r : Rule s) (id : ℕ) (v : V) (own : ℕ) → terms.passes ≤ 64 → get_elem? s.views id ≡ some v → v.phase ≡ Waits own → r.front % 2 ^ 64 ≡ own % 2 ^ 64 → r.front ≡ own
  is_front s r id v own few at waits found =
      let f : V → ℕ = λ view. has own view.phase in
      let mine : f v ≡ 1 = ap (has own) waits ∙ is-yes own in
      let h = sum-within f s.views id v at in
      let e = r.tickets.each own in
      let small = below-small own r.next in
      let low : r.front ≤ own = elim (dec_lt own r.front) [ yes l ↦ absurd (let y = below-yes own r.front l in omega (arith, y, e, h, mine, small)) | no l ↦ omega arith ] in
      let high : own < r.next = below-from own r.next (omega (arith, e, h, mine)) in
      let all = r.tickets.all in
      let few' = sum-le (λ (view : V). tickets view.phase) (λ view. length view.shares) s.views (λ j u at'. (r.knows j u at').lonely) in
      let n = r.numbers.all in
      one_turn r.front own (2 ^ 64) low (omega (arith, high, all, few', n, few)) found

  pub roomy : (news : List E) (v : V) (share : Share E) → Knows terms news v → v.shares ≡ share ∷ [] → length share.mine < terms.turns → 0 < v.left
  roomy news v share k one few = let e = k.entitled in
      let m : made v.shares ≡ length share.mine = ap made one ∙ omega arith in
      let l : length v.shares * terms.turns ≡ terms.turns = ap (λ (l : List (Share E)). length l * terms.turns) one ∙ omega arith in omega (arith, e, m, l, few)

  pub takes_out : (s : St) (r : Rule s) (id : ℕ) (v : V) (own : ℕ) (share : Share E) → get_elem? s.views id ≡ some v → v.phase ≡ Waits own → r.front ≡ own → v.terms ≡ Some terms → v.shares ≡ share ∷ [] → length share.mine < terms.turns
      → (h : AtHome listed spare tag terms r.news s.homes s.views) → let w : V = record v { phase = Serves own (spare h.kept); seen = listed h.kept } in Rule record { words = s.words; homes = set s.homes 0 none; views = set s.views id w }
  takes_out s r id v own share at waits front told one few h =
      let w : V = record v { phase = Serves own (spare h.kept); seen = listed h.kept } in let vs : List V = set s.views id w in
      let same : left_in vs ≡ left_in s.views = sum-same (λ view. view.left) s.views id v w at refl in
      let away : set s.homes 0 none ≡ none ∷ [] = ap (λ hs. set hs 0 none) h.home in
      let known = r.knows id v at in let room = h.room in
      moves listed spare tag terms s r id v w s.words (set s.homes 0 none) r.front r.next at refl refl r.words
      (record {
        each = λ t. let h = sum-same (λ view. has t view.phase) s.views id v w at (sym (ap (has t) waits)) in let e = r.tickets.each t in omega (arith, h, e);
        all = let h = sum-same (λ view. tickets view.phase) s.views id v w at (sym (ap tickets waits)) in let e = r.tickets.all in omega (arith, h, e);
      })
      (inr (record { away = away; holder = id; view = w; ticket = own; room = spare h.kept; there = there s.views id v w at; serves = refl }))
      (put_served (IsServed terms r.news r.front (set s.homes 0 none) vs) s.views id w
      (λ ticket room' serves. record {
        served = sym (ap (ticket_of 0) serves) ∙ sym front;
        away = away;
        seen = h.whole;
        roomy = let e : spare h.kept ≡ room' = ap (room_of 0) serves in omega (arith, same, e, room);
      })
      (λ j u ticket room' other at' serves. absurd (let no_value : none ∷ [] ≡ some (Some h.kept) ∷ [] = sym (r.served j u ticket room' at' serves).away ∙ h.home in some-ne-none (Some h.kept) (sym (ap first_home no_value)))))
      (record { seen = starts_itself (terms.start ++ r.news) (listed h.kept) (sym h.whole); beside = known.beside; stand = known.stand; rising = known.rising; entitled = known.entitled; lonely = let l = known.lonely in let z = ap tickets waits in omega (arith, l, z) })

  pub looks : (slots id : ℕ) (me : M) (own : ℕ) (share : Share E) → terms.passes ≤ 64 → me.0.phase ≡ Waits own → me.0.terms ≡ Some terms → me.0.shares ≡ share ∷ [] → length share.mine < terms.turns
      → Allows Rule slots id me 1 (λ n. n) (looked listed spare tag (step slots 1 0 0 none) me)
  looks slots id me own share few waits told one short s r deep at _ =
      let v : V = me.0 in let found : ℕ = get_or s.words 1 0 in let front_is : found ≡ r.front % 2 ^ 64 = ap (λ ws. get_or ws 1 0) r.words in
      let still : set s.words 1 found ≡ s.words = set-get_or s.words 1 0 in
      dite (ℕ_discrete found (own % 2 ^ 64))
      (λ hit. let front : r.front ≡ own = is_front s r id v own few at waits (sym front_is ∙ hit) in
      let known = r.knows id v at in
      let taken : AtHome listed spare tag terms r.news s.homes s.views → (w : V) × (a : Act (Option K)) × Valid s.homes me.1 a × Rule (stepped s 1 found id me.1 w a) × looked listed spare tag (step slots 1 0 0 none) me found (w, carried_after me.1 a) = λ h. (
        record v { phase = Serves own (spare h.kept); seen = listed h.kept },
        takes 0 (Some h.kept),
        ap (λ hs. get_elem? hs 0) h.home,
        subst (λ ws. Rule record { words = ws; homes = set s.homes 0 none; views = set s.views id (record v { phase = Serves own (spare h.kept); seen = listed h.kept }) }) (sym still) (takes_out s r id v own share at waits front told one short h),
        λ ticket waits'. let e : own ≡ ticket = ap (ticket_of 0) (sym waits ∙ waits') in (
          (λ miss. absurd (miss (hit ∙ ap (λ t. t % 2 ^ 64) e))),
          (λ _. record {
            kept = h.kept;
            seat = λ i. (record v { phase = Serves (e i) (spare h.kept); seen = listed h.kept }, (0, Some h.kept) ∷ me.1);
            goes_on = subst (λ l. StartsWith l v.seen) (sym h.whole) known.seen;
            roomy = let a = roomy r.news v share known one short in let b = sum-within (λ (view : V). view.left) s.views id v at in let c = h.room in omega (arith, a, b, c);
            tagged = λ other told'. h.tagged ∙ ap (λ (t : Terms E G). t.tag) (sym (only_told v.terms terms other told told'));
          }),
        ),
      ) in
      ⊎_elim taken (λ (o : IsOut s.homes s.views). absurd (
      let mine : has r.front v.phase ≡ 1 = ap (has r.front) waits ∙ (ap (λ t. one_if (eqb t r.front)) (sym front) ∙ is-yes r.front) in
      let apart : o.holder ≢ id = λ e. let both : some o.view ≡ some v = sym o.there ∙ ap (get_elem? s.views) e ∙ at in let p : Serves o.ticket o.room ≡ Waits own = sym o.serves ∙ ap (λ (x : V). x.phase) (some-injective o.view v both) ∙ waits in cc in
      only listed spare tag terms s r id v at mine o.holder o.view o.ticket o.room apart o.there o.serves)) r.slot)
      (λ miss. (
        v,
        keeps,
        tt,
        subst Rule (λ i. record { words = sym still i; homes = s.homes; views = sym (set_again s.views id v at) i }) r,
        λ ticket waits'. let e : own ≡ ticket = ap (ticket_of 0) (sym waits ∙ waits') in (λ _. refl, λ hit. absurd (miss (hit ∙ ap (λ t. t % 2 ^ 64) (sym e)))),
      ))

  pub reads : (slots id : ℕ) (me : M) (ticket room : ℕ) → me.0.phase ≡ Serves ticket room → me.0.terms ≡ Some terms → Allows Rule slots id me 2 (λ n. n) (read (step slots 2 0 0 none) me)
  reads slots id me ticket room serves told s r deep at _ =
      let v : V = me.0 in let still : set s.words 2 (get_or s.words 2 0) ≡ s.words = set-get_or s.words 2 0 in (
        v,
        keeps,
        tt,
        subst Rule (λ i. record { words = sym still i; homes = s.homes; views = sym (set_again s.views id v at) i }) r,
        (
          refl,
          λ other told'. let o = only_told v.terms terms other told told' in let found : get_or s.words 2 0 ≡ length r.news = ap (λ ws. get_or ws 2 0) r.words in
              ap (λ l. length l) (r.served id v ticket room at serves).seen ∙ (length-append terms.start r.news ∙ (λ i. length (sym o i).start + sym found i)),
        ),
      )

  pub passes_on : (slots id : ℕ) (me : M) (kept : K) (ticket room : ℕ) → me.1 ≡ (0, Some kept) ∷ [] → me.0.phase ≡ Serves ticket room → listed kept ≡ me.0.seen → room ≤ spare kept → tag kept ≡ terms.tag
      → Allows Rule slots id me 1 (λ n. (n + 1) % 2 ^ 64) (passed_on (step slots 1 1 0 none) me)
  passes_on slots id me kept ticket room hand serves whole roomy' tagged s r deep at _ =
      let v : V = me.0 in let w : V = in_phase Idle v in let vs : List V = set s.views id w in
      let same : left_in vs ≡ left_in s.views = sum-same (λ view. view.left) s.views id v w at refl in
      let mine = r.served id v ticket room at serves in let front : ticket ≡ r.front = mine.served in
      let has_front : has r.front v.phase ≡ 1 = ap (has r.front) serves ∙ (ap (λ t. one_if (eqb t r.front)) front ∙ is-yes r.front) in
      let known = r.knows id v at in (
        w,
        gives,
        tt,
        moves listed spare tag terms s r id v w _ _ (r.front + 1) r.next at refl refl
            (ap (λ ws. set ws 1 ((get_or ws 1 0 + 1) % 2 ^ 64)) r.words ∙ (λ i. (r.next % 2 ^ 64) ∷ mod-add-mod r.front (2 ^ 64) 1 i ∷ length r.news ∷ []))
            (record {
              each = λ t. let h = sum-set (λ view. has t view.phase) s.views id v w at in let z : has t v.phase ≡ one_if (eqb r.front t) = ap (has t) serves ∙ ap (λ x. one_if (eqb x t)) front in let e = r.tickets.each t in let b = below-next t r.front in omega (arith, h, z, e, b);
              all = let h = sum-set (λ view. tickets view.phase) s.views id v w at in let z = ap tickets serves in let e = r.tickets.all in omega (arith, h, z, e);
            })
            (inl (record {
              kept = kept;
              home = ap (put_back s.homes) hand ∙ ap (λ hs. set hs 0 (some (Some kept))) mine.away;
              whole = whole ∙ mine.seen;
              tagged = tagged;
              room = let a = mine.roomy in omega (arith, same, a, roomy');
            }))
            (put_served (λ u t m. IsServed terms r.news (r.front + 1) (put_back s.homes me.1) vs u t m) s.views id w
            (λ t m idle. absurd cc)
            (λ j u t m other at' serves'. absurd (only listed spare tag terms s r id v at has_front j u t m other at' serves')))
            (record { seen = known.seen; beside = known.beside; stand = known.stand; rising = known.rising; entitled = known.entitled; lonely = omega arith }),
        refl,
      )

  -- all views together may still make a turn, and so the count is far from its end
  pub count_fits : (s : St) (r : Rule s) (id : ℕ) (v : V) → terms.passes ≤ 64 → terms.turns ≤ 4096 → get_elem? s.views id ≡ some v → 0 < v.left → (length r.news + 1) % 2 ^ 64 ≡ length r.news + 1
  count_fits s r id v few short at some_left =
      let a = sum-within (λ (view : V). view.left) s.views id v at in let b = r.budget in let c : terms.passes * terms.turns ≤ 64 * 4096 = mul-le-mul few short in mod-eq_of_lt (omega (arith, a, b, c, some_left))

  pub counts : (slots id : ℕ) (me : M) (kept : K) (ticket room : ℕ) (entry : E) (share : Share E) → terms.passes ≤ 64 → terms.turns ≤ 4096 → me.1 ≡ (0, Some kept) ∷ [] → me.0.phase ≡ Serves ticket room
      → listed kept ≡ me.0.seen ++ entry ∷ [] → me.0.terms ≡ Some terms → me.0.shares ≡ share ∷ [] → length share.mine < terms.turns
      → Allows Rule slots id me 2 (λ n. (n + 1) % 2 ^ 64) (counted listed (step slots 2 1 0 none) me)
  counts slots id me kept ticket room entry share few short hand serves entered told one fresh s r deep at _ =
      let v : V = me.0 in let found : ℕ = get_or s.words 2 0 in let found_is : found ≡ length r.news = ap (λ ws. get_or ws 2 0) r.words in
      let w : V = counted_view listed found ticket room entry kept v in let vs : List V = set s.views id w in
      let call : Call E = record { place = found; entry = entry } in
      let share' : Share E = record share { mine = share.mine ++ call ∷ [] } in
      let one' : w.shares ≡ share' ∷ [] = ap (with_call call) one in
      let known = r.knows id v at in let some_left = roomy r.news v share known one fresh in
      let mine = r.served id v ticket room at serves in
      let has_front : has r.front v.phase ≡ 1 = ap (has r.front) serves ∙ (ap (λ t. one_if (eqb t r.front)) mine.served ∙ is-yes r.front) in
      let news' : List E = r.news ++ entry ∷ [] in
      let longer : length news' ≡ length r.news + 1 = length-append r.news (entry ∷ []) ∙ omega arith in
      let whole : listed kept ≡ terms.start ++ news' = entered ∙ (ap (λ l. l ++ entry ∷ []) mine.seen ∙ append_assoc terms.start r.news (entry ∷ [])) in
      let fewer : left_in vs + 1 ≡ left_in s.views = let h = sum-set (λ view. view.left) s.views id v w at in omega (arith, h, some_left) in
      let stands : All (StandsIn r.news) share.mine = All-head (λ (x : Share E). All (StandsIn r.news) x.mine) share [] (subst (All (λ (x : Share E). All (StandsIn r.news) x.mine)) one known.stand) in
      let rises : IsRising share.mine = All-head (λ (x : Share E). IsRising x.mine) share [] (subst (All (λ (x : Share E). IsRising x.mine)) one known.rising) in
      let fits = count_fits s r id v few short at some_left in
      let old_knows = knows_longer terms r.news entry in (
        w,
        keeps,
        tt,
        record {
          news = news';
          front = r.front;
          next = r.next;
          words = ap (λ ws. set ws 2 ((get_or ws 2 0 + 1) % 2 ^ 64)) r.words ∙ (λ i. (r.next % 2 ^ 64) ∷ (r.front % 2 ^ 64) ∷ (let e : (length r.news + 1) % 2 ^ 64 ≡ length news' = fits ∙ sym longer in e i) ∷ []);
          tickets = record {
            each = λ t. let h = sum-same (λ view. has t view.phase) s.views id v w at (sym (ap (has t) serves)) in let e = r.tickets.each t in omega (arith, h, e);
            all = let h = sum-same (λ view. tickets view.phase) s.views id v w at (sym (ap tickets serves)) in let e = r.tickets.all in omega (arith, h, e);
          };
          slot = inr (record { away = mine.away; holder = id; view = w; ticket = ticket; room = room - 1; there = there s.views id v w at; serves = refl });
          served = put_served (IsServed terms news' r.front s.homes vs) s.views id w
              (λ t m serves'. record {
                served = sym (ap (ticket_of 0) serves') ∙ mine.served;
                away = mine.away;
                seen = whole;
                roomy = let e : room - 1 ≡ m = ap (room_of 0) serves' in let a = mine.roomy in omega (arith, e, a, fewer);
              })
              (λ j u t m other at' serves'. absurd (only listed spare tag terms s r id v at has_front j u t m other at' serves'));
          knows = put (λ _ u. Knows terms news' u) s.views id w (record {
            seen = starts_itself (terms.start ++ news') (listed kept) (sym whole);
            beside = (old_knows v known).beside;
            stand = subst (All (λ (x : Share E). All (StandsIn news') x.mine)) (sym one') (All-cons (λ (x : Share E). All (StandsIn news') x.mine) share' []
                (All-push (StandsIn news') share.mine call (All-weaker (StandsIn r.news) (StandsIn news') (λ c. get_longer r.news (entry ∷ []) c.place c.entry) share.mine stands)
                (ap (slice_get news') found_is ∙ get_last r.news entry))
                (All-nil (λ (x : Share E). All (StandsIn news') x.mine)));
            rising = subst (All (λ (x : Share E). IsRising x.mine)) (sym one') (All-cons (λ (x : Share E). IsRising x.mine) share' []
                (all_pairs_push (λ (a b : Call E). a.place < b.place) share.mine call rises (λ k d l. let h = slice_get_within r.news _ _ (stands k d l) in omega (arith, h, found_is)))
                (All-nil (λ (x : Share E). IsRising x.mine)));
            entitled = let e = known.entitled in
                let m : made v.shares ≡ length share.mine = ap made one ∙ omega arith in
                let m' : made w.shares ≡ length share'.mine = ap made one' ∙ omega arith in
                let more : length share'.mine ≡ length share.mine + 1 = length-append share.mine (call ∷ []) ∙ omega arith in
                let n : length w.shares * terms.turns ≡ length v.shares * terms.turns = ap (λ (l : List (Share E)). length l * terms.turns) one' ∙ sym (ap (λ (l : List (Share E)). length l * terms.turns) one) in
                omega (arith, e, m, m', more, n, some_left);
            lonely = let n : length w.shares ≡ 1 = ap (λ (l : List (Share E)). length l) one' in omega (arith, n);
          }) (λ j u _ e. old_knows u (r.knows j u e));
          places = λ place.
              let h = sum-set (λ (view : V). placed place view.shares) s.views id v w at in
              let p : placed place v.shares ≡ times place share.mine = ap (placed place) one ∙ omega arith in
              let p' : placed place w.shares ≡ times place share'.mine = ap (placed place) one' ∙ omega arith in
              let more : times place share'.mine ≡ times place share.mine + one_if (eqb (length r.news) place) = sum_by_push (λ (c : Call E). one_if (eqb c.place place)) share.mine call ∙ ap (λ n. times place share.mine + one_if (eqb n place)) found_is in
              let b = below-next place (length r.news) in
              let e = r.places place in
              let l : below place (length news') ≡ below place (length r.news + 1) = ap (below place) longer in
              omega (arith, h, p, p', more, b, e, l);
          numbers = record {
            each = λ number h. sum-same (λ (view : V). numbered number view.shares) s.views id v w at (ap (numbered number) one' ∙ sym (ap (numbered number) one)) ∙ r.numbers.each number h;
            all = sum-same (λ (view : V). length view.shares) s.views id v w at (ap (λ (l : List (Share E)). length l) one' ∙ sym (ap (λ (l : List (Share E)). length l) one)) ∙ r.numbers.all;
          };
          budget = let b = r.budget in omega (arith, b, fewer, longer);
        },
        λ kept' ticket' room' entry' hand' serves' entered'.
            let k : kept ≡ kept' = ap (hand_or kept) (sym hand ∙ hand') in
            let p : Serves ticket room ≡ Serves ticket' room' = sym serves ∙ serves' in
            let e : entry ≡ entry' = last_is (append_cancel_left me.0.seen (entry ∷ []) (entry' ∷ []) (sym entered ∙ (ap listed k ∙ entered'))) in (
              λ i. (counted_view listed found (ap (ticket_of 0) p i) (ap (room_of 0) p i) (e i) (k i) v, me.1),
              λ other told'. let o = only_told v.terms terms other told told' in ap (λ l. length l) mine.seen ∙ (length-append terms.start r.news ∙ (λ i. length (sym o i).start + sym found_is i)),
            ),
      )
