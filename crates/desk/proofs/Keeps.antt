-- What stays of the rule when one view changes.
-- A step that changes one view and neither its shares nor its turns gives only words, tickets, slot and who is served; `put` carries each other view, by
-- `j ≢ id`.
use Rattle.std.proofs.Common.{◌≡◌, ◌≢◌, ℕ, zero, suc, ◌+◌, ◌%◌, ◌^◌, ◌⊎◌, eqb, List, [], ◌∷◌, ◌++◌, length, set, All, slice_get, sym, refl, ap, subst, ◌∙◌, inl, inr, ⊎_elim, Option, Some, None, arith, append_assoc, append-nil}
use Rattle.std.proofs.lemmas.Option.{slice_get_within}
use Rattle.std.proofs.lemmas.List.Elements.{All-weaker}
use mathlib.Core.Option.{some, some-injective, some-ne-none}
use mathlib.Core.Option as maybe
use lib.ListN.{get_elem?}
use Rattle.atomic_table.specs.Table.{State}
use Rattle.atomic_table.proofs.Lists.{at_set}
use Rattle.desk.specs.declared.views.Terms.{Terms}
use Rattle.desk.specs.declared.views.Phase.TheVariants.{Idle, Serves}
use Rattle.desk.specs.declared.views.View.{View}
use Rattle.desk.specs.Calls.{StandsIn}
use Rattle.desk.specs.Views.{StartsWith}
use Rattle.desk.specs.Turns.{one_if, tickets, has, placed, numbered, AreTickets, left_in, Knows, AtHome, IsOut, IsServed, Stands}
use Rattle.desk.proofs.Sums.{sum-same, sum-two, below-small, is-yes}

pub there : {X : Type 0} (xs : List X) (i : ℕ) (x y : X) → get_elem? xs i ≡ some x → get_elem? (set xs i y) i ≡ some y
there [] i x y e = absurd (some-ne-none x (sym e))
there (z ∷ xs) zero x y e = refl
there (z ∷ xs) (suc i) x y e = there xs i x y e

abbrev terms_or : {E G : Type 0} → Terms E G → Option (Terms E G) → Terms E G
terms_or other None = other
terms_or other (Some terms) = terms

-- a view was told one thing
pub only_told : {E G : Type 0} (told : Option (Terms E G)) (terms other : Terms E G) → told ≡ Some terms → told ≡ Some other → other ≡ terms
only_told told terms other e e' = let both : Some other ≡ Some terms = sym e' ∙ e in ap (terms_or terms) both

-- what holds of the view that is put in, and of each other one as it was, holds of each
pub put : {X : Type 0} (P : ℕ → X → Type 0) (xs : List X) (i : ℕ) (y : X) → P i y → ((j : ℕ) (x : X) → j ≢ i → get_elem? xs j ≡ some x → P j x)
    → (j : ℕ) (x : X) → get_elem? (set xs i y) j ≡ some x → P j x
put {X} P xs i y mine others j x e = ⊎_elim (λ (t : (j ≡ i) × (y ≡ x)). subst (λ (p : ℕ × X). P p.0 p.1) (λ k. (sym t.0 k, t.1 k)) mine)
    (λ (t : (j ≢ i) × (get_elem? xs j ≡ some x)). others j x t.0 t.1) (at_set xs i j y x e)

-- the same of views that are served
pub put_served : {E G : Type 0} (P : View E G → ℕ → ℕ → Type 0) (xs : List (View E G)) (i : ℕ) (w : View E G) → ((ticket room : ℕ) → w.phase ≡ Serves ticket room → P w ticket room)
    → ((j : ℕ) (u : View E G) (ticket room : ℕ) → j ≢ i → get_elem? xs j ≡ some u → u.phase ≡ Serves ticket room → P u ticket room)
    → (j : ℕ) (u : View E G) (ticket room : ℕ) → get_elem? (set xs i w) j ≡ some u → u.phase ≡ Serves ticket room → P u ticket room
put_served {E} {G} P xs i w mine others j u ticket room at =
    put (λ _ (x : View E G). (ticket room : ℕ) → x.phase ≡ Serves ticket room → P x ticket room) xs i w mine (λ j x other at' ticket room. others j x ticket room other at') j u at ticket room

pub get_longer : {E : Type 0} (xs ys : List E) (i : ℕ) (x : E) → slice_get xs i ≡ Some x → slice_get (xs ++ ys) i ≡ Some x
get_longer [] ys i x e = absurd (omega (arith, slice_get_within [] i x e))
get_longer (z ∷ xs) ys zero x e = e
get_longer (z ∷ xs) ys (suc i) x e = get_longer xs ys i x e

pub get_last : {E : Type 0} (xs : List E) (x : E) → slice_get (xs ++ x ∷ []) (length xs) ≡ Some x
get_last [] x = refl
get_last (z ∷ xs) x = get_last xs x

pub starts_longer : {E : Type 0} (xs ys zs : List E) → StartsWith xs zs → StartsWith (xs ++ ys) zs
starts_longer xs ys zs h = (h.0 ++ ys, ap (λ l. l ++ ys) h.1 ∙ append_assoc zs h.0 ys)

pub starts_itself : {E : Type 0} (xs ys : List E) → xs ≡ ys → StartsWith xs ys
starts_itself xs ys e = ([], e ∙ sym (append-nil ys))

module _ {E G : Type 0} where
  pub idle_has : (ticket : ℕ) (view : View E G) → view.phase ≡ Idle → has ticket view.phase ≡ 0
  idle_has ticket view e = ap (has ticket) e

  pub idle_tickets : (view : View E G) → view.phase ≡ Idle → tickets view.phase ≡ 0
  idle_tickets view e = ap tickets e

  -- a longer history
  pub knows_longer : (terms : Terms E G) (news : List E) (entry : E) (view : View E G) → Knows terms news view → Knows terms (news ++ entry ∷ []) view
  knows_longer terms news entry view k = let longer = sym (append_assoc terms.start news (entry ∷ [])) in record {
    seen = subst (λ l. StartsWith l view.seen) (sym longer) (starts_longer (terms.start ++ news) (entry ∷ []) view.seen k.seen);
    beside = All-weaker (StartsWith (terms.start ++ news)) (StartsWith (terms.start ++ (news ++ entry ∷ []))) (λ l h. subst (λ m. StartsWith m l) (sym longer) (starts_longer (terms.start ++ news) (entry ∷ []) l h)) view.beside k.beside;
    stand = All-weaker (λ share. All (StandsIn news) share.mine) (λ share. All (StandsIn (news ++ entry ∷ [])) share.mine)
        (λ share. All-weaker (StandsIn news) (StandsIn (news ++ entry ∷ [])) (λ call. get_longer news (entry ∷ []) call.place call.entry) share.mine) view.shares k.stand;
    rising = k.rising;
    entitled = k.entitled;
    lonely = k.lonely;
  }

module _ {K E G : Type 0} (listed : K → List E) (spare : K → ℕ) (tag : K → G) (terms : Terms E G) where
  abbrev V : Type 0
  V = View E G

  abbrev St : Type 0
  St = State (Option K) V

  abbrev Homes : Type 0
  Homes = List (maybe.Option (Option K))

  abbrev Rule : St → Type 0
  Rule = Stands listed spare tag terms

  -- a view that has the served ticket is the only one: no other view is served
  pub only : (s : St) (r : Rule s) (id : ℕ) (v : V) → get_elem? s.views id ≡ some v → has r.front v.phase ≡ 1
      → (j : ℕ) (u : V) (ticket room : ℕ) → j ≢ id → get_elem? s.views j ≡ some u → u.phase ≡ Serves ticket room → ⊥
  only s r id v at mine j u ticket room other at' serves =
      let f : V → ℕ = λ view. has r.front view.phase in
      let theirs : f u ≡ 1 = ap (has r.front) serves ∙ (ap (λ t. one_if (eqb t r.front)) (r.served j u ticket room at' serves).served ∙ is-yes r.front) in
      let two = sum-two f s.views j id u v other at' at in let each = r.tickets.each r.front in let small = below-small r.front r.next in omega (arith, two, theirs, mine, each, small)

  -- a step of a seat that changes neither its shares nor how many turns it has left
  pub moves : (s : St) (r : Rule s) (id : ℕ) (v w : V) (words' : List ℕ) (homes' : Homes) (front' next' : ℕ) → get_elem? s.views id ≡ some v → w.shares ≡ v.shares → w.left ≡ v.left
      → words' ≡ (next' % 2 ^ 64) ∷ (front' % 2 ^ 64) ∷ length r.news ∷ [] → AreTickets front' next' (set s.views id w)
      → (AtHome listed spare tag terms r.news homes' (set s.views id w) ⊎ IsOut homes' (set s.views id w))
      → ((j : ℕ) (u : V) (ticket room : ℕ) → get_elem? (set s.views id w) j ≡ some u → u.phase ≡ Serves ticket room → IsServed terms r.news front' homes' (set s.views id w) u ticket room)
      → Knows terms r.news w → Rule record { words = words'; homes = homes'; views = set s.views id w }
  moves s r id v w words' homes' front' next' at shares left words drawn slot served known = record {
    news = r.news;
    front = front';
    next = next';
    words = words;
    tickets = drawn;
    slot = slot;
    served = served;
    knows = put (λ _ u. Knows terms r.news u) s.views id w known (λ j u _ e. r.knows j u e);
    places = λ place. sum-same (λ view. placed place view.shares) s.views id v w at (ap (placed place) shares) ∙ r.places place;
    numbers = record {
      each = λ number h. sum-same (λ view. numbered number view.shares) s.views id v w at (ap (numbered number) shares) ∙ r.numbers.each number h;
      all = sum-same (λ view. length view.shares) s.views id v w at (ap (λ l. length l) shares) ∙ r.numbers.all;
    };
    budget = ap (λ n. n + length r.news) (sum-same (λ view. view.left) s.views id v w at left) ∙ r.budget;
  }

  -- the slot stays as it is where all views together have as many turns left, and the served view stays
  pub slot_stays : (s : St) (r : Rule s) (views' : List V) → left_in views' ≡ left_in s.views
      → ((j : ℕ) (u : V) (ticket room : ℕ) → get_elem? s.views j ≡ some u → u.phase ≡ Serves ticket room → get_elem? views' j ≡ some u)
      → AtHome listed spare tag terms r.news s.homes views' ⊎ IsOut s.homes views'
  slot_stays s r views' same stays = ⊎_elim
      (λ (h : AtHome listed spare tag terms r.news s.homes s.views). inl (record { kept = h.kept; home = h.home; whole = h.whole; tagged = h.tagged; room = let m = h.room in omega (arith, m, same) }))
      (λ (o : IsOut s.homes s.views). inr (record { away = o.away; holder = o.holder; view = o.view; ticket = o.ticket; room = o.room; there = stays o.holder o.view o.ticket o.room o.there o.serves; serves = o.serves }))
      r.slot

  pub served_stays : (s : St) (r : Rule s) (views' : List V) → left_in views' ≡ left_in s.views
      → (j : ℕ) (u : V) (ticket room : ℕ) → get_elem? s.views j ≡ some u → u.phase ≡ Serves ticket room → IsServed terms r.news r.front s.homes views' u ticket room
  served_stays s r views' same j u ticket room at serves = let i = r.served j u ticket room at serves in
      record { served = i.served; away = i.away; seen = i.seen; roomy = let m = i.roomy in omega (arith, m, same) }
