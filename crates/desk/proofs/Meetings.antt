-- What is cut in two, taken in, learned, made and given back keeps the rule of the table.
-- Seats that are cut in two or joined: all views together have what they had (`regrouped`).
use Rattle.std.proofs.Common.{◌≡◌, ◌≢◌, ℕ, zero, suc, ◌+◌, ◌*◌, ◌≤◌, eqb, List, [], ◌∷◌, ◌++◌, map, length, set, All, sum_by, sym, refl, ap, subst, ◌∙◌, inl, ⊎_elim, Option, Some, arith, length-append, add-mul, append-nil, suc-mul}
use Rattle.std.specs.List.{range_with_len}
use Rattle.std.proofs.lemmas.List.Elements.{All-nil, All-push, All-append, All-map}
use Rattle.std.proofs.lemmas.List.Sums.{sum_by-cons, sum_by-append}
use Rattle.std.proofs.lemmas.List.FromFn.{length-map-range_with_len}
use mathlib.Core.Option.{some, none, some-injective, some-ne-none}
use lib.ListN.{get_elem?}
use lib.Seq.{set-get_or}
use Rattle.atomic_table.specs.Table.{State, Me, keeps, step, Allows, Splits, Joins, opening}
use Rattle.atomic_table.proofs.Lists.{set_else, at_snoc, at_longer}
use Rattle.desk.specs.declared.calls.Call.{Call}
use Rattle.desk.specs.declared.views.Terms.{Terms}
use Rattle.desk.specs.declared.views.Phase.TheVariants.{Idle, Serves}
use Rattle.desk.specs.declared.views.Share.{Share}
use Rattle.desk.specs.declared.views.View.{View}
use Rattle.desk.specs.Calls.{StandsIn, IsRising, times, AreCallsOf}
use Rattle.desk.specs.Views.{StartsWith}
use Rattle.desk.specs.Turns.{below, one_if, tickets, has, made, placed, numbered, left_in, Knows, AtHome, IsOut, IsServed, Stands, blank_share, blank_shares, maker, spent}
use Rattle.desk.specs.Plays.{learned, turns_told, first_of, others_of, without_first, with_first, note_of, taken_in}
use Rattle.desk.proofs.Sums.{sum-same, sum-two, sum-split, sum-join, sum-alone, sum-map, below-yes, below-no, below-next}
use Rattle.desk.proofs.Keeps.{put, put_served, starts_itself, moves, slot_stays, served_stays}

-- none of these shares has a call
module _ (E : Type 0) where
  pub blank_numbered : (number first count : ℕ) → numbered {E = E} number (blank_shares first count) + below number first ≡ below number (first + count)
  blank_numbered number first zero = let e : below number (first + 0) ≡ below number first = ap (below number) (omega arith) in omega (arith, e)
  blank_numbered number first (suc count) =
      let h = blank_numbered number (first + 1) count in
      let p = sum_by-cons (λ (x : Share E). one_if (eqb x.number number)) (blank_share first) (blank_shares (first + 1) count) in
      let b = below-next number first in
      let e : below number (first + suc count) ≡ below number (first + 1 + count) = ap (below number) (omega arith) in
      omega (arith, h, p, b, e)

  pub blank_placed : (place first count : ℕ) → placed {E = E} place (blank_shares first count) ≡ 0
  blank_placed place first zero = refl
  blank_placed place first (suc count) = let h = blank_placed place (first + 1) count in let p = sum_by-cons (λ (x : Share E). times place x.mine) (blank_share first) (blank_shares (first + 1) count) in omega (arith, h, p)

  pub blank_made : (first count : ℕ) → made {E = E} (blank_shares first count) ≡ 0
  blank_made first zero = refl
  blank_made first (suc count) = let h = blank_made (first + 1) count in let p = sum_by-cons (λ (x : Share E). length x.mine) (blank_share first) (blank_shares (first + 1) count) in omega (arith, h, p)

  pub blank_length : (first count : ℕ) → length (blank_shares {E = E} first count) ≡ count
  blank_length first count = length-map-range_with_len blank_share first count

  pub blank_stand : (news : List E) (first count : ℕ) → All (λ (share : Share E). All (StandsIn news) share.mine) (blank_shares first count)
  blank_stand news first count = All-map (λ (share : Share E). All (StandsIn news) share.mine) blank_share (range_with_len first count) (λ k d l. All-nil (StandsIn news))

  pub blank_rising : (first count : ℕ) → All (λ (share : Share E). IsRising share.mine) (blank_shares first count)
  blank_rising first count = All-map (λ (share : Share E). IsRising share.mine) blank_share (range_with_len first count) (λ k d l i j e a b. absurd (omega arith))

module _ {E G : Type 0} where
  -- what two views have together is what a third one has
  pub record Adds (one other both : View E G) : Type 0 where
    pub held : (ticket : ℕ) → has ticket one.phase + has ticket other.phase ≡ has ticket both.phase
    pub drawn : tickets one.phase + tickets other.phase ≡ tickets both.phase
    pub left_of : one.left + other.left ≡ both.left
    pub placing : (place : ℕ) → placed place one.shares + placed place other.shares ≡ placed place both.shares
    pub numbering : (number : ℕ) → numbered number one.shares + numbered number other.shares ≡ numbered number both.shares
    pub many : length one.shares + length other.shares ≡ length both.shares

  -- all views together have the same
  pub record SameSums (vs ws : List (View E G)) : Type 0 where
    pub held : (ticket : ℕ) → sum_by (λ (view : View E G). has ticket view.phase) vs ≡ sum_by (λ (view : View E G). has ticket view.phase) ws
    pub drawn : sum_by (λ (view : View E G). tickets view.phase) vs ≡ sum_by (λ (view : View E G). tickets view.phase) ws
    pub left_of : left_in vs ≡ left_in ws
    pub placing : (place : ℕ) → sum_by (λ (view : View E G). placed place view.shares) vs ≡ sum_by (λ (view : View E G). placed place view.shares) ws
    pub numbering : (number : ℕ) → sum_by (λ (view : View E G). numbered number view.shares) vs ≡ sum_by (λ (view : View E G). numbered number view.shares) ws
    pub many : sum_by (λ (view : View E G). length view.shares) vs ≡ sum_by (λ (view : View E G). length view.shares) ws

  split_sums : (vs : List (View E G)) (id : ℕ) (v left right : View E G) → get_elem? vs id ≡ some v → Adds left right v → SameSums (set vs id left ++ right ∷ []) vs
  split_sums vs id v left right at adds = record {
    held = λ t. sum-split (λ (view : View E G). has t view.phase) vs id v left right at (adds.held t);
    drawn = sum-split (λ (view : View E G). tickets view.phase) vs id v left right at adds.drawn;
    left_of = sum-split (λ (view : View E G). view.left) vs id v left right at adds.left_of;
    placing = λ p. sum-split (λ (view : View E G). placed p view.shares) vs id v left right at (adds.placing p);
    numbering = λ n. sum-split (λ (view : View E G). numbered n view.shares) vs id v left right at (adds.numbering n);
    many = sum-split (λ (view : View E G). length view.shares) vs id v left right at adds.many;
  }

  join_sums : (vs : List (View E G)) (id other : ℕ) (v w both : View E G) → get_elem? vs id ≡ some v → get_elem? (set vs id both) other ≡ some w → Adds v w both → SameSums (set (set vs id both) other spent) vs
  join_sums vs id other v w both at at' adds = record {
    held = λ t. sum-join (λ (view : View E G). has t view.phase) vs id other v w both spent at at' (sym (adds.held t)) refl;
    drawn = sum-join (λ (view : View E G). tickets view.phase) vs id other v w both spent at at' (sym adds.drawn) refl;
    left_of = sum-join (λ (view : View E G). view.left) vs id other v w both spent at at' (sym adds.left_of) refl;
    placing = λ p. sum-join (λ (view : View E G). placed p view.shares) vs id other v w both spent at at' (sym (adds.placing p)) refl;
    numbering = λ n. sum-join (λ (view : View E G). numbered n view.shares) vs id other v w both spent at at' (sym (adds.numbering n)) refl;
    many = sum-join (λ (view : View E G). length view.shares) vs id other v w both spent at at' (sym adds.many) refl;
  }

module _ {K E G : Type 0} (listed : K → List E) (spare : K → ℕ) (tag : K → G) (terms : Terms E G) where
  abbrev V : Type 0
  V = View E G

  abbrev St : Type 0
  St = State (Option K) V

  abbrev M : Type 0
  M = Me (Option K) V

  abbrev Rule : St → Type 0
  Rule = Stands listed spare tag terms

  -- two views of which one has no ticket are not one view that is served
  apart : (vs : List V) (id j : ℕ) (v u : V) (ticket room : ℕ) → get_elem? vs id ≡ some v → v.phase ≡ Idle → get_elem? vs j ≡ some u → u.phase ≡ Serves ticket room → j ≢ id
  apart vs id j v u ticket room at idle at' serves e = absurd (let both : some u ≡ some v = sym at' ∙ ap (get_elem? vs) e ∙ at in let p : Serves ticket room ≡ Idle = sym serves ∙ ap (λ (x : V). x.phase) (some-injective u v both) ∙ idle in cc)

  -- the same history under other views, which together have what they had
  regrouped : (s : St) (r : Rule s) (vs : List V) → SameSums vs s.views → ((j : ℕ) (u : V) → get_elem? vs j ≡ some u → Knows terms r.news u)
      → ((j : ℕ) (u : V) (ticket room : ℕ) → get_elem? s.views j ≡ some u → u.phase ≡ Serves ticket room → get_elem? vs j ≡ some u)
      → ((j : ℕ) (u : V) (ticket room : ℕ) → get_elem? vs j ≡ some u → u.phase ≡ Serves ticket room → get_elem? s.views j ≡ some u)
      → Rule record { words = s.words; homes = s.homes; views = vs }
  regrouped s r vs same knows to from = record {
    news = r.news;
    front = r.front;
    next = r.next;
    words = r.words;
    tickets = record {
      each = λ t. let h = same.held t in let e = r.tickets.each t in omega (arith, h, e);
      all = let h = same.drawn in let e = r.tickets.all in omega (arith, h, e);
    };
    slot = slot_stays listed spare tag terms s r vs same.left_of to;
    served = λ j u ticket room e serves. served_stays listed spare tag terms s r vs same.left_of j u ticket room (from j u ticket room e serves) serves;
    knows = knows;
    places = λ place. same.placing place ∙ r.places place;
    numbers = record {
      each = λ number h. same.numbering number ∙ r.numbers.each number h;
      all = same.many ∙ r.numbers.all;
    };
    budget = let h = same.left_of in let b = r.budget in omega (arith, h, b);
  }

  -- a seat without a ticket cuts its view in two
  pub splits : (id : ℕ) (v left right : V) → v.phase ≡ Idle → left.phase ≡ Idle → right.phase ≡ Idle → Adds left right v
      → ((news : List E) → Knows terms news v → Knows terms news left × Knows terms news right) → Splits Rule id v left right
  splits id v left right idle idle_left idle_right adds known s r at =
      let vs : List V = set s.views id left in
      let parts = known r.news (r.knows id v at) in
      regrouped s r (vs ++ right ∷ []) (split_sums s.views id v left right at adds)
      (λ j u e. ⊎_elim (put (λ _ x. Knows terms r.news x) s.views id left parts.0 (λ i x _ e'. r.knows i x e') j u) (λ (t : right ≡ u). subst (Knows terms r.news) t parts.1) (at_snoc vs right u j e))
      (λ j u ticket room e serves. at_longer vs (right ∷ []) j u (set_else s.views id j left (apart s.views id j v u ticket room at idle e serves) ∙ e))
      (λ j u ticket room e serves. ⊎_elim
      (λ (e' : get_elem? vs j ≡ some u). put (λ i x. x.phase ≡ Serves ticket room → get_elem? s.views i ≡ some x) s.views id left (λ p. absurd (let q : Serves ticket room ≡ Idle = sym p ∙ idle_left in cc)) (λ i x _ h _. h) j u e' serves)
      (λ (t : right ≡ u). absurd (let q : Serves ticket room ≡ Idle = sym serves ∙ (ap (λ (x : V). x.phase) (sym t) ∙ idle_right) in cc)) (at_snoc vs right u j e))

  -- a seat without a ticket takes in another one without a ticket
  pub joins : (id : ℕ) (v : V) (other : ℕ) (w : V) → v.phase ≡ Idle → w.phase ≡ Idle → Joins Rule id v other w (taken_in v w) spent
  joins id v other w idle idle' s r at ne at' =
      let both : V = taken_in v w in let vs : List V = set s.views id both in
      let there' : get_elem? s.views other ≡ some w = sym (set_else s.views id other both ne) ∙ at' in
      let adds : Adds v w both = record {
        held = λ t. let a = ap (has t) idle in let b = ap (has t) idle' in omega (arith, a, b);
        drawn = let b = ap tickets idle' in omega (arith, b);
        left_of = refl;
        placing = λ p. let h = sum_by-append (λ (x : Share E). times p x.mine) w.shares v.shares in omega (arith, h);
        numbering = λ n. let h = sum_by-append (λ (x : Share E). one_if (eqb x.number n)) w.shares v.shares in omega (arith, h);
        many = let h = length-append w.shares v.shares in omega (arith, h);
      } in
      let mine = r.knows id v at in let theirs = r.knows other w there' in
      let known : Knows terms r.news both = record {
        seen = mine.seen;
        beside = All-push (StartsWith (terms.start ++ r.news)) v.beside w.seen mine.beside theirs.seen;
        stand = All-append (λ (x : Share E). All (StandsIn r.news) x.mine) w.shares v.shares theirs.stand mine.stand;
        rising = All-append (λ (x : Share E). IsRising x.mine) w.shares v.shares theirs.rising mine.rising;
        entitled = let a = mine.entitled in let b = theirs.entitled in let m = sum_by-append (λ (x : Share E). length x.mine) w.shares v.shares in
            let n : length (w.shares ++ v.shares) * terms.turns ≡ length w.shares * terms.turns + length v.shares * terms.turns = ap (λ k. k * terms.turns) (length-append w.shares v.shares) ∙ add-mul (length w.shares) (length v.shares) terms.turns in omega (arith, a, b, m, n);
        lonely = let z = ap tickets idle in omega (arith, z);
      } in
      regrouped s r (set vs other spent) (join_sums s.views id other v w both at at' adds)
      (put (λ _ x. Knows terms r.news x) vs other spent
      (record { seen = (terms.start ++ r.news, refl); beside = All-nil (StartsWith (terms.start ++ r.news)); stand = All-nil (λ (x : Share E). All (StandsIn r.news) x.mine); rising = All-nil (λ (x : Share E). IsRising x.mine); entitled = omega arith; lonely = omega arith })
      (λ i x _ e. put (λ _ y. Knows terms r.news y) s.views id both known (λ k y _ e'. r.knows k y e') i x e))
      (λ j u ticket room e serves. set_else vs other j spent (apart s.views other j w u ticket room there' idle' e serves) ∙ (set_else s.views id j both (apart s.views id j v u ticket room at idle e serves) ∙ e))
      (λ j u ticket room e serves. put (λ i x. x.phase ≡ Serves ticket room → get_elem? s.views i ≡ some x) vs other spent (λ p. absurd cc)
      (λ i x _ e' p. put (λ k y. y.phase ≡ Serves ticket room → get_elem? s.views k ≡ some y) s.views id both (λ q. absurd (let z : Serves ticket room ≡ Idle = sym q ∙ idle in cc)) (λ k y _ h _. h) i x e' p) j u e serves)

  pub learns : (slots id : ℕ) (me : M) → me.0.phase ≡ Idle → Allows Rule slots id me 2 (λ n. n) (learned (step slots 2 0 0 none) me)
  learns slots id me idle s r deep at _ =
      let v : V = me.0 in let log : List E = terms.start ++ r.news in let w : V = record v { seen = log; beside = [] } in let vs : List V = set s.views id w in
      let same : left_in vs ≡ left_in s.views = sum-same (λ view. view.left) s.views id v w at refl in
      let known = r.knows id v at in (
        w,
        keeps,
        tt,
        moves listed spare tag terms s r id v w _ s.homes r.front r.next at refl refl (set-get_or s.words 2 0 ∙ r.words)
            (record {
              each = λ t. let h = sum-same (λ view. has t view.phase) s.views id v w at refl in let e = r.tickets.each t in omega (arith, h, e);
              all = let h = sum-same (λ view. tickets view.phase) s.views id v w at refl in let e = r.tickets.all in omega (arith, h, e);
            })
            (slot_stays listed spare tag terms s r vs same (λ j u ticket room at' serves. set_else s.views id j w (apart s.views id j v u ticket room at idle at' serves) ∙ at'))
            (put_served (IsServed terms r.news r.front s.homes vs) s.views id w
            (λ ticket room serves. absurd (let q : Serves ticket room ≡ Idle = sym serves ∙ idle in cc))
            (λ j u ticket room other at' serves. served_stays listed spare tag terms s r vs same j u ticket room at' serves))
            (record { seen = starts_itself log log refl; beside = All-nil (StartsWith log); stand = known.stand; rising = known.rising; entitled = known.entitled; lonely = known.lonely }),
        (log, refl, known.seen, known.beside),
      )

  pub starts : (kept : K) → listed kept ≡ terms.start → tag kept ≡ terms.tag → terms.passes * terms.turns ≤ spare kept → Rule (opening (0 ∷ 0 ∷ 0 ∷ []) (Some kept ∷ []) (maker terms))
  starts kept whole tagged room = let m : V = maker terms in record {
    news = [];
    front = 0;
    next = 0;
    words = refl;
    tickets = record { each = λ t. omega arith; all = omega arith };
    slot = inl (record { kept = kept; home = refl; whole = whole ∙ sym (append-nil terms.start); tagged = tagged; room = omega (arith, room) });
    served = λ j u ticket row e serves. absurd (alone_idle j u e ticket row serves);
    knows = λ j u e. subst (Knows terms []) (alone j u e) (record {
      seen = ([], refl);
      beside = All-nil (StartsWith (terms.start ++ []));
      stand = blank_stand E [] 1 terms.passes;
      rising = blank_rising E 1 terms.passes;
      entitled = let a = blank_made E 1 terms.passes in let b = ap (λ n. n * terms.turns) (blank_length E 1 terms.passes) in omega (arith, a, b);
      lonely = omega arith;
    });
    places = λ place. let a = blank_placed E place 1 terms.passes in let b = below-no place 0 (omega arith) in omega (arith, a, b);
    numbers = record {
      each = λ number h. let a = blank_numbered E number 1 terms.passes in let b = below-no number 1 h in let c : below number (1 + terms.passes) ≡ below number (terms.passes + 1) = ap (below number) (omega arith) in omega (arith, a, b, c);
      all = let a = blank_length E 1 terms.passes in omega (arith, a);
    };
    budget = omega arith;
  }
    where
      alone : (j : ℕ) (u : V) → get_elem? (maker terms ∷ []) j ≡ some u → maker terms ≡ u
      alone zero u e = some-injective (maker terms) u e
      alone (suc j) u e = absurd (some-ne-none u (sym e))

      alone_idle : (j : ℕ) (u : V) → get_elem? (maker terms ∷ []) j ≡ some u → (ticket row : ℕ) → u.phase ≡ Serves ticket row → ⊥
      alone_idle j u e ticket row serves = let q : Serves ticket row ≡ Idle = sym serves ∙ ap (λ (x : V). x.phase) (sym (alone j u e)) in cc

  pub notes : (id : ℕ) (v : V) → v.phase ≡ Idle → Splits Rule id v v (note_of v)
  notes id v idle = splits id v v (note_of v) idle idle refl
      (record { held = λ t. omega arith; drawn = omega arith; left_of = omega arith; placing = λ p. omega arith; numbering = λ n. omega arith; many = omega arith })
      (λ news k. (k, record { seen = k.seen; beside = All-nil (StartsWith (terms.start ++ news)); stand = All-nil (λ (x : Share E). All (StandsIn news) x.mine); rising = All-nil (λ (x : Share E). IsRising x.mine); entitled = omega arith; lonely = omega arith }))

  -- the maker's seat gives its first share away
  pub hands_over : (id : ℕ) (v : V) (first count : ℕ) → v.phase ≡ Idle → v.terms ≡ Some terms → v.shares ≡ blank_shares first (suc count) → v.left ≡ suc count * terms.turns
      → Splits Rule id v (without_first v) (with_first v)
  hands_over id v first count idle told shares left =
      let turns : turns_told v.terms ≡ terms.turns = ap turns_told told in
      let others : others_of v.shares ≡ blank_shares (first + 1) count = ap others_of shares in
      let one : first_of v.shares ≡ blank_share first ∷ [] = ap first_of shares in
      let much : suc count * terms.turns ≡ count * terms.turns + terms.turns = suc-mul count terms.turns in
      let l : v.left ≡ count * terms.turns + terms.turns = left ∙ much in
      splits id v (without_first v) (with_first v) idle idle idle
      (record {
        held = λ t. let z = ap (has t) idle in omega (arith, z);
        drawn = let z = ap tickets idle in omega (arith, z);
        left_of = omega (arith, l, turns);
        placing = λ p. let a = ap (placed p) others in let b = ap (placed p) one in let c = ap (placed p) shares in let d = sum_by-cons (λ (x : Share E). times p x.mine) (blank_share first) (blank_shares (first + 1) count) in omega (arith, a, b, c, d);
        numbering = λ n. let a = ap (numbered n) others in let b = ap (numbered n) one in let c = ap (numbered n) shares in let d = sum_by-cons (λ (x : Share E). one_if (eqb x.number n)) (blank_share first) (blank_shares (first + 1) count) in omega (arith, a, b, c, d);
        many = let a = ap (λ (x : List (Share E)). length x) others in let b = ap (λ (x : List (Share E)). length x) one in let c = ap (λ (x : List (Share E)). length x) shares in omega (arith, a, b, c);
      })
      (λ news k. (
        record {
          seen = k.seen;
          beside = k.beside;
          stand = subst (All (λ (x : Share E). All (StandsIn news) x.mine)) (sym others) (blank_stand E news (first + 1) count);
          rising = subst (All (λ (x : Share E). IsRising x.mine)) (sym others) (blank_rising E (first + 1) count);
          entitled = let a = ap made others in let b = blank_made E (first + 1) count in
              let c : length (others_of v.shares) * terms.turns ≡ count * terms.turns = ap (λ (x : List (Share E)). length x * terms.turns) others ∙ ap (λ n. n * terms.turns) (blank_length E (first + 1) count) in omega (arith, a, b, c, l, turns);
          lonely = let z = ap tickets idle in omega (arith, z);
        },
        record {
          seen = k.seen;
          beside = k.beside;
          stand = subst (All (λ (x : Share E). All (StandsIn news) x.mine)) (sym one) (blank_stand E news first 1);
          rising = subst (All (λ (x : Share E). IsRising x.mine)) (sym one) (blank_rising E first 1);
          entitled = let a = ap made one in let c : length (first_of v.shares) * terms.turns ≡ terms.turns = ap (λ (x : List (Share E)). length x * terms.turns) one ∙ omega arith in omega (arith, a, c, turns);
          lonely = let z = ap tickets idle in omega (arith, z);
        },
      ))

  -- a seat that has all pass numbers: the value is at home, and the calls of its shares are the whole history since the making
  pub whole : (s : St) (r : Rule s) (id : ℕ) (v : V) → get_elem? s.views id ≡ some v → v.phase ≡ Idle → terms.passes ≤ length v.shares
      → AtHome listed spare tag terms r.news s.homes s.views × AreCallsOf r.news (map (λ (share : Share E). share.mine) v.shares)
  whole s r id v at idle all =
      let known = r.knows id v at in
      let f : V → ℕ = λ view. length view.shares in
      let none_else : (j : ℕ) (u : V) → j ≢ id → get_elem? s.views j ≡ some u → length u.shares ≡ 0 = λ j u ne at'. let h = sum-two f s.views j id u v ne at' at in let n = r.numbers.all in omega (arith, h, n, all) in (
        ⊎_elim (λ h. h) (λ (o : IsOut s.homes s.views). absurd (
            let ne = apart s.views id o.holder v o.view o.ticket o.room at idle o.there o.serves in
            let e = none_else o.holder o.view ne o.there in let l = (r.knows o.holder o.view o.there).lonely in let z = ap tickets o.serves in omega (arith, e, l, z))) r.slot,
        record {
          stand = All-map (λ (calls : List (Call E)). All (StandsIn r.news) calls) (λ (share : Share E). share.mine) v.shares known.stand;
          once = λ place within.
              let g : V → ℕ = λ view. placed place view.shares in
              let a = sum-alone g s.views id v at (λ j u ne at'. nothing_placed place u.shares (none_else j u ne at')) in
              let b = r.places place in let c = below-yes place (length r.news) within in
              let d = sum-map (times place) (λ (share : Share E). share.mine) v.shares in omega (arith, a, b, c, d);
          rising = All-map IsRising (λ (share : Share E). share.mine) v.shares known.rising;
        },
      )
    where
      nothing_placed : (place : ℕ) (shares : List (Share E)) → length shares ≡ 0 → placed place shares ≡ 0
      nothing_placed place [] e = refl
      nothing_placed place (share ∷ shares) e = absurd (omega arith)
