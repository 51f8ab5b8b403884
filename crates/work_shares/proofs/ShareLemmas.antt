-- Shares of a list with one more item, and how many items a share has.
use Rattle.std.proofs.Common.{◌≡◌, ◌∙◌, ◌⊎◌, inl, inr, ℕ, zero, suc, ◌+◌, ◌*◌, ◌%◌, ◌<◌, ◌≤◌, Bool, true, false, List, [], ◌∷◌, ◌++◌, length, map, reverse, slice_index_or, slice_set, All, append_assoc, refl, sym, ap, subst, arith}
use Rattle.std.proofs.lemmas.Bool.{false≢true}
use Rattle.std.proofs.lemmas.Bool.Decides.{Decides-eqb}
use Rattle.std.proofs.lemmas.Grind.{div_ceil_times}
use Rattle.std.proofs.lemmas.Nat.{mod-mul-add, mul-le}
use Rattle.std.proofs.lemmas.List.{get_or-map, get_or-set_other, get_or-set_same, length-append, length-reverse, reverse-append}
use Rattle.std.specs.Prelude.{◌==◌, if◌then◌else◌}
use Rattle.work_shares.specs.Shares.{rounds, share, share_from}

module _ {X : Type 0} (n w : ℕ) where
  -- where the last item is put, and where the first one
  both_put : (first last : Bool) (y x : X) (ys : List X)
      → (if first then y ∷ (if last then ys ++ x ∷ [] else ys) else (if last then ys ++ x ∷ [] else ys))
      ≡ (if last then (if first then y ∷ ys else ys) ++ x ∷ [] else (if first then y ∷ ys else ys))
  both_put true true y x ys = refl
  both_put true false y x ys = refl
  both_put false true y x ys = refl
  both_put false false y x ys = refl

  -- one more item is in the share if its place is
  pub share_from-snoc : (at : ℕ) (xs : List X) (x : X)
      → share_from n w at (xs ++ x ∷ [])
      ≡ (if (at + length xs) % n == w then share_from n w at xs ++ x ∷ [] else share_from n w at xs)
  share_from-snoc at [] x = ap (λ m. if m % n == w then x ∷ [] else []) (let e : at ≡ at + length {A = X} [] = omega arith in e)
  share_from-snoc at (y ∷ xs) x =
      let ys = share_from n w (at + 1) xs in
      let same : (at + 1) + length xs ≡ at + length (y ∷ xs) = omega arith in
      ap (λ rest. if at % n == w then y ∷ rest else rest) (share_from-snoc (at + 1) xs x)
      ∙ both_put (at % n == w) (((at + 1) + length xs) % n == w) y x ys
      ∙ ap (λ m. if m % n == w then (if at % n == w then y ∷ ys else ys) ++ x ∷ [] else (if at % n == w then y ∷ ys else ys)) same

  pub share-snoc : (xs : List X) (x : X)
      → share n w (xs ++ x ∷ []) ≡ (if length xs % n == w then share n w xs ++ x ∷ [] else share n w xs)
  share-snoc xs x =
      share_from-snoc 0 xs x
      ∙ ap (λ m. if m % n == w then share n w xs ++ x ∷ [] else share n w xs) (let e : 0 + length xs ≡ length xs = omega arith in e)

module _ {X : Type 0} where
  -- no hand has anything
  pub none_yet : {Y : Type 0} (items : Y → List X) (hands : List Y) → All (λ hand. items hand ≡ []) hands → (w : ℕ) → w < length hands
      → slice_index_or (map items hands) w [] ≡ []
  none_yet items [] empty w less = absurd (omega (arith, less))
  none_yet items (hand ∷ hands) empty w less = get_or-map items (hand ∷ hands) w hand [] less ∙ empty w hand less

  module _ (n : ℕ) (hands : List (List X)) (rest : List X) (x : X) (at w : ℕ) (is : at ≡ length rest % n) (within : at < length hands) where
    abbrev more : List X
    more = slice_index_or hands at [] ++ x ∷ []

    -- the last item goes to the hand of its place, and no other hand changes
    put_by : (here : Bool) → (at == w) ≡ here
        → slice_index_or hands w [] ++ reverse (share n w (rest ++ x ∷ [])) ≡ slice_index_or (slice_set hands at more) w [] ++ reverse (share n w rest)
    put_by true here =
        let same : at ≡ w = (Decides-eqb at w).0 here in
        let ours = share n w rest in
        ap (λ list. slice_index_or hands w [] ++ reverse list)
        (share-snoc n w rest x ∙ ap (λ b. if b then ours ++ x ∷ [] else ours) (ap (λ m. m == w) (sym is) ∙ here))
        ∙ ap (λ list. slice_index_or hands w [] ++ list) (reverse-append ours (x ∷ []))
        ∙ sym (append_assoc (slice_index_or hands w []) (x ∷ []) (reverse ours))
        ∙ ap (λ list. list ++ reverse ours)
        (sym (subst (λ v. slice_index_or (slice_set hands at more) v [] ≡ slice_index_or hands v [] ++ x ∷ []) same
        (get_or-set_same hands at more [] within)))
    put_by false here =
        let ours = share n w rest in
        ap (λ list. slice_index_or hands w [] ++ reverse list)
        (share-snoc n w rest x ∙ ap (λ b. if b then ours ++ x ∷ [] else ours) (ap (λ m. m == w) (sym is) ∙ here))
        ∙ ap (λ list. list ++ reverse ours)
        (sym (get_or-set_other hands at w more [] (λ same. false≢true (sym here ∙ (Decides-eqb at w).1 (sym same)))))

    pub put_at : slice_index_or hands w [] ++ reverse (share n w (rest ++ x ∷ []))
        ≡ slice_index_or (slice_set hands at (slice_index_or hands at [] ++ x ∷ [])) w [] ++ reverse (share n w rest)
    put_at = put_by (at == w) refl

  -- the hand to which the last item goes has not yet all of its share
  pub has_place : (n : ℕ) (hand rest : List X) (x : X) (at : ℕ) (all : List X) → at ≡ length rest % n
      → reverse all ≡ hand ++ reverse (share n at (rest ++ x ∷ [])) → length hand < length all
  has_place n hand rest x at all is dealt =
      let ours = share n at rest in
      let shared : share n at (rest ++ x ∷ []) ≡ ours ++ x ∷ []
      = share-snoc n at rest x ∙ ap (λ b. if b then ours ++ x ∷ [] else ours) ((Decides-eqb (length rest % n) at).1 (sym is)) in
      omega (
        arith,
        length-reverse all,
        ap length dealt,
        length-append hand (reverse (share n at (rest ++ x ∷ []))),
        length-reverse (share n at (rest ++ x ∷ [])),
        ap length shared,
        length-append ours (x ∷ []),
      )

  -- a list with an item has a last one
  pub last_of : (list : List X) (m : ℕ) → length list ≡ suc m → (front : List X) × (x : X) × (list ≡ front ++ x ∷ []) × (length front ≡ m)
  last_of [] m is = absurd (omega (arith, is))
  last_of (x ∷ []) m is = ([], x, refl, omega (arith, is))
  last_of (x ∷ y ∷ list) zero is = absurd (omega (arith, is))
  last_of (x ∷ y ∷ list) (suc m) is =
      let rest = last_of (y ∷ list) m (omega (arith, is)) in
      (x ∷ rest.0, rest.1, ap (λ l. x ∷ l) rest.2, omega (arith, rest.3))

  -- the last item is taken from a hand
  module _ (n : ℕ) (hands : List (List X)) (at : ℕ) (before : List X) (item : X) (had : slice_index_or hands at [] ≡ before ++ item ∷ [])
      (within : at < length hands) where
    abbrev left : List (List X)
    left = slice_set hands at before

    -- a list of which the hands have the shares then had that item at its end
    pub back_put : (list : List X) → at ≡ length list % n → ((w : ℕ) → w < n → share n w list ≡ slice_index_or left w [])
        → (w : ℕ) → w < n → share n w (list ++ item ∷ []) ≡ slice_index_or hands w []
    back_put list is each w less = by (at == w) refl
      where
        by : (here : Bool) → (at == w) ≡ here → share n w (list ++ item ∷ []) ≡ slice_index_or hands w []
        by true here =
            let same : at ≡ w = (Decides-eqb at w).0 here in
            share-snoc n w list item ∙ ap (λ b. if b then share n w list ++ item ∷ [] else share n w list) (ap (λ m. m == w) (sym is) ∙ here)
            ∙ ap (λ l. l ++ item ∷ [])
            (each w less ∙ subst (λ v. slice_index_or left v [] ≡ before) same (get_or-set_same hands at before [] within))
            ∙ sym had ∙ ap (λ v. slice_index_or hands v []) same
        by false here =
            share-snoc n w list item ∙ ap (λ b. if b then share n w list ++ item ∷ [] else share n w list) (ap (λ m. m == w) (sym is) ∙ here)
            ∙ each w less ∙ get_or-set_other hands at w before [] (λ same. false≢true (sym here ∙ (Decides-eqb at w).1 (sym same)))

    -- and each hand has as many as its share of a list with one item less
    pub one_less : (front : List X) (x : X) → at ≡ length front % n
        → ((w : ℕ) → w < n → length (slice_index_or hands w []) ≡ length (share n w (front ++ x ∷ [])))
        → (w : ℕ) → w < n → length (slice_index_or left w []) ≡ length (share n w front)
    one_less front x is each w less = by (at == w) refl
      where
        by : (here : Bool) → (at == w) ≡ here → length (slice_index_or left w []) ≡ length (share n w front)
        by true here =
            let same : at ≡ w = (Decides-eqb at w).0 here in
            let shared : share n w (front ++ x ∷ []) ≡ share n w front ++ x ∷ []
            = share-snoc n w front x ∙ ap (λ b. if b then share n w front ++ x ∷ [] else share n w front) (ap (λ m. m == w) (sym is) ∙ here) in
            let now : slice_index_or left w [] ≡ before = subst (λ v. slice_index_or left v [] ≡ before) same (get_or-set_same hands at before [] within) in
            let were : slice_index_or hands w [] ≡ before ++ item ∷ [] = subst (λ v. slice_index_or hands v [] ≡ before ++ item ∷ []) same had in
            omega (
              arith,
              ap length now,
              ap length were,
              length-append before (item ∷ []),
              each w less,
              ap length shared,
              length-append (share n w front) (x ∷ []),
            )
        by false here =
            ap length (get_or-set_other hands at w before [] (λ same. false≢true (sym here ∙ (Decides-eqb at w).1 (sym same))))
            ∙ each w less
            ∙ ap length
            (share-snoc n w front x ∙ ap (λ b. if b then share n w front ++ x ∷ [] else share n w front) (ap (λ m. m == w) (sym is) ∙ here))

  -- the hand at whose place the last item is has one
  pub has_one : (n : ℕ) (hand front : List X) (x : X) (at : ℕ) → at ≡ length front % n → length hand ≡ length (share n at (front ++ x ∷ []))
      → 0 < length hand
  has_one n hand front x at is same =
      let shared : share n at (front ++ x ∷ []) ≡ share n at front ++ x ∷ []
      = share-snoc n at front x ∙ ap (λ b. if b then share n at front ++ x ∷ [] else share n at front) ((Decides-eqb (length front % n) at).1 (sym is)) in
      omega (arith, same, ap length shared, length-append (share n at front) (x ∷ []))

-- ---- how many items a share has

-- one number is less than another, or not
either : (a b : ℕ) → (a < b) ⊎ (b ≤ a)
either zero zero = inr (omega arith)
either zero (suc b) = inl (omega arith)
either (suc a) zero = inr (omega arith)
either (suc a) (suc b) = elim (either a b) [
  | inl less ↦ inl (omega (arith, less))
  | inr more ↦ inr (omega (arith, more))
]

counted : {X : Type 0} (here : Bool) (x : X) (rest : List X) → length (if here then x ∷ rest else rest) ≡ (if here then suc (length rest) else length rest)
counted true x rest = refl
counted false x rest = refl

module _ (n w : ℕ) (small : w < n) where
  -- among so many rounds, in the round after q of them and at this place of it, there are at most as many places of the share as rounds
  abbrev IsFew : ℕ → ℕ → ℕ → ℕ → Type 0
  IsFew q r rounds count = (w < r → suc q + count ≤ rounds) × (r ≤ w → q + count ≤ rounds)

  none_left : (q r rounds : ℕ) → q * n + r ≤ rounds * n → IsFew q r rounds 0
  none_left q r rounds fits = by (either q rounds) (either rounds q)
    where
      by : (q < rounds) ⊎ (rounds ≤ q) → (rounds < q) ⊎ (q ≤ rounds) → IsFew q r rounds 0
      by (inl less) other = (λ _. omega (arith, less), λ _. omega (arith, less))
      by (inr same) (inl past) =
          let all = mul-le (suc rounds) n q n past (omega arith) in
          let one : suc rounds * n ≡ n + rounds * n = grind arith in
          absurd (omega (arith, all, one, fits, small))
      by (inr same) (inr within) =
          let all = mul-le rounds n q n same (omega arith) in
          (λ later. absurd (omega (arith, all, fits, later)), λ _. omega (arith, within))

  -- one place more, in the share or not, after which the next one of this round or the first one of the next round comes
  few_more : (q r rounds count rest : ℕ) (here : Bool) → (r == w) ≡ here → count ≡ (if here then suc rest else rest)
      → (suc r < n → IsFew q (suc r) rounds rest) → (n ≤ suc r → IsFew (suc q) 0 rounds rest) → (suc r < n) ⊎ (n ≤ suc r) → IsFew q r rounds count
  few_more q r rounds count rest true here is next round (inl less) =
      let same : r ≡ w = (Decides-eqb r w).0 here in
      let few = (next less).0 (omega (arith, same)) in
      (λ later. absurd (omega (arith, same, later)), λ _. omega (arith, is, few))
  few_more q r rounds count rest true here is next round (inr last) =
      let same : r ≡ w = (Decides-eqb r w).0 here in
      let few = (round last).1 (omega arith) in
      (λ later. absurd (omega (arith, same, later)), λ _. omega (arith, is, few))
  few_more q r rounds count rest false here is next round (inl less) = (
    λ later. let few = (next less).0 (omega (arith, later)) in omega (arith, is, few),
    λ before. by (either r w) before,
  )
    where
      by : (r < w) ⊎ (w ≤ r) → r ≤ w → q + count ≤ rounds
      by (inl lower) before = let few = (next less).1 (omega (arith, lower)) in omega (arith, is, few)
      by (inr above) before = absurd (false≢true (sym here ∙ (Decides-eqb r w).1 (omega (arith, above, before))))
  few_more q r rounds count rest false here is next round (inr last) = (
    λ later. let few = (round last).1 (omega arith) in omega (arith, is, few),
    λ before. by (either r w) before,
  )
    where
      by : (r < w) ⊎ (w ≤ r) → r ≤ w → q + count ≤ rounds
      by (inl lower) before = absurd (omega (arith, lower, last, small))
      by (inr above) before = absurd (false≢true (sym here ∙ (Decides-eqb r w).1 (omega (arith, above, before))))

  few_from : {X : Type 0} (xs : List X) (q r rounds : ℕ) → r < n → q * n + r + length xs ≤ rounds * n
      → IsFew q r rounds (length (share_from n w (q * n + r) xs))
  few_from [] q r rounds below fits = none_left q r rounds (omega (arith, fits))
  few_from (x ∷ xs) q r rounds below fits =
      let rest = share_from n w (q * n + r + 1) xs in
      let one : suc q * n ≡ n + q * n = grind arith in
      few_more q r rounds (length (share_from n w (q * n + r) (x ∷ xs))) (length rest) (r == w) refl
      (ap (λ m. length (if m == w then x ∷ rest else rest)) (mod-mul-add q n r below) ∙ counted (r == w) x rest)
      (λ less. subst (λ at. IsFew q (suc r) rounds (length (share_from n w at xs)))
      (let e : q * n + suc r ≡ q * n + r + 1 = omega arith in e)
      (few_from xs q (suc r) rounds less (omega (arith, fits))))
      (λ last. subst (λ at. IsFew (suc q) 0 rounds (length (share_from n w at xs)))
      (let e : suc q * n + 0 ≡ q * n + r + 1 = omega (arith, one, last, below) in e)
      (few_from xs (suc q) 0 rounds (omega (arith, small)) (omega (arith, fits, one, last, below))))
      (either (suc r) n)

  -- so of a list that has at most so many rounds, a share has at most as many items
  pub share_few : {X : Type 0} (xs : List X) (rounds : ℕ) → length xs ≤ rounds * n → length (share n w xs) ≤ rounds
  share_few xs rounds fits =
      let start : 0 * n + 0 ≡ 0 = omega arith in
      let few = (few_from xs 0 0 rounds (omega (arith, small)) (omega (arith, fits, start))).1 (omega arith) in
      omega (arith, few, ap (λ at. length (share_from n w at xs)) start)

-- so a share has at most one item of each round
pub share_in_rounds : {X : Type 0} (n w : ℕ) → w < n → (items : List X) → length (share n w items) ≤ rounds n (length items)
share_in_rounds n w small items =
    let enough = (div_ceil_times (length items) n (omega (arith, small))).0 in
    share_few n w small items (rounds n (length items)) (omega (arith, enough))

-- hands that each have room for so many rounds have room for their shares
pub rooms_do : {X Y : Type 0} (n count : ℕ) (room : Y → ℕ) (hands : List Y) (w : ℕ) → w < n → w < length hands → (items : List X) → length items ≡ count
    → All (λ hand. rounds n count ≤ room hand) hands → length (share n w items) ≤ slice_index_or (map room hands) w 0
rooms_do n count room [] w small less items many all = absurd (omega (arith, less))
rooms_do n count room (hand ∷ hands) w small less items many all =
    let few = share_in_rounds n w small items in
    let has = all w hand less in
    let at = get_or-map room (hand ∷ hands) w hand 0 less in
    omega (arith, few, ap (rounds n) many, has, at)
