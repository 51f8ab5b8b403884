-- Lists that grow by what they did not have.
-- "Each once" is `AreFirsts seen items firsts`; `Gains-then` puts two together, and a loop's next element is `Gains-new` or `Gains-old`.
use Rattle.std.proofs.Common.{◌≡◌, ℕ, ◌<◌, List, [], ◌∷◌, ◌++◌, Bool, true, length, map, take, get_or, ◌+◌, sym, refl, ap, ◌∙◌, subst, inl, inr, arith}
use Rattle.std.specs.Prelude.{Contains, Decides}
use Rattle.std.specs.List.{list_any, flat_map}
use Rattle.std.proofs.lemmas.Bool.{or_left, or_right, or_cases, false≢true}
use Rattle.std.proofs.lemmas.List.Elements.{Contains-append_left, Contains-append_right, Contains-append_cases, Contains-push, Contains-push_cases}
use Rattle.std.proofs.lemmas.List.{append_assoc, append-nil, take_more, map_more}
use Rattle.std.proofs.lemmas.List.Concat.{flat_map-append}
use Rattle.sym_closure.specs.Firsts.{AreFirsts, AreAmong, HasSame}
use Rattle.sym_closure.specs.Private.Gains.{Gains}

pub AreFirsts-then : {X : Type 0} (seen a b firsts others : List X) → AreFirsts seen a firsts → AreFirsts (seen ++ firsts) b others → AreFirsts seen (a ++ b) (firsts ++ others)
AreFirsts-then seen [] b firsts others h k =
    subst (λ front. AreFirsts seen b (front ++ others)) (sym h) (subst (λ all. AreFirsts all b others) (ap (λ front. seen ++ front) h ∙ append-nil seen) k)
AreFirsts-then seen (item ∷ a) b firsts others h k = elim h [
  | inl there ↦ inl (there.0, AreFirsts-then seen a b firsts others there.1 k)
  | inr new ↦ (
      let rest = new.1 in
      inr (
        new.0,
        (
          rest.0 ++ others,
          ap (λ front. front ++ others) rest.1,
          AreFirsts-then (seen ++ item ∷ []) a b rest.0 others rest.2 (subst (λ all. AreFirsts all b others) (ap (λ front. seen ++ front) rest.1 ∙ sym (append_assoc seen (item ∷ []) rest.0)) k),
        ),
      )
      )
]

pub Gains-none : {X : Type 0} (items : List X) → Gains items [] items
Gains-none items = ([], sym (append-nil items), refl)

-- an item that is new, and one that is not
pub Gains-new : {X : Type 0} (items : List X) (item : X) → (Contains items item → ⊥) → Gains items (item ∷ []) (items ++ item ∷ [])
Gains-new items item new = (item ∷ [], refl, inr (new, ([], refl, refl)))

pub Gains-old : {X : Type 0} (items : List X) (item : X) → Contains items item → Gains items (item ∷ []) items
Gains-old items item there = ([], sym (append-nil items), inl (there, refl))

-- where an item is new, the list has it and no other
pub Gains-one : {X : Type 0} (old new : List X) (item : X) → (Contains old item → ⊥) → Gains old (item ∷ []) new → new ≡ old ++ item ∷ []
Gains-one old new item absent h = elim h.2 [
  | inl there ↦ absurd (absent there.0)
  | inr one ↦ h.1 ∙ ap (λ firsts. old ++ firsts) (one.1.1 ∙ ap (λ others. item ∷ others) one.1.2)
]

pub Gains-then : {X : Type 0} (first second third a b : List X) → Gains first a second → Gains second b third → Gains first (a ++ b) third
Gains-then first second third a b h k = (
  h.0 ++ k.0,
  k.1 ∙ ap (λ front. front ++ k.0) h.1 ∙ append_assoc first h.0 k.0,
  AreFirsts-then first a b h.0 k.0 h.2 (subst (λ all. AreFirsts all b k.0) h.1 k.2),
)

pub no_item : {X : Type 0} (x : X) → Contains [] x → ⊥
no_item x h = omega (arith, h.1)

pub Contains-first : {X : Type 0} (x : X) (xs : List X) → Contains (x ∷ xs) x
Contains-first x xs = (0, omega arith, refl)

-- the only item of a list
pub only_item : {X : Type 0} (y x : X) → Contains (y ∷ []) x → y ≡ x
only_item y x h = elim (Contains-push_cases [] y x h) [
  | inl none ↦ absurd (no_item x none)
  | inr same ↦ same
]

-- where items are equal if they are the same, a search for one finds it if it is there
module _ {X : Type 0} (eq : X → X → Bool) (exact : (a b : X) → Decides (eq a b) (a ≡ b)) (x : X) where
  found : (xs : List X) → list_any (eq x) xs ≡ true → Contains xs x
  found [] h = absurd (false≢true h)
  found (y ∷ ys) h = elim (or_cases (eq x y) (list_any (eq x) ys) h) [
    | inl here ↦ subst (Contains (y ∷ ys)) (sym ((exact x y).0 here)) (Contains-first y ys)
    | inr later ↦ Contains-append_right (y ∷ []) ys x (found ys later)
  ]

  finds : (xs : List X) → Contains xs x → list_any (eq x) xs ≡ true
  finds [] h = absurd (no_item x h)
  finds (y ∷ ys) h = elim (Contains-append_cases (y ∷ []) ys x h) [
    | inl here ↦ or_left (eq x y) (list_any (eq x) ys) ((exact x y).1 (sym (only_item y x here)))
    | inr later ↦ or_right (eq x y) (list_any (eq x) ys) (finds ys later)
  ]

  pub any_decides : (xs : List X) → Decides (list_any (eq x) xs) (Contains xs x)
  any_decides xs = (found xs, finds xs)

-- the items of one more element
pub Gains-next : {X Y : Type 0} (f : Y → List X) (first second third start : List X) (items : List Y) (place : ℕ) (item : Y) → place < length items → item ≡ get_or items place item → Gains first (start ++ flat_map f (take place items)) second → Gains second (f item) third → Gains first (start ++ flat_map f (take (place + 1) items)) third
Gains-next f first second third start items place item within is h k =
    let front : take place items ++ item ∷ [] ≡ take (place + 1) items = ap (λ one. take place items ++ one ∷ []) is ∙ sym (take_more items place item within) in
    subst (λ all. Gains first all third)
    (append_assoc start (flat_map f (take place items)) (f item)
    ∙ ap (λ more. start ++ (flat_map f (take place items) ++ more)) (sym (append-nil (f item)))
    ∙ ap (λ more. start ++ more) (sym (flat_map-append f (take place items) (item ∷ [])) ∙ ap (flat_map f) front))
    (Gains-then first second third (start ++ flat_map f (take place items)) (f item) h k)

pub Gains-next_one : {X Y : Type 0} (f : Y → X) (first second third : List X) (items : List Y) (place : ℕ) (item : Y) → place < length items → item ≡ get_or items place item → Gains first (map f (take place items)) second → Gains second (f item ∷ []) third → Gains first (map f (take (place + 1) items)) third
Gains-next_one f first second third items place item within is h k =
    subst (λ all. Gains first all third) (ap (λ one. map f (take place items) ++ f one ∷ []) is ∙ sym (map_more f items place item within))
    (Gains-then first second third (map f (take place items)) (f item ∷ []) h k)

-- the first items are the same items
pub firsts_in : {X : Type 0} (seen items firsts : List X) → AreFirsts seen items firsts → (item : X) → Contains items item
    → Contains (seen ++ firsts) item
firsts_in seen [] firsts h item c = absurd (no_item item c)
firsts_in seen (first ∷ items) firsts h item c = elim h [
  | inl there ↦ elim (Contains-append_cases (first ∷ []) items item c) [
    | inl here ↦ subst (Contains (seen ++ firsts)) (only_item first item here) (Contains-append_left seen firsts first there.0)
    | inr later ↦ firsts_in seen items firsts there.1 item later
  ]
  | inr new ↦ (
      let rest = new.1 in
      let whole : (seen ++ first ∷ []) ++ rest.0 ≡ seen ++ firsts = append_assoc seen (first ∷ []) rest.0 ∙ ap (λ front. seen ++ front) (sym rest.1) in
      subst (λ all. Contains all item) whole (elim (Contains-append_cases (first ∷ []) items item c) [
        | inl here ↦ subst (Contains ((seen ++ first ∷ []) ++ rest.0)) (only_item first item here) (Contains-append_left (seen ++ first ∷ []) rest.0 first (Contains-push seen first))
        | inr later ↦ firsts_in (seen ++ first ∷ []) items rest.0 rest.2 item later
      ])
      )
]

pub firsts_of : {X : Type 0} (seen items firsts : List X) → AreFirsts seen items firsts → (item : X) → Contains firsts item
    → Contains items item
firsts_of seen [] firsts h item c = absurd (no_item item (subst (λ all. Contains all item) h c))
firsts_of seen (first ∷ items) firsts h item c = elim h [
  | inl there ↦ Contains-append_right (first ∷ []) items item (firsts_of seen items firsts there.1 item c)
  | inr new ↦ (
      let rest = new.1 in
      elim (Contains-append_cases (first ∷ []) rest.0 item (subst (λ all. Contains all item) rest.1 c)) [
        | inl here ↦ Contains-append_left (first ∷ []) items item here
        | inr later ↦ Contains-append_right (first ∷ []) items item (firsts_of (seen ++ first ∷ []) items rest.0 rest.2 item later)
      ]
      )
]

pub HasSame-firsts : {X : Type 0} (items firsts : List X) → AreFirsts [] items firsts → HasSame items firsts
HasSame-firsts items firsts h = (firsts_in [] items firsts h, firsts_of [] items firsts h)

pub HasSame-gained : {X : Type 0} (items firsts : List X) → Gains [] items firsts → HasSame items firsts
HasSame-gained items firsts h = subst (HasSame items) (sym h.1) (HasSame-firsts items h.0 h.2)

-- what a list gained is there
pub Gains-has : {X : Type 0} (old items new : List X) → Gains old items new → (item : X) → Contains items item → Contains new item
Gains-has old items new h item c = subst (λ all. Contains all item) (sym h.1) (firsts_in old items h.0 h.2 item c)

-- lists with the same items
pub HasSame-itself : {X : Type 0} (items : List X) → HasSame items items
HasSame-itself items = (λ item c. c, λ item c. c)

pub HasSame-trans : {X : Type 0} (a b c : List X) → HasSame a b → HasSame b c → HasSame a c
HasSame-trans a b c h k = (λ item there. k.0 item (h.0 item there), λ item there. h.1 item (k.1 item there))

AreAmong-append : {X : Type 0} (a b more : List X) → AreAmong a b → AreAmong (a ++ more) (b ++ more)
AreAmong-append a b more h item c = elim (Contains-append_cases a more item c) [
  | inl first ↦ Contains-append_left b more item (h item first)
  | inr later ↦ Contains-append_right b more item later
]

pub HasSame-append : {X : Type 0} (a b more : List X) → HasSame a b → HasSame (a ++ more) (b ++ more)
HasSame-append a b more h = (AreAmong-append a b more h.0, AreAmong-append b a more h.1)

-- a list that got some items, and then some more
HasSame-then : {X : Type 0} (old middle new a b : List X) → HasSame (old ++ a) middle → HasSame (middle ++ b) new
    → HasSame (old ++ (a ++ b)) new
HasSame-then old middle new a b h k =
    subst (λ all. HasSame all new) (append_assoc old a b)
    (HasSame-trans ((old ++ a) ++ b) (middle ++ b) new (HasSame-append (old ++ a) middle b h) k)

-- the items of a list up to a place, and the next
pub HasSame-next : {X : Type 0} (start old new items : List X) (place : ℕ) (item : X) → place < length items
    → item ≡ get_or items place item → HasSame (start ++ take place items) old → HasSame (old ++ item ∷ []) new
    → HasSame (start ++ take (place + 1) items) new
HasSame-next start old new items place item within is h k =
    let front : take place items ++ item ∷ [] ≡ take (place + 1) items = ap (λ one. take place items ++ one ∷ []) is ∙ sym (take_more items place item within) in
    subst (λ all. HasSame (start ++ all) new) front (HasSame-then start old new (take place items) (item ∷ []) h k)
