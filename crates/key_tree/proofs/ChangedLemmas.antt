-- The leaves whose holder is another one after a batch: those that somebody got, and those that were left and that nobody got.
use Rattle.std.proofs.Common.{◌≡◌, ℕ, ◌+◌, ◌^◌, ◌<◌, ◌≤◌, Bool, true, false, cond, eqb, not, ◌||◌, ◌&&◌, List, ◌++◌, Option, None, Some, length, map, take, drop, get_or, refl, sym, ap, subst, ◌∙◌, arith, inl, inr}
use Rattle.std.specs.Prelude.{is_none, is_some, reverse}
use Rattle.std.specs.List.{All, filter, range_with_len, zip}
use Rattle.std.specs.List.Sorted.{IsPermutation}
use Rattle.std.proofs.lemmas.Bool.{cases_Bool, cases_lt, false≢true, or_right}
use Rattle.std.proofs.lemmas.List.{get_or-map, length-map, map-append}
use Rattle.std.proofs.lemmas.List.Elements.{All-append, All-drop, All-filter, All-map, All-weaker, recursion_from_All}
use Rattle.std.proofs.lemmas.List.Folds.{list_any-append}
use Rattle.std.proofs.lemmas.List.Sorted.{All-permutation, IsPermutation-reverse}
use Rattle.std.proofs.lemmas.Slice.Zip.{length-zip, get_or-zip}
use Rattle.group_terms.specs.Names.{Name}
use Rattle.group_terms.specs.Positions.{some_leaf_below}
use Rattle.group_model.specs.Fresh.{changed_leaves, is_same_holder}
use Rattle.group_model.specs.Places.{Holders}
use Rattle.tree_leaves.specs.Unchanged.{unchanged_holders}
use Rattle.key_tree.specs.declared.marks.Renewed.{Renewed}
use Rattle.key_tree.specs.declared.marks.Seat.{Seat}
use Rattle.key_tree.specs.declared.vacant.Vacant.{Vacant}
use Rattle.key_tree.specs.Marks.{renewal, seated}
use Rattle.key_tree.specs.Private.Seats.{IsTaken, IsVacant, changed_leaf, is_among, places_of, vacancies}
use Rattle.key_tree.proofs.LeftLemmas.{among_all, among_left, held_by_left, left_at, left_by}
use Rattle.key_tree.proofs.LeafLemmas.{leaf_mark}
use Rattle.key_tree.proofs.RisingLemmas.{each_among, map_same, rises_append, sorted_are, within_range}
use Rattle.key_tree.proofs.SeatLemmas.{same_as_itself}
use Rattle.key_tree.proofs.TakenLemmas.{leb_no}
use Rattle.key_tree.proofs.VacantLemmas.{among_parts, from_rest, none_below, rises_rest}

changed_at : (before after : Holders) (i : ℕ) → i < length before → length after ≡ length before
    → get_or (changed_leaves before after) i false ≡ not (is_same_holder (get_or before i None) (get_or after i None))
changed_at before after i low long =
    get_or-map (λ (pair : Option Name × Option Name). not (is_same_holder pair.0 pair.1)) (zip before after) i (None, None) false (omega (arith, low, long, length-zip before after))
    ∙ ap (λ (pair : Option Name × Option Name). not (is_same_holder pair.0 pair.1)) (get_or-zip before after i (None, None) low (omega (arith, low, long)))

stayed_at : (before after : Holders) (i : ℕ) → i < length before → length after ≡ length before
    → get_or (unchanged_holders before after) i false ≡ (is_some (get_or after i None) && is_same_holder (get_or before i None) (get_or after i None))
stayed_at before after i low long =
    get_or-map (λ (pair : Option Name × Option Name). is_some pair.1 && is_same_holder pair.0 pair.1) (zip before after) i (None, None) false (omega (arith, low, long, length-zip before after))
    ∙ ap (λ (pair : Option Name × Option Name). is_some pair.1 && is_same_holder pair.0 pair.1) (get_or-zip before after i (None, None) low (omega (arith, low, long)))

pub length-changed : (before after : Holders) → length after ≡ length before → length (changed_leaves before after) ≡ length before
length-changed before after long =
    length-map (zip before after) (λ (pair : Option Name × Option Name). not (is_same_holder pair.0 pair.1)) ∙ length-zip before after ∙ omega (arith, long)

pub length-unchanged : (before after : Holders) → length after ≡ length before → length (unchanged_holders before after) ≡ length before
length-unchanged before after long =
    length-map (zip before after) (λ (pair : Option Name × Option Name). is_some pair.1 && is_same_holder pair.0 pair.1) ∙ length-zip before after ∙ omega (arith, long)

some_of_none : (holder : Option Name) → is_none holder ≡ false → is_some holder ≡ true
some_of_none None none = absurd (false≢true (sym none))
some_of_none (Some name) none = refl

left_differs : (holder : Option Name) → is_some holder ≡ true → is_same_holder holder None ≡ false
left_differs None some = absurd (false≢true some)
left_differs (Some name) some = refl

-- what a batch made of the leaves: those that were left, and those that some got who came in
module _ (depth : ℕ) (before : Holders) (long : length before ≡ 2 ^ depth) (leaving : List Name) (vacant : Vacant) (v : IsVacant vacant)
    (same : IsPermutation (left_by before leaving) vacant.left) (came : List Seat)
    (t : IsTaken before (seated before (vacancies before leaving)) (seated (seated before (vacancies before leaving)) came) vacant.from (places_of came)) where
  abbrev left : Holders
  left = seated before (vacancies before leaving)

  abbrev now : Holders
  now = seated left came

  abbrev rest : List ℕ
  rest = drop vacant.passed vacant.left

  abbrev was : ℕ → Option Name
  was i = get_or before i None

  abbrev is : ℕ → Option Name
  is i = get_or now i None

  pub left_within : All (λ place. place < length before) vacant.left
  left_within =
      All-permutation (λ place. place < length before) (left_by before leaving) vacant.left same
      (All-weaker (λ i. (i < length before) × (is_some (get_or before i None) ≡ true)) (λ i. i < length before) (λ i h. h.0) (left_by before leaving) (held_by_left before leaving))

  pub rest_within : All (λ place. place < length before) rest
  rest_within = All-drop (λ place. place < length before) vacant.passed vacant.left left_within

  held_before : (i : ℕ) → is_among vacant.left i ≡ true → is_some (was i) ≡ true
  held_before i there =
      (among_all (λ i. (i < length before) × (is_some (get_or before i None) ≡ true)) (left_by before leaving) i
      (recursion_from_All (λ i. (i < length before) × (is_some (get_or before i None) ≡ true)) (left_by before leaving) (held_by_left before leaving))
      (sym (among_left before leaving vacant.left same i) ∙ there)).1

  rest_among_left : (i : ℕ) → is_among rest i ≡ true → is_among vacant.left i ≡ true
  rest_among_left i there = among_parts vacant.passed vacant.left i ∙ or_right (is_among (take vacant.passed vacant.left) i) (is_among rest i) there

  rest_later : (i : ℕ) → is_among rest i ≡ true → vacant.from ≤ i
  rest_later i there = among_all (λ x. vacant.from ≤ x) rest i (recursion_from_All (λ x. vacant.from ≤ x) rest v.later) there

  came_earlier : (i : ℕ) → is_among (places_of came) i ≡ true → i < vacant.from
  came_earlier i there =
      among_all (λ x. x < vacant.from) (places_of came) i (recursion_from_All (λ x. x < vacant.from) (places_of came) t.below) there

  came_low : (i : ℕ) → is_among (places_of came) i ≡ true → i < length before
  came_low i there =
      among_all (λ x. x < length before) (places_of came) i (recursion_from_All (λ x. x < length before) (places_of came) t.within) there

  came_is : (i : ℕ) → is_among (places_of came) i ≡ true → is_some (is i) ≡ true
  came_is i there =
      some_of_none (is i) (t.free i (came_low i there) ∙ ap (λ b. b && is_none (get_or left i None)) (leb_no vacant.from i (came_earlier i there)))

  -- nobody has a leaf that was left and that nobody got
  rest_is : (i : ℕ) → is_among rest i ≡ true → is i ≡ None
  rest_is i there =
      t.others i (none_below vacant.from i (places_of came) t.below (rest_later i there))
      ∙ left_at before leaving i
      ∙ ap (λ b. cond b None (was i)) (sym (among_left before leaving vacant.left same i) ∙ rest_among_left i there)

  -- who has another leaf has it still
  others_are : (i : ℕ) → i < length before → is_among (places_of came) i ≡ false → is_among rest i ≡ false → is i ≡ was i
  others_are i low not_come not_rest =
      let now_is : is i ≡ get_or left i None = t.others i not_come in
      elim (cases_Bool (is_among vacant.left i)) [
        | inr none ↦ now_is ∙ left_at before leaving i ∙ ap (λ b. cond b None (was i)) (sym (among_left before leaving vacant.left same i) ∙ none)
        | inl there ↦ (
            let nobody : is i ≡ None =
            now_is ∙ left_at before leaving i ∙ ap (λ b. cond b None (was i)) (sym (among_left before leaving vacant.left same i) ∙ there) in
            elim (cases_lt i vacant.from) [
              | inl earlier ↦ absurd (false≢true (
                  sym (t.free i low ∙ ap (λ b. b && is_none (get_or left i None)) (leb_no vacant.from i earlier)) ∙ ap is_none nobody
                  ))
              | inr later ↦ absurd (false≢true (sym not_rest ∙ from_rest vacant v i later ∙ there))
            ]
            )
      ]

  all_among : (i : ℕ) → i < length before → is_among (places_of came ++ rest) i ≡ not (is_same_holder (was i) (is i))
  all_among i low =
      list_any-append (λ x. eqb i x) (places_of came) rest
      ∙ elim (cases_Bool (is_among (places_of came) i)) [
        | inl there ↦ ap (λ b. b || is_among rest i) there ∙ sym (ap not (t.changed i there))
        | inr not_come ↦ ap (λ b. b || is_among rest i) not_come ∙ elim (cases_Bool (is_among rest i)) [
          | inl there ↦ there ∙ sym (ap not (ap (is_same_holder (was i)) (rest_is i there) ∙ left_differs (was i) (held_before i (rest_among_left i there))))
          | inr not_rest ↦ not_rest ∙ sym (ap not (ap (is_same_holder (was i)) (others_are i low not_come not_rest) ∙ same_as_itself (was i)))
        ]
      ]

  abbrev of : ℕ → Renewed
  of = renewal depth before now

  abbrev p : ℕ → Bool
  p v = some_leaf_below depth (changed_leaves before now) v

  -- what is found out of a leaf
  of_leaf : (i : ℕ) → i < length before → of (2 ^ depth + i) ≡ record { id = 2 ^ depth + i; held = is_some (is i); stayed = is_some (is i) && is_same_holder (was i) (is i) }
  of_leaf i low =
      let small : i < 2 ^ depth = omega (arith, low, long) in
      let held : some_leaf_below depth (map is_some now) (2 ^ depth + i) ≡ is_some (is i) =
      leaf_mark depth (map is_some now) (length-map now is_some ∙ t.len ∙ long) i small ∙ get_or-map is_some now i None false (omega (arith, low, t.len)) in
      let stayed : some_leaf_below depth (unchanged_holders before now) (2 ^ depth + i) ≡ (is_some (is i) && is_same_holder (was i) (is i)) =
      leaf_mark depth (unchanged_holders before now) (length-unchanged before now t.len ∙ long) i small ∙ stayed_at before now i low t.len in
      λ j. record { id = 2 ^ depth + i; held = held j; stayed = stayed j }

  came_leaf : (i : ℕ) → is_among (places_of came) i ≡ true → changed_leaf (2 ^ depth) true i ≡ of (2 ^ depth + i)
  came_leaf i there =
      (λ j. record { id = 2 ^ depth + i; held = sym (came_is i there) j; stayed = sym ((λ k. came_is i there k && t.changed i there k)) j })
      ∙ sym (of_leaf i (came_low i there))

  rest_leaf : (i : ℕ) → is_among rest i ≡ true → changed_leaf (2 ^ depth) false i ≡ of (2 ^ depth + i)
  rest_leaf i there =
      let low : i < length before = among_all (λ x. x < length before) rest i (recursion_from_All (λ x. x < length before) rest rest_within) there in
      (λ j. record { id = 2 ^ depth + i; held = is_some (sym (rest_is i there) j); stayed = is_some (sym (rest_is i there) j) && is_same_holder (was i) (sym (rest_is i there) j) })
      ∙ sym (of_leaf i low)

  pub changed_are : map (changed_leaf (2 ^ depth) true) (places_of came) ++ map (changed_leaf (2 ^ depth) false) rest
      ≡ map of (filter p (range_with_len (2 ^ depth) (2 ^ depth)))
  changed_are =
      let size : ℕ = 2 ^ depth in
      let first : size + 0 ≡ size = omega arith in
      (λ i. map_same (changed_leaf size true) (λ i. of (size + i)) (places_of came) (each_among (λ i. changed_leaf size true i ≡ of (size + i)) (places_of came) came_leaf) i
      ++ map_same (changed_leaf size false) (λ i. of (size + i)) rest (each_among (λ i. changed_leaf size false i ≡ of (size + i)) rest rest_leaf) i)
      ∙ sym (map-append (λ i. of (size + i)) (places_of came) rest)
      ∙ sorted_are size p of size 0 (places_of came ++ rest)
      (rises_append (places_of came) rest vacant.from t.rises (rises_rest vacant.passed vacant.left v.rises) t.below v.later)
      (λ k d low. omega arith)
      (All-weaker (λ x. x < length before) (λ x. x < 0 + size) (λ x less. omega (arith, less, long)) (places_of came ++ rest)
      (All-append (λ x. x < length before) (places_of came) rest t.within rest_within))
      (λ i later low.
      let few : i < length before = omega (arith, low, long) in
      all_among i few ∙ sym (changed_at before now i few t.len)
      ∙ sym (leaf_mark depth (changed_leaves before now) (length-changed before now t.len ∙ long) i (omega (arith, low))))
      ∙ ap (λ n. map of (filter p (range_with_len n size))) first

pub leaves_within : (depth : ℕ) (before after : Holders) (p : ℕ → Bool) (leaves : List Renewed)
    → leaves ≡ reverse (map (renewal depth before after) (filter p (range_with_len (2 ^ depth) (2 ^ depth))))
    → All (λ (leaf : Renewed). (2 ^ depth ≤ leaf.id) × (leaf.id < 2 ^ depth + 2 ^ depth)) leaves
leaves_within depth before after p leaves is =
    let size : ℕ = 2 ^ depth in
    let list : List ℕ = filter p (range_with_len size size) in
    let all : All (λ v. (size ≤ v) × (v < size + size)) list = All-filter p (λ v. (size ≤ v) × (v < size + size)) (range_with_len size size) (within_range size size) in
    let Q : Renewed → Type 0 = λ leaf. (size ≤ leaf.id) × (leaf.id < size + size) in
    subst (All Q) (sym is) (All-permutation Q (map (renewal depth before after) list) (reverse (map (renewal depth before after) list))
    (IsPermutation-reverse (map (renewal depth before after) list)) (All-map Q (renewal depth before after) list all))
