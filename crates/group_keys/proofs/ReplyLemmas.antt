-- What a member is told is what the batches made.
use Rattle.std.proofs.Common.{◌≡◌, ℕ, zero, suc, ◌+◌, ◌/◌, ◌^◌, ◌<◌, ◌≤◌, true, eqb, ◌&&◌, List, [], ◌∷◌, ◌++◌, None, Some, length, map, take, get_or, replicate, refl, sym, ap, subst, ◌∙◌, arith, inl, inr, append_assoc, length-append}
use Rattle.std.specs.Prelude.{is_some}
use Rattle.std.specs.List.{All}
use Rattle.std.specs.Option.{option_map, unwrap_or}
use Rattle.std.proofs.lemmas.Bool.{eq-eqb, false≢true, or_cases, or_left, or_right}
use Rattle.std.proofs.Math.Pow.{pow_mono}
use Rattle.std.proofs.lemmas.Grind.{pow_more}
use Rattle.std.proofs.lemmas.List.{append-nil, get_or-map, length-map, take_all}
use Rattle.std.proofs.lemmas.List.Elements.{All-cons}
use Rattle.std.proofs.lemmas.List.FromFn.{get_or-map-range_with_len}
use Rattle.std.proofs.lemmas.Option.{slice_get-get_or}
use Rattle.group_terms.specs.Names.{Name}
use Rattle.group_terms.specs.Positions.{halved, is_below}
use Rattle.group_terms.specs.declared.changes.Change.{Change}
use Rattle.group_terms.specs.declared.keys.KeyName.TheVariants.{Node}
use Rattle.group_terms.specs.declared.paths.Keyed.{Keyed}
use Rattle.group_terms.specs.declared.paths.PathKey.{PathKey}
use Rattle.group_terms.specs.declared.values.BatchValues.{BatchValues}
use Rattle.group_terms.specs.declared.values.NodeValue.{NodeValue}
use Rattle.group_values.specs.Values.{HasValue, KeepsLast, Made, Rises, batches_made, ids_of, last_value, node_value, traffic_value}
use Rattle.key_tree.specs.declared.marks.Marked.{Marked}
use Rattle.group_model.specs.Drawn.{drawn_at, is_held_below}
use Rattle.group_model.specs.Fresh.{last_change, node_name, upwards}
use Rattle.group_model.specs.Laws.{PlacesAreHeld}
use Rattle.group_model.specs.Places.{Holders, holders_of, is_held_by, place_in}
use Rattle.key_tree.specs.Present.{IsPresentKey, Present, StandsFor}
use Rattle.group_model.specs.LastChanges.{changes_at}
use Rattle.group_model.specs.Stayed.{sequence_at}
use Rattle.key_tree.specs.Marks.{installed}
use Rattle.group_keys.specs.Drawn.{AreDrawn, AreDrawnFrom, IsInUse, IsLastDrawn}
use Rattle.group_keys.specs.Private.Present.{IsNextKey}
use Rattle.group_keys.specs.Replies.{IsKeyedOf}
use Rattle.group_keys.proofs.LastLemmas.{below_any, slice_get-end}
use Rattle.key_tree.proofs.PathLemmas.{some_power, twice}

halved-suc : (n x : ℕ) → halved (suc n) x ≡ halved n x / 2
halved-suc zero x = refl
halved-suc (suc n) x = halved-suc n (x / 2)

-- a member is below each position at or above its leaf
held_marked : (depth first v : ℕ) (holders : Holders) (i : ℕ) (m : Name) → is_held_by m (get_or holders i None) ≡ true → is_below depth v (first + i) ≡ true
    → below_any depth first (map is_some holders) v ≡ true
held_marked depth first v [] i m held below = absurd (false≢true held)
held_marked depth first v (None ∷ holders) zero m held below = absurd (false≢true held)
held_marked depth first v (Some n ∷ holders) zero m held below =
    let here : is_below depth v first ≡ true = ap (is_below depth v) (omega arith) ∙ below in
    or_left (is_below depth v first) (below_any depth (first + 1) (map is_some holders) v) here
held_marked depth first v (holder ∷ holders) (suc i) m held below =
    or_right (is_some holder && is_below depth v first) (below_any depth (first + 1) (map is_some holders) v)
    (held_marked depth (first + 1) v holders i m held (ap (is_below depth v) (omega arith) ∙ below))

-- the position n steps up from x is above it
halved_below : (n x : ℕ) → is_below n (halved n x) x ≡ true
halved_below zero x = eq-eqb x x refl
halved_below (suc n) x = or_right (eqb x (halved n (x / 2))) (is_below n (halved n (x / 2)) (x / 2)) (halved_below n (x / 2))

-- what is found above in n steps is found in more
below_later : (n v x : ℕ) → is_below n v x ≡ true → is_below (suc n) v x ≡ true
below_later zero v x h = or_left (eqb x v) (is_below zero v (x / 2)) h
below_later (suc n) v x h = elim (or_cases (eqb x v) (is_below n v (x / 2)) h) [
  | inl same ↦ or_left (eqb x v) (is_below (suc n) v (x / 2)) same
  | inr more ↦ or_right (eqb x v) (is_below (suc n) v (x / 2)) (below_later n v (x / 2) more)
]

below_more : (more n v x : ℕ) → is_below n v x ≡ true → is_below (more + n) v x ≡ true
below_more zero n v x h = let none : n ≡ zero + n = omega arith in ap (λ k. is_below k v x) (sym none) ∙ h
below_more (suc more) n v x h =
    let next : suc more + n ≡ suc (more + n) = omega arith in
    ap (λ k. is_below k v x) next ∙ below_later (more + n) v x (below_more more n v x h)

-- a position of the tree, at or above a leaf
pub record IsOnPath (depth leaf v : ℕ) : Type 0 where
  pub some : 0 < v
  pub low : v < 2 ^ (depth + 1)
  pub above : is_below depth v leaf ≡ true

here_on_path : (depth leaf n steps v : ℕ) → n + steps ≡ depth → v ≡ halved n leaf → 2 ^ steps ≤ v → v < 2 ^ (steps + 1) → IsOnPath depth leaf v
here_on_path depth leaf n steps v all is from to =
    let count : steps + n ≡ depth = omega (arith, all) in
    record {
      some = omega (arith, from, some_power steps);
      low = omega (arith, to, pow_mono {i = steps + 1} {j = depth + 1} (omega (arith, all)));
      above = ap (λ u. is_below depth u leaf) is ∙ ap (λ k. is_below k (halved n leaf) leaf) (sym count) ∙ below_more steps n (halved n leaf) leaf (halved_below n leaf);
    }

pub on_path : (depth leaf n steps v : ℕ) → n + steps ≡ depth → v ≡ halved n leaf → 2 ^ steps ≤ v → v < 2 ^ (steps + 1) → All (IsOnPath depth leaf) (upwards steps v)
on_path depth leaf n zero v all is from to = All-cons (IsOnPath depth leaf) v [] (here_on_path depth leaf n zero v all is from to) (λ k d none. absurd (omega (arith, none)))
on_path depth leaf n (suc steps) v all is from to =
    All-cons (IsOnPath depth leaf) v (upwards steps (v / 2)) (here_on_path depth leaf n (suc steps) v all is from to)
    (on_path depth leaf (suc n) steps (v / 2) (omega (arith, all)) (ap (λ x. x / 2) is ∙ sym (halved-suc n leaf))
    (omega (arith, from, twice steps)) (omega (arith, to, pow_more 2 (suc steps), twice steps, pow_more 2 steps)))

-- what holds of each position of a path holds of its keys
pub of_keys : (P : ℕ → Type 0) (path : List PathKey) (ids : List ℕ) → map (λ (key : PathKey). key.id) path ≡ ids → All P ids → All (λ (key : PathKey). P key.id) path
of_keys P path ids is each = λ k key low.
    let all : All P (map (λ (key : PathKey). key.id) path) = subst (All P) (sym is) each in
    subst P (get_or-map (λ (key : PathKey). key.id) path k key key.id low) (all k key.id (omega (arith, low, length-map path (λ (key : PathKey). key.id))))

-- a key with its last change in the tree and its last value in the list
pub record IsLastKey (tree : Present) (list : List Made) (key : PathKey) : Type 0 where
  pub made : key.made ≡ unwrap_or (get_or tree.changes key.id None) 0
  pub value : key.id < 2 ^ (tree.depth + 1) → (value : NodeValue) → last_value list key.id ≡ Some value → value ≡ key.value

pub present_last : (tree : Present) (list : List Made) (key : PathKey) → KeepsLast tree.kept list → length tree.kept.nodes ≡ 2 ^ (tree.depth + 1)
    → IsPresentKey tree key → IsLastKey tree list key
present_last tree list key keeps room present = record {
  made = present.made;
  value = λ low value last. cc (keeps.nodes key.id (omega (arith, low, room)) value last, present.value);
}

pub next_last : (tree : Present) (step : Marked) (values : BatchValues) (list : List Made) (changes : List Change) (key : PathKey)
    → KeepsLast tree.kept list → Rises (ids_of values.nodes) → IsNextKey tree step values key
    → IsLastKey (installed tree step) (list ++ record { changes = changes; values = values } ∷ []) key
next_last tree step values list changes key keeps rises next = record {
  made = next.made;
  value = λ low value last. sym (next.value list changes value keeps rises last);
}

-- the positions of the values of the last batch
pub last_drawn_at : (depth : ℕ) (before : List (List Change)) (list : List Made) (made : Made) → AreDrawnFrom depth before (list ++ made ∷ [])
    → ids_of made.values.nodes ≡ drawn_at depth ((before ++ batches_made list) ++ made.changes ∷ []) (length (before ++ batches_made list) + 1)
last_drawn_at depth before [] made drawn =
    drawn.0 ∙ ap (λ batches. drawn_at depth (batches ++ made.changes ∷ []) (length batches + 1)) (sym (append-nil before))
last_drawn_at depth before (first ∷ list) made drawn =
    last_drawn_at depth (before ++ first.changes ∷ []) list made drawn.1
    ∙ ap (λ batches. drawn_at depth (batches ++ made.changes ∷ []) (length batches + 1)) (append_assoc before (first.changes ∷ []) (batches_made list))

-- the traffic key of the last batch
pub last_traffic : (list : List Made) (made : Made) → traffic_value (list ++ made ∷ []) (length (list ++ made ∷ [])) ≡ Some made.values.traffic
last_traffic list made =
    let epoch : length (list ++ made ∷ []) ≡ suc (length list) = omega (arith, length-append list (made ∷ [])) in
    ap (traffic_value (list ++ made ∷ [])) epoch ∙ ap (option_map (λ (made : Made). made.values.traffic)) (slice_get-end list made)

module _ (last_drawn : (depth : ℕ) (list : List Made) (v : ℕ) → AreDrawn depth list → 0 < v → v < 2 ^ (depth + 1) → IsInUse depth list v → IsLastDrawn depth list v)
    (places : PlacesAreHeld)
    (tree : Present) (list : List Made) (stands : StandsFor tree (batches_made list)) (drawn : AreDrawn tree.depth list) where
  long : length (batches_made list) ≡ length list
  long = length-map list (λ (made : Made). made.changes)

  -- the last change of a position is the one that the tree has
  made_is : (v : ℕ) → v < 2 ^ (tree.depth + 1) → get_or tree.changes v None ≡ last_change tree.depth (batches_made list) (length list) v
  made_is v low =
      ap (λ made. get_or made v None) (stands.changes ∙ ap (changes_at tree.depth (batches_made list)) long)
      ∙ get_or-map-range_with_len (last_change tree.depth (batches_made list) (length list)) 0 (2 ^ (tree.depth + 1)) v v None low (omega arith)

  name_is : (key : PathKey) → key.id < 2 ^ (tree.depth + 1) → IsLastKey tree list key → Node key.id key.made ≡ node_name tree.depth (batches_made list) (length list) key.id
  name_is key low last = ap (Node key.id) (last.made ∙ ap (λ made. unwrap_or made 0) (made_is key.id low))

  names_are : (path : List PathKey) → All (λ (key : PathKey). key.id < 2 ^ (tree.depth + 1)) path → All (IsLastKey tree list) path
      → map (λ (key : PathKey). Node key.id key.made) path ≡ map (node_name tree.depth (batches_made list) (length list)) (map (λ (key : PathKey). key.id) path)
  names_are [] low last = refl
  names_are (key ∷ path) low last =
      let here : Node key.id key.made ≡ node_name tree.depth (batches_made list) (length list) key.id = name_is key (low 0 key (omega arith)) (last 0 key (omega arith)) in
      let later = names_are path (λ k d less. low (suc k) d (omega (arith, less))) (λ k d less. last (suc k) d (omega (arith, less))) in
      λ i. here i ∷ later i

  value_is : (leaf i : ℕ) (m : Name) → leaf ≡ 2 ^ tree.depth + i → is_held_by m (get_or tree.holders i None) ≡ true
      → (key : PathKey) → IsOnPath tree.depth leaf key.id → IsLastKey tree list key → HasValue list key
  value_is leaf i m place held key on is_last =
      let depth : ℕ = tree.depth in
      let below : is_below depth key.id (2 ^ depth + i) ≡ true = ap (is_below depth key.id) (sym place) ∙ on.above in
      let in_use : is_held_below depth (holders_of depth (batches_made list)) key.id ≡ true =
      ap (λ holders. is_held_below depth holders key.id) (sym stands.holders) ∙ held_marked depth (2 ^ depth) key.id tree.holders i m held below in
      let last : IsLastDrawn depth list key.id = last_drawn depth list key.id drawn on.some on.low (inr in_use) in
      ap (node_value list key.id) (is_last.made ∙ ap (λ made. unwrap_or made 0) (made_is key.id on.low)) ∙ last.drawn ∙ ap Some (is_last.value on.low last.value last.last)

  -- what the member at a leaf is told, with the keys from there up to the root
  pub keyed_is : (rekey : List ℕ) (m : Name) (leaf : ℕ) (keyed : Keyed) → place_in tree.depth tree.holders m ≡ Some leaf → 2 ^ tree.depth ≤ leaf → leaf < 2 ^ (tree.depth + 1)
      → keyed.epoch ≡ tree.epoch → keyed.sequence ≡ tree.sequence → keyed.spi ≡ rekey → traffic_value list (length list) ≡ Some keyed.traffic
      → map (λ (key : PathKey). key.id) keyed.path ≡ upwards tree.depth leaf
      → All (IsLastKey tree list) keyed.path → IsKeyedOf tree.depth rekey list m keyed
  keyed_is rekey m leaf keyed there from to epoch sequence spi traffic ids last =
      let depth : ℕ = tree.depth in
      let batches : List (List Change) = batches_made list in
      let held = places depth leaf tree.holders m there in
      let on : All (λ (key : PathKey). IsOnPath depth leaf key.id) keyed.path =
      of_keys (IsOnPath depth leaf) keyed.path (upwards depth leaf) ids (on_path depth leaf 0 depth leaf (omega arith) refl from to) in
      let after : place_in depth (holders_of depth (take (length list) batches)) m ≡ Some leaf =
      ap (λ made. place_in depth (holders_of depth made) m) (take_all (length list) batches (omega (arith, long)))
      ∙ ap (λ holders. place_in depth holders m) (sym stands.holders) ∙ there in
      record {
        epoch = epoch ∙ stands.epoch ∙ long;
        sequence = sequence ∙ stands.sequence ∙ ap (sequence_at depth batches) long;
        spi = spi;
        names = names_are keyed.path (λ k key low. (on k key low).low) last
            ∙ ap (map (node_name depth batches (length list))) ids
            ∙ sym (ap (λ place. unwrap_or (option_map (λ leaf. map (node_name depth batches (length list)) (upwards depth leaf)) place) []) after);
        values = λ k key low. value_is leaf held.0 m held.1 held.2 (get_or keyed.path k key) (on k key low) (last k key low);
        traffic = traffic;
      }

-- without a traffic key there was no batch, and so nobody has a leaf
pub no_batch : (list : List Made) → None ≡ traffic_value list (length list) → list ≡ []
no_batch [] none = refl
no_batch (first ∷ list) none = absurd (cc (none, slice_get-get_or (first ∷ list) (length list) first (omega arith)))

pub nobody_held : (n i : ℕ) (m : Name) → is_held_by m (get_or (replicate n None) i None) ≡ true → ⊥
nobody_held zero i m held = false≢true held
nobody_held (suc n) zero m held = false≢true held
nobody_held (suc n) (suc i) m held = nobody_held n i m held
