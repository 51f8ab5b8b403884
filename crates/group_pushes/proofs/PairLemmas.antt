-- What is written for a batch is the pair of its list.
use Rattle.std.proofs.Common.{◌≡◌, ℕ, zero, suc, ◌+◌, ◌-◌, ◌^◌, ◌<◌, true, false, cond, MatchBool, List, [], ◌∷◌, ◌++◌, Option, None, Some, length, get_or, replicate, take, refl, sym, ap, subst, ◌∙◌, arith, inl, inr, length-append}
use Rattle.std.specs.Prelude.{slice_get}
use Rattle.std.specs.List.{All, AllWithin, list_any}
use Rattle.std.specs.Option.{option_map, unwrap_or}
use Rattle.std.proofs.lemmas.Bool.{cases_Bool, false≢true}
use Rattle.std.proofs.lemmas.Grind.{pow_more}
use Rattle.std.proofs.lemmas.List.{get_or_append_left, length-map, map-append}
use Rattle.gd_edges.specs.declared.signers.Signer.{Ghosts as SignerGhosts}
use Rattle.group_terms.specs.Names.{Name}
use Rattle.group_terms.specs.Octets.{iv_octets}
use Rattle.group_terms.specs.declared.changes.Change.{Change}
use Rattle.group_terms.specs.declared.keys.KeyName.{KeyName}
use Rattle.group_terms.specs.declared.keys.KeyName.TheVariants.{Node, Traffic, Phase}
use Rattle.group_terms.specs.declared.keys.Wrap.{Wrap}
use Rattle.group_terms.specs.declared.paths.PathKey.{PathKey}
use Rattle.group_terms.specs.declared.values.BatchValues.{BatchValues}
use Rattle.group_terms.specs.declared.values.NodeValue.{NodeValue}
use Rattle.group_values.specs.Values.{HasValue, Kept, KeepsLast, Made, Rises, batches_made, ids_of, last_value, node_value, traffic_value}
use Rattle.group_model.specs.Fresh.{last_change, node_name}
use Rattle.group_model.specs.Laws.{EachLeafHasItsPlace}
use Rattle.group_model.specs.Places.{Holders, holders_at, is_held_by, no_holders}
use Rattle.key_tree.specs.Present.{Present, StandsFor}
use Rattle.key_tree.specs.Marks.{IsMarkedFor}
use Rattle.group_model.specs.Stayed.{sequence_at, somebody_stayed, stayed_at}
use Rattle.group_model.specs.Wraps.{node_wraps, wraps_at}
use Rattle.group_model.specs.declared.entries.PushPair.{PushPair}
use Rattle.key_tree.specs.declared.marks.Marked.{Marked}
use Rattle.group_keys.specs.Drawn.{AreDrawn, IsLastDrawn}
use Rattle.kd_wire.specs.declared.sealing.WrapJob.{WrapJob}
use Rattle.push_msg.specs.Texts.{IsPushText, membership_push, traffic_push}
use Rattle.push_msg.specs.Written.{KindFits}
use Rattle.group_pushes.specs.Pairs.{AreJobsOf, IsJobOf, IsPairIfStayed, IsPairOf}
use Rattle.group_pushes.specs.Private.Jobs.{AreArraysAfter, AreJobsAfter, IsJobAfter, IsKeyAfter, IsLastValue}
use Rattle.group_keys.proofs.LastLemmas.{node_value-more, slice_get-end}
use Rattle.group_pushes.proofs.DrawnLemmas.{drawn_before, drawn_rise}
use Rattle.group_pushes.proofs.KnownLemmas.{IsKnown, LastValuesAreDrawn, MarksAreThoseOfChildren, all_known, fresh_name}

-- laws of the crates below
pub record Laws : Type 0 where
  pub marks : MarksAreThoseOfChildren
  pub lasts : LastValuesAreDrawn
  pub each : EachLeafHasItsPlace

abbrev pub id_in : KeyName → ℕ
id_in (Node id made) = id
id_in (Traffic made) = 0
id_in (Phase member) = 0

abbrev pub made_in : KeyName → ℕ
made_in (Node id made) = made
made_in (Traffic made) = 0
made_in (Phase member) = 0

-- jobs with values of a list that goes on
module _ (depth : ℕ) (list : List Made) (changes : List Change) (values : BatchValues) (kept : Kept)
    (keeps : KeepsLast kept list) (rises : Rises (ids_of values.nodes)) where
  abbrev pub all : List Made
  all = list ++ record { changes = changes; values = values } ∷ []

  has_value : (name : KeyName) (at : ℕ) (key : PathKey) → name ≡ node_name depth (batches_made all) (length all) at → IsLastDrawn depth all at
      → IsKeyAfter kept values name key → HasValue all key
  has_value name at key named last is =
      let same : Node key.id key.made ≡ node_name depth (batches_made all) (length all) at = sym is.named ∙ named in
      let id : key.id ≡ at = ap id_in same in
      let made : key.made ≡ unwrap_or (last_change depth (batches_made all) (length all) at) 0 = ap made_in same in
      let value : key.value ≡ last.value = is.value list changes last.value keeps rises (ap (last_value all) id ∙ last.last) in
      (λ i. node_value all (id i) (made i)) ∙ last.drawn ∙ ap Some (sym value)

  is_job : (wrap : Wrap) (job : WrapJob) → IsKnown depth all wrap → IsJobAfter kept values wrap job → IsJobOf all wrap job
  is_job wrap job known is = record {
    by = is.by.named;
    by_value = has_value wrap.by known.by_at job.by known.by known.by_last is.by;
    by_iv = is.by_iv;
    gives = is.gives.named;
    gives_value = has_value wrap.gives known.gives_at job.gives known.gives known.gives_last is.gives;
  }

  pub are_jobs : (wraps : List Wrap) (jobs : List WrapJob) → All (IsKnown depth all) wraps → AreJobsAfter kept values wraps jobs → AreJobsOf all wraps jobs
  are_jobs [] [] known is = tt
  are_jobs [] (job ∷ jobs) known is = absurd is
  are_jobs (wrap ∷ wraps) [] known is = absurd is
  are_jobs (wrap ∷ wraps) (job ∷ jobs) known is =
      (is_job wrap job (known 0 wrap (omega arith)) is.0, are_jobs wraps jobs (λ k d low. known (suc k) d (omega (arith, low))) is.1)

traffic_value-end : (list : List Made) (made : Made) → traffic_value (list ++ made ∷ []) (suc (length list)) ≡ Some made.values.traffic
traffic_value-end list made = ap (option_map (λ (made : Made). made.values.traffic)) (slice_get-end list made)

-- at epoch 0 nobody is a member, and so nobody stays over the first batch
no_member : (n : ℕ) (m : Name) → list_any (is_held_by m) (replicate n None) ≡ false
no_member zero m = refl
no_member (suc n) m = no_member n m

nobody_stays : (depth : ℕ) (after : Holders) → somebody_stayed (no_holders depth) after ≡ false
nobody_stays depth [] = refl
nobody_stays depth (None ∷ after) = nobody_stays depth after
nobody_stays depth (Some m ∷ after) = rw (no_member (2 ^ depth) m) (nobody_stays depth after)

stayed_later : (depth : ℕ) (batches : List (List Change)) (n : ℕ) → stayed_at depth batches (suc n) ≡ true → 0 < n
stayed_later depth batches zero stayed = absurd (false≢true (sym (nobody_stays depth (holders_at depth batches 1)) ∙ stayed))
stayed_later depth batches (suc n) stayed = omega arith

-- a batch over which somebody stayed uses two numbers
two_numbers : (depth : ℕ) (batches : List (List Change)) (n : ℕ) → stayed_at depth batches (suc n) ≡ true
    → sequence_at depth batches (suc n) ≡ sequence_at depth batches n + 2
unfolding sequence_at
two_numbers depth batches n stayed = ap (λ b. sequence_at depth batches n + cond b 2 0) stayed

pow_some : (depth : ℕ) → 0 < 2 ^ depth
pow_some zero = omega arith
pow_some (suc depth) = omega (arith, pow_some depth, pow_more 2 depth)

-- the root's value
root_value : LastValuesAreDrawn → (depth : ℕ) (list : List Made) (n : ℕ) → AreDrawn depth list → length list ≡ suc n
    → (value : NodeValue) × (last_value list 1 ≡ Some value) × (node_value list 1 (suc n) ≡ Some value)
root_value lasts depth list n drawn long =
    let batches : List (List Change) = batches_made list in
    let last : IsLastDrawn depth list 1 = lasts depth list 1 drawn (omega arith) (omega (arith, pow_more 2 depth, pow_some depth)) (inl (refl, omega (arith, long))) in
    let fresh : last_change depth batches (suc n) 1 ≡ Some (suc n) = fresh_name depth batches (suc n) 1 (omega arith) refl in (
      last.value,
      last.last,
      sym (ap (λ made. node_value list 1 (unwrap_or made 0)) (ap (λ k. last_change depth batches k 1) long ∙ fresh)) ∙ last.drawn,
    )

same_value : (value other : NodeValue) → Some value ≡ Some other → value ≡ other
same_value value other same = ap (λ (found : Option NodeValue). unwrap_or found value) same

-- what a step encrypts, where the first are those between positions
module _ (depth : ℕ) (batches : List (List Change)) (epoch : ℕ) where
  pub none_stayed : (wraps : List Wrap) → wraps ≡ wraps_at depth batches epoch → length wraps ≡ 0 → stayed_at depth batches epoch ≡ false
  unfolding wraps_at
  none_stayed wraps is none = elim (cases_Bool (stayed_at depth batches epoch)) [
    | inl stayed ↦
        let last : List Wrap = record { by = Node 1 epoch; gives = Traffic epoch } ∷ [] in
        absurd (omega (arith, none, ap length (is ∙ ap (λ b. cond b (node_wraps depth batches epoch ++ last) []) stayed), length-append (node_wraps depth batches epoch) last))
    | inr none ↦ none
  ]

  pub some_stayed : (wraps between : List Wrap) (last : Wrap) → wraps ≡ wraps_at depth batches epoch → wraps ≡ between ++ last ∷ []
      → (stayed_at depth batches epoch ≡ true) × (between ≡ node_wraps depth batches epoch)
  unfolding wraps_at
  some_stayed wraps between last is parts = elim (cases_Bool (stayed_at depth batches epoch)) [
    | inl stayed ↦ (
      stayed,
      fronts between (node_wraps depth batches epoch) last (record { by = Node 1 epoch; gives = Traffic epoch })
          (sym parts ∙ is ∙ ap (λ b. cond b (node_wraps depth batches epoch ++ record { by = Node 1 epoch; gives = Traffic epoch } ∷ []) []) stayed),
    )
    | inr none ↦
        absurd (omega (arith, ap length (sym parts ∙ is ∙ ap (λ b. cond b (node_wraps depth batches epoch ++ record { by = Node 1 epoch; gives = Traffic epoch } ∷ []) []) none), length-append between (last ∷ [])))
  ]
    where
      take_front : (front rest : List Wrap) → take (length front) (front ++ rest) ≡ front
      take_front [] rest = refl
      take_front (first ∷ front) rest = ap (λ wraps. first ∷ wraps) (take_front front rest)

      fronts : (xs ys : List Wrap) (x y : Wrap) → xs ++ x ∷ [] ≡ ys ++ y ∷ [] → xs ≡ ys
      fronts xs ys x y same =
          let long : length xs ≡ length ys = omega (arith, ap length same, length-append xs (x ∷ []), length-append ys (y ∷ [])) in
          sym (take_front xs (x ∷ [])) ∙ (λ i. take (long i) (same i)) ∙ take_front ys (y ∷ [])

-- the encryptions before the last one
pub front_within : (P : Wrap → Type 0) (wraps front : List Wrap) (last : Wrap) → wraps ≡ front ++ last ∷ [] → AllWithin P wraps 0 (length wraps - 1) → All P front
front_within P wraps front last is within k d low =
    subst P (ap (λ ws. get_or ws k d) is ∙ get_or_append_left front (last ∷ []) d k low)
    (within k d (omega arith) (omega (arith, low, ap length is, length-append front (last ∷ []))))

pub root_low : (depth : ℕ) → 1 < 2 ^ (depth + 1)
root_low depth = omega (arith, pow_more 2 depth, pow_some depth)

abbrev nothing : Option PushPair
nothing = None

-- the step of a list's last batch
module _ (tree : Present) (step : Marked) (list : List Made) (changes : List Change) (values : BatchValues) (limit : ℕ)
    (stands : StandsFor tree (batches_made list)) (drawn : AreDrawn tree.depth (list ++ record { changes = changes; values = values } ∷ []))
    (is_step : IsMarkedFor tree changes limit step) where
  abbrev made : Made
  made = record { changes = changes; values = values }

  abbrev whole : List Made
  whole = list ++ made ∷ []

  abbrev batches : List (List Change)
  batches = batches_made whole

  longer : batches_made list ++ changes ∷ [] ≡ batches
  longer = sym (map-append (λ (made : Made). made.changes) list (made ∷ []))

  long : length whole ≡ suc (length list)
  long = omega (arith, length-append list (made ∷ []))

  epoch_is : step.epoch ≡ length whole
  epoch_is = omega (arith, is_step.ready.epoch, stands.epoch, long, length-map list (λ (made : Made). made.changes))

  sequence_is : step.sequence ≡ sequence_at tree.depth batches (length whole)
  sequence_is =
      let after = (is_step.next (batches_made list) stands).1 in
      after.sequence ∙ (λ i. sequence_at tree.depth (longer i) (length (longer i))) ∙ ap (sequence_at tree.depth batches) (length-map whole (λ (made : Made). made.changes))

  pub wraps_are : (wraps : List Wrap) → ((batch : List Change) (limit : ℕ) → IsMarkedFor tree batch limit step → (batches : List (List Change)) → StandsFor tree batches
      → wraps ≡ wraps_at tree.depth (batches ++ batch ∷ []) step.epoch) → wraps ≡ wraps_at tree.depth batches (length whole)
  wraps_are wraps are = are changes limit is_step (batches_made list) stands ∙ (λ i. wraps_at tree.depth (longer i) (epoch_is i))

  pub no_pair : {G : Type 0} (g : SignerGhosts G) (signer : G) (spi : List ℕ) (wraps : List Wrap) → wraps ≡ wraps_at tree.depth batches (length whole) → length wraps ≡ 0
      → IsPairIfStayed g signer tree.depth spi whole None
  no_pair g signer spi wraps are none =
      subst (λ b. MatchBool b ((sent : PushPair) × (nothing ≡ Some sent) × IsPairOf g signer tree.depth spi whole sent) (nothing ≡ nothing))
      (sym (none_stayed tree.depth batches (length whole) wraps are none)) refl

  module _ (laws : Laws) (kept : Kept) (keeps : KeepsLast kept list) where
    pub a_pair : {G : Type 0} (g : SignerGhosts G) (signer : G) (spi : List ℕ) (pair : PushPair) (between : List Wrap) (last : Wrap) (arrays : List ℕ) (old_root root : NodeValue)
        → length kept.nodes ≡ 2 ^ (tree.depth + 1)
        → pair.wraps ≡ wraps_at tree.depth batches (length whole) → pair.wraps ≡ between ++ last ∷ [] → pair.first ≡ step.sequence - 1
        → AreArraysAfter kept values between arrays → slice_get kept.nodes 1 ≡ Some old_root → IsLastValue kept values 1 root
        → length old_root.iv ≡ iv_octets → length root.iv ≡ iv_octets → KindFits (g.kind_of signer)
        → IsPushText (g.signature signer) (g.size_of signer) old_root (membership_push (record { spi = spi; sequence = pair.first }) (g.kind_of signer) arrays) pair.membership
        → IsPushText (g.signature signer) (g.size_of signer) root (traffic_push (record { spi = spi; sequence = step.sequence }) values.traffic) pair.traffic
        → IsPairIfStayed g signer tree.depth spi whole (Some pair)
    a_pair g signer spi pair between last arrays old_root root room are parts first arrays_are old_is root_is old_iv iv kind membership traffic =
        let stayed = some_stayed tree.depth batches (length whole) pair.wraps between last are parts in
        let later : 0 < length list = stayed_later tree.depth batches (length list) (ap (stayed_at tree.depth batches) (sym long) ∙ stayed.0) in
        let rises : Rises (ids_of values.nodes) = drawn_rise tree.depth list made drawn in
        let known : All (IsKnown tree.depth whole) between =
        subst (All (IsKnown tree.depth whole)) (sym stayed.1) (all_known laws.marks laws.lasts laws.each tree.depth whole drawn (omega (arith, long))) in
        let n : ℕ = length list - 1 in
        let was : length list ≡ suc n = omega (arith, later) in
        let old = root_value laws.lasts tree.depth list n (drawn_before tree.depth list made drawn) was in
        let new = root_value laws.lasts tree.depth whole (length list) drawn long in
        let old_same : old_root ≡ old.0 = same_value old_root old.0 (sym old_is ∙ keeps.nodes 1 (omega (arith, room, pow_more 2 tree.depth, pow_some tree.depth)) old.0 old.1) in
        let new_same : root ≡ new.0 = root_is list changes new.0 keeps rises new.1 in
        let before : length whole - 1 ≡ suc n = omega (arith, long, was) in
        let two = two_numbers tree.depth batches (length list) (ap (stayed_at tree.depth batches) (sym long) ∙ stayed.0) in
        let number : pair.first + 1 ≡ step.sequence = omega (arith, first, sequence_is, two, ap (sequence_at tree.depth batches) long) in
        let is_pair : IsPairOf g signer tree.depth spi whole pair = record {
          first = number ∙ sequence_is;
          wraps = are;
          kind = kind;
          arrays = arrays;
          are_arrays = (arrays_are.jobs, subst (λ wraps. AreJobsOf whole wraps arrays_are.jobs) stayed.1 (are_jobs tree.depth list changes values kept keeps rises between arrays_are.jobs known arrays_are.are_jobs), arrays_are.are_texts);
          old_root = old_root;
          is_old_root = ap (node_value whole 1) before ∙ node_value-more list (made ∷ []) 1 (suc n) old.0 old.2 ∙ ap Some (sym old_same);
          old_iv = old_iv;
          membership = membership;
          root = root;
          is_root = ap (node_value whole 1) long ∙ new.2 ∙ ap Some (sym new_same);
          iv = iv;
          key = values.traffic;
          is_key = ap (traffic_value whole) long ∙ traffic_value-end list made;
          traffic = subst (λ number. IsPushText (g.signature signer) (g.size_of signer) root (traffic_push (record { spi = spi; sequence = number }) values.traffic) pair.traffic) (sym number) traffic;
        } in
        subst (λ b. MatchBool b ((sent : PushPair) × (Some pair ≡ Some sent) × IsPairOf g signer tree.depth spi whole sent) (Some pair ≡ None)) (sym stayed.0) (pair, refl, is_pair)
