-- A batch encrypts at most two keys for each inner position that it renews, and the traffic key; a removal from a full tree one key less than that.
use Rattle.std.proofs.Common.{◌≡◌, ℕ, zero, suc, ◌+◌, ◌-◌, ◌*◌, ◌^◌, ◌≤◌, Bool, true, false, cond, List, [], ◌∷◌, ◌++◌, length, map, refl, sym, ap, ◌∙◌}
use Rattle.std.proofs.Common.{subst, arith}
use Rattle.std.specs.List.{filter, flat_map, position_or_len}
use Rattle.std.proofs.lemmas.List.{length-append}
use Rattle.group_terms.specs.Names.{Name}
use Rattle.group_terms.specs.Positions.{some_leaf_below}
use Rattle.group_terms.specs.declared.changes.Change.{Change}
use Rattle.group_terms.specs.declared.changes.Change.TheVariants.{Out}
use Rattle.group_terms.specs.declared.keys.KeyName.TheVariants.{Node, Traffic}
use Rattle.group_terms.specs.declared.keys.Wrap.{Wrap}
use Rattle.group_model.specs.Fresh.{changed_leaves, is_fresh, node_name}
use Rattle.group_model.specs.Places.{Holders, IsValid, holders_after, holders_at, holders_of, is_held_by, no_holders, vacated}
use Rattle.group_model.specs.Indexes.{AreOnce}
use Rattle.group_model.specs.Stayed.{is_kept, kept_leaves, somebody_stayed, stayed_at}
use Rattle.rekey_plan.specs.WrapCounts.{RemovalsWrapTwice, WrapsAreFew}
use Rattle.group_model.specs.Wraps.{falling, node_wraps, wraps_at}
use Rattle.group_model.proofs.EpochLemmas.{fold-append_one, holders_at-all, holders_at-append, length-holders_of}
use Rattle.rekey_plan.proofs.FreshLemmas.{fresh_few}
use Rattle.rekey_plan.proofs.FullLemmas.{leaves_alone}
use Rattle.group_model.proofs.OnceLemmas.{AreOnce-at}
use Rattle.rekey_plan.proofs.RemovalLemmas.{ByChildren, sent_alone, somebody_else, two_pass}
use Rattle.group_model.proofs.WrapLemmas.{list_any-map_self}

-- what is sent for a position, where these had the leaves before and after the batch
module _ (depth : ℕ) (wrap : ℕ → ℕ → Wrap) (before after : Holders) where
  abbrev sent_for : ℕ → List Wrap
  sent_for v = map (wrap v) (filter (some_leaf_below depth (kept_leaves before after)) (2 * v ∷ (2 * v + 1) ∷ []))

  abbrev sent : List Wrap
  sent = flat_map sent_for (filter (is_fresh depth before after) (falling (2 ^ depth - 1)))

one_at_most : (b : Bool) → cond b 1 0 ≤ 1
one_at_most true = omega arith
one_at_most false = omega arith

two_each : (p : ℕ → Bool) (f : ℕ → ℕ → Wrap) (vs : List ℕ) → length (flat_map (λ v. map (f v) (filter p (2 * v ∷ (2 * v + 1) ∷ []))) vs) ≤ 2 * length vs
two_each p f [] = omega arith
two_each p f (v ∷ vs) =
    omega (
      arith,
      length-append (map (f v) (filter p (2 * v ∷ (2 * v + 1) ∷ []))) (flat_map (λ v. map (f v) (filter p (2 * v ∷ (2 * v + 1) ∷ []))) vs),
      two_pass p (f v) (2 * v) (2 * v + 1),
      one_at_most (p (2 * v)),
      one_at_most (p (2 * v + 1)),
      two_each p f vs,
    )

-- what the next batch sends depends on who has which leaf before and after it
module _ (depth : ℕ) (batches : List (List Change)) (batch : List Change) where
  abbrev longer : List (List Change)
  longer = batches ++ batch ∷ []

  abbrev next : ℕ
  next = length batches + 1

  abbrev wrap_at : ℕ → ℕ → Wrap
  wrap_at v child = record { by = node_name depth longer next child; gives = Node v next }

  before_is : holders_at depth longer (next - 1) ≡ holders_of depth batches
  before_is = holders_at-append depth batches batch (next - 1) (omega arith) ∙ holders_at-all depth batches (next - 1) (omega arith)

  after_is : holders_at depth longer next ≡ holders_after (holders_of depth batches) batch
  after_is =
      holders_at-all depth longer next (omega (arith, length-append batches (batch ∷ [])))
      ∙ fold-append_one holders_after (no_holders depth) batches batch

  node_wraps-sent : node_wraps depth longer next ≡ sent depth wrap_at (holders_of depth batches) (holders_after (holders_of depth batches) batch)
  node_wraps-sent = λ i. sent depth wrap_at (before_is i) (after_is i)

AreOnce-of : (depth : ℕ) (batches : List (List Change)) → IsValid depth batches → AreOnce (holders_of depth batches)
AreOnce-of depth batches valid = subst AreOnce (holders_at-all depth batches (length batches) (omega arith)) (AreOnce-at depth (length batches) batches valid)

-- the traffic key is one more, where anybody stayed
one_more : (stayed : Bool) (wraps : List Wrap) (last : Wrap) → length (cond stayed (wraps ++ last ∷ []) []) ≤ length wraps + 1
one_more true wraps last = omega (arith, length-append wraps (last ∷ []))
one_more false wraps last = omega arith

pub wraps_are_few : WrapsAreFew
unfolding wraps_at
wraps_are_few depth batches batch valid =
    let before : Holders = holders_of depth batches in
    let after : Holders = holders_after before batch in
    let renewed : List ℕ = filter (is_fresh depth before after) (falling (2 ^ depth - 1)) in
    let all : List (List Change) = longer depth batches batch in
    let epoch : ℕ = next depth batches batch in
    let kept : ℕ → Bool = some_leaf_below depth (kept_leaves before after) in
    let each : length (node_wraps depth all epoch) ≤ 2 * length renewed =
    omega (arith, ap length (node_wraps-sent depth batches batch), two_each kept (wrap_at depth batches batch) renewed) in
    omega (
      arith,
      fresh_few depth before batch (AreOnce-of depth batches valid) (length-holders_of depth batches),
      each,
      one_more (stayed_at depth all epoch) (node_wraps depth all epoch) (record { by = Node 1 epoch; gives = Traffic epoch }),
    )

after_removal : (before : Holders) (m : Name) → holders_after before (Out m ∷ []) ≡ vacated before m
unfolding holders_after
after_removal before m = refl

pub removals_wrap_twice : ((depth : ℕ) → ByChildren depth) → RemovalsWrapTwice
unfolding wraps_at
removals_wrap_twice child zero batches m h = absurd (omega (arith, h.some))
removals_wrap_twice child (suc steps) batches m h =
    let depth : ℕ = suc steps in
    let batch : List Change = Out m ∷ [] in
    let before : Holders = holders_of depth batches in
    let all : List (List Change) = longer depth batches batch in
    let epoch : ℕ = next depth batches batch in
    let last : List Wrap = record { by = Node 1 epoch; gives = Traffic epoch } ∷ [] in
    let left : holders_after before batch ≡ vacated before m = after_removal before m in
    let place : ℕ = position_or_len (is_held_by m) before in
    let changed : List Bool = changed_leaves before (vacated before m) in
    let kept : List Bool = kept_leaves before (vacated before m) in
    let alone = leaves_alone depth before m (AreOnce-of depth batches h.valid) (length-holders_of depth batches) h.full h.member in
    let nodes : length (node_wraps depth all epoch) ≡ 2 * depth - 1 =
    ap length (node_wraps-sent depth batches batch) ∙ ap (λ after. length (sent depth (wrap_at depth batches batch) before after)) left
    ∙ sent_alone steps place changed kept alone (child depth) (wrap_at depth batches batch) in
    let stayed : stayed_at depth all epoch ≡ true =
    (λ i. somebody_stayed (before_is depth batches batch i) (after_is depth batches batch i)) ∙ ap (somebody_stayed before) left
    ∙ sym (list_any-map_self (is_kept before) (vacated before m))
    ∙ somebody_else steps place changed kept alone in
    (nodes, ap (λ b. length (cond b (node_wraps depth all epoch ++ last) [])) stayed ∙ length-append (node_wraps depth all epoch) last ∙ omega (arith, nodes))
