-- Lines of a block that was begun.
use Rattle.std.proofs.Common.{◌≡◌, ◌∙◌, ◌||◌, ℕ, ◌+◌, ◌<◌, ◌≤◌, Bool, true, false, List, [], ◌∷◌, ◌++◌, length, sym, refl, ap, subst, inl, inr, arith}
use Rattle.std.specs.Prelude.{nat_lt, not}
use Rattle.std.specs.List.{AllByRecursion, IsDistinct, flat_map, list_any}
use Rattle.std.proofs.lemmas.Bool.{and_parts, cases_Bool, false≢true, ltb-true, not-true, or_parts}
use Rattle.std.proofs.lemmas.Grind.{flat_map-append}
use Rattle.std.proofs.lemmas.List.{append-nil, length-append}
use Rattle.std.proofs.lemmas.List.Folds.{list_any-append}
use Rattle.std.proofs.lemmas.Slice.Eq.{bytes_eq-Decides}
use Rattle.group_terms.specs.Names.{Name, same_name}
use Rattle.group_run.specs.Places.{AreAsked}
use Rattle.register_workers.specs.Own.{named_by}
use Rattle.register_workers.specs.declared.lines.BlockAsk.{BlockAsk}
use Rattle.register_workers.specs.declared.lines.BlockAsk.TheVariants.{Again, Batch, Join, Leave, Now}
use Rattle.console_run.specs.Blocks.{fits_block, most_asks, names}
use Rattle.console_run.specs.Private.Runs.{IsFine}
use Rattle.console_run.specs.declared.open_blocks.OpenBlock.{OpenBlock}

-- whether one of some lists has such an item
any_in_flat : {X Y : Type 0} (p : Y → Bool) (f : X → List Y) (xs : List X) → list_any (λ x. list_any p (f x)) xs ≡ list_any p (flat_map f xs)
any_in_flat p f [] = refl
any_in_flat p f (x ∷ xs) = ap (λ b. list_any p (f x) || b) (any_in_flat p f xs) ∙ sym (list_any-append p (f x) (flat_map f xs))

same_back : (m other : Name) → same_name m other ≡ false → same_name other m ≡ false
same_back m other apart = elim (cases_Bool (same_name other m)) [
  | inl same ↦ absurd (false≢true (sym apart ∙ (bytes_eq-Decides m other).1 (sym ((bytes_eq-Decides other m).0 same))))
  | inr other ↦ other
]

-- a name after others, none of which is the same
all_more : (first m : Name) (others : List Name) → AllByRecursion (λ other. same_name first other ≡ false) others → same_name first m ≡ false
    → AllByRecursion (λ other. same_name first other ≡ false) (others ++ m ∷ [])
all_more first m [] all apart = (apart, tt)
all_more first m (other ∷ others) all apart = (all.0, all_more first m others all.1 apart)

distinct_more : (m : Name) (others : List Name) → IsDistinct same_name others → list_any (same_name m) others ≡ false
    → IsDistinct same_name (others ++ m ∷ [])
unfolding IsDistinct
distinct_more m [] distinct none = (tt, tt)
distinct_more m (first ∷ others) distinct none =
    let parts = or_parts (same_name m first) (list_any (same_name m) others) none in
    (all_more first m others distinct.0 (same_back m first parts.0), distinct_more m others distinct.1 parts.1)

-- one line more that names nobody a second time
asked_none : (so_far : List BlockAsk) (ask : BlockAsk) → named_by ask ≡ [] → AreAsked so_far → AreAsked (so_far ++ ask ∷ [])
asked_none so_far ask none asked =
    subst (IsDistinct same_name)
    (sym (flat_map-append named_by so_far (ask ∷ []) ∙ ap (λ names. flat_map named_by so_far ++ (names ++ [])) none ∙ append-nil (flat_map named_by so_far))) asked

asked_one : (so_far : List BlockAsk) (ask : BlockAsk) (m : Name) → named_by ask ≡ m ∷ [] → list_any (names so_far) (named_by ask) ≡ false → AreAsked so_far
    → AreAsked (so_far ++ ask ∷ [])
asked_one so_far ask m one apart asked =
    let none = (or_parts (names so_far m) false (ap (list_any (names so_far)) (sym one) ∙ apart)).0 in
    subst (IsDistinct same_name)
    (sym (flat_map-append named_by so_far (ask ∷ []) ∙ ap (λ names. flat_map named_by so_far ++ (names ++ [])) one))
    (distinct_more m (flat_map named_by so_far) asked (sym (any_in_flat (same_name m) named_by so_far) ∙ none))

asked_more : (so_far : List BlockAsk) (ask : BlockAsk) → list_any (names so_far) (named_by ask) ≡ false → AreAsked so_far → AreAsked (so_far ++ ask ∷ [])
asked_more so_far (Join m) apart asked = asked_one so_far (Join m) m refl apart asked
asked_more so_far (Again m) apart asked = asked_one so_far (Again m) m refl apart asked
asked_more so_far (Leave m) apart asked = asked_one so_far (Leave m) m refl apart asked
asked_more so_far Batch apart asked = asked_none so_far Batch refl asked
asked_more so_far Now apart asked = asked_none so_far Now refl asked

-- a line that fits leaves a block that can be run
pub fits_more : (so_far : List BlockAsk) (ask : BlockAsk) → fits_block so_far ask ≡ true → AreAsked so_far
    → (length (so_far ++ ask ∷ []) ≤ most_asks) × AreAsked (so_far ++ ask ∷ [])
fits_more so_far ask fits asked =
    let parts = and_parts (nat_lt (length so_far) most_asks) (not (list_any (names so_far) (named_by ask))) fits in
    let room : length so_far < 512 = ltb-true (length so_far) most_asks parts.0 in
    (omega (arith, room, length-append so_far (ask ∷ [])), asked_more so_far ask (not-true (list_any (names so_far) (named_by ask)) parts.1) asked)

-- a block without lines, which begins there
pub none_asked : (count : ℕ) (block : OpenBlock) → block.asks ≡ [] → block.before ≡ count → IsFine (count + 1) block
unfolding IsDistinct
none_asked count block none before = record {
  few = subst (λ asks. length asks ≤ most_asks) (sym none) (omega arith);
  apart = subst AreAsked (sym none) tt;
  before = omega (arith, before);
}

-- a block with one line more
pub fine_more : (count : ℕ) (old new : OpenBlock) (ask : BlockAsk) → fits_block old.asks ask ≡ true → new.asks ≡ old.asks ++ ask ∷ []
    → new.before ≡ old.before → IsFine count old → IsFine (count + 1) new
fine_more count old new ask fits more before fine =
    let grown = fits_more old.asks ask fits fine.apart in
    let less : old.before < count = fine.before in
    record {
      few = subst (λ asks. length asks ≤ most_asks) (sym more) grown.0;
      apart = subst AreAsked (sym more) grown.1;
      before = omega (arith, before, less);
    }
