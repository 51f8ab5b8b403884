-- A member that goes out of a full tree changes its leaf alone, and somebody stays at each other one.
use Rattle.std.proofs.Common.{◌≡◌, ℕ, zero, suc, ◌^◌, ◌<◌, Bool, true, false, cond, not, eqb, [], ◌∷◌, Option, Some, None, length, get_or}
use Rattle.std.proofs.Common.{refl, sym, ap, ◌∙◌, subst, arith, inl, inr}
use Rattle.std.specs.Prelude.{is_some}
use Rattle.std.specs.List.{count_by, position_or_len, zip}
use Rattle.std.proofs.lemmas.Bool.{cases_eq, eq-eqb, false_from_ne_true, false≢true, ltb-true, ne_eqb}
use Rattle.std.proofs.lemmas.List.{get_or-map, length-map}
use Rattle.std.proofs.lemmas.List.Sums.{count_by-le-length, passes_at_first, sum_by-cons}
use Rattle.std.proofs.lemmas.Slice.Zip.{length-zip, get_or-zip}
use Rattle.group_terms.specs.Names.{Name}
use Rattle.group_model.specs.Fresh.{changed_leaves, is_same_holder}
use Rattle.group_model.specs.Places.{Holders, is_held_by, is_member, member_count, vacated}
use Rattle.group_model.specs.Indexes.{AreOnce}
use Rattle.group_model.specs.Stayed.{is_kept, kept_leaves}
use Rattle.rekey_plan.proofs.RemovalLemmas.{IsAlone}
use Rattle.key_tree.proofs.SeatLemmas.{same_as_itself, vacated_get}
use Rattle.group_model.proofs.IndexLemmas.{first_passes}
use Rattle.group_model.proofs.StayedLemmas.{member_at, same_name-self}

-- where each leaf is taken
all_held : (holders : Holders) (i : ℕ) → count_by is_some holders ≡ length holders → i < length holders → is_some (get_or holders i None) ≡ true
all_held [] i all low = absurd (omega (arith, low))
all_held (None ∷ holders) i all low =
    absurd (omega (arith, all, sum_by-cons (λ (holder : Option Name). cond {A = ℕ} (is_some holder) 1 0) None holders, count_by-le-length is_some holders))
all_held (Some name ∷ holders) zero all low = refl
all_held (Some name ∷ holders) (suc i) all low =
    all_held holders i (omega (arith, all, sum_by-cons (λ (holder : Option Name). cond {A = ℕ} (is_some holder) 1 0) (Some name) holders)) (omega (arith, low))

some_left : (holder : Option Name) → is_some holder ≡ true → not (is_same_holder holder None) ≡ true
some_left None some = absurd (false≢true some)
some_left (Some name) some = refl

kept_member : (holders : Holders) (i : ℕ) (holder : Option Name) → i < length holders → get_or holders i None ≡ holder → is_some holder ≡ true
    → is_kept holders holder ≡ true
kept_member holders i None low is some = absurd (false≢true some)
kept_member holders i (Some name) low is some = member_at holders name i low (ap (is_held_by name) is ∙ same_name-self name)

-- a member that goes out changes its leaf alone, and all others stay
module _ (depth : ℕ) (before : Holders) (m : Name) (once : AreOnce before) (long : length before ≡ 2 ^ depth)
    (full : member_count before ≡ 2 ^ depth) (member : is_member before m ≡ true) where
  abbrev place : ℕ
  place = position_or_len (is_held_by m) before

  abbrev after : Holders
  after = vacated before m

  found : place < length before
  found = ltb-true place (length before) (first_passes (is_held_by m) before ∙ member)

  held : is_held_by m (get_or before place None) ≡ true
  held = passes_at_first (is_held_by m) before None found

  each_held : (i : ℕ) → i < 2 ^ depth → is_some (get_or before i None) ≡ true
  each_held i low = all_held before i (omega (arith, full, long)) (omega (arith, low, long))

  long_after : length after ≡ 2 ^ depth
  long_after = length-map before (λ holder. cond (is_held_by m holder) None holder) ∙ long

  gone : (i : ℕ) → i ≡ place → get_or after i None ≡ None
  gone i here =
      vacated_get before m i ∙ ap (λ b. cond b None (get_or before i None)) (subst (λ k. is_held_by m (get_or before k None) ≡ true) (sym here) held)

  stays : (i : ℕ) → (i ≡ place → ⊥) → get_or after i None ≡ get_or before i None
  stays i other = vacated_get before m i ∙ ap (λ b. cond b None (get_or before i None)) (false_from_ne_true _ (λ here. other (once m i place here held)))

  abbrev is_other : Option Name × Option Name → Bool
  is_other pair = not (is_same_holder pair.0 pair.1)

  changes : (i : ℕ) → i < 2 ^ depth → get_or (changed_leaves before after) i false ≡ eqb i place
  changes i low =
      get_or-map is_other (zip before after) i (None, None) false (omega (arith, low, long, long_after, length-zip before after))
      ∙ ap is_other (get_or-zip before after i (None, None) (omega (arith, low, long)) (omega (arith, low, long_after)))
      ∙ elim (cases_eq i place) [
        | inl here ↦ ap (λ holder. not (is_same_holder (get_or before i None) holder)) (gone i here)
            ∙ some_left (get_or before i None) (each_held i low) ∙ sym (eq-eqb i place here)
        | inr other ↦ ap (λ holder. not (is_same_holder (get_or before i None) holder)) (stays i other)
            ∙ ap not (same_as_itself (get_or before i None)) ∙ sym (ne_eqb i place other)
      ]

  keeps : (i : ℕ) → i < 2 ^ depth → get_or (kept_leaves before after) i false ≡ not (eqb i place)
  keeps i low =
      get_or-map (is_kept before) after i None false (omega (arith, low, long_after))
      ∙ elim (cases_eq i place) [
        | inl here ↦ ap (is_kept before) (gone i here) ∙ sym (ap not (eq-eqb i place here))
        | inr other ↦ ap (is_kept before) (stays i other)
            ∙ kept_member before i (get_or before i None) (omega (arith, low, long)) refl (each_held i low) ∙ sym (ap not (ne_eqb i place other))
      ]

  pub leaves_alone : IsAlone depth place (changed_leaves before after) (kept_leaves before after)
  leaves_alone = record {
    low = omega (arith, found, long);
    long_changed = length-map (zip before after) is_other ∙ length-zip before after ∙ omega (arith, long, long_after);
    long_kept = length-map after (is_kept before) ∙ long_after;
    changes = changes;
    keeps = keeps;
  }
