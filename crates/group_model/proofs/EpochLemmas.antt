-- The holders and last changes of an epoch, and what one batch more does to them.
use Rattle.std.proofs.Common.{◌≡◌, ℕ, zero, suc, ◌+◌, ◌^◌, ◌<◌, ◌≤◌, true, false, cond, not, ltb, List, [], ◌∷◌, ◌++◌, Option, Some, None, length, take, get_or, replicate, sym, refl, ap, ◌∙◌, arith}
use Rattle.std.specs.List.{fold, position, position_or_len}
use Rattle.std.specs.Option.{option_map}
use Rattle.std.proofs.lemmas.Bool.{eq-eqb, ne_eqb, le-ltb}
use Rattle.std.proofs.lemmas.List.{length-map, length-set, length-replicate, take-append-le, take_all, get_or-replicate}
use Rattle.std.proofs.lemmas.List.Elements.{All-replicate}
use Rattle.std.proofs.lemmas.List.Folds.{list_any_none}
use Rattle.std.proofs.lemmas.List.FromFn.{get_or-map-range_with_len, length-map-range_with_len, fill_by_all}
use Rattle.std.proofs.lemmas.List.Folds.{prefix_len-replicate}
use Rattle.std.proofs.Math.Pow.{pow_pos}
use Rattle.group_terms.specs.Changes.{leavers, joiners}
use Rattle.group_terms.specs.Names.{Name}
use Rattle.group_terms.specs.declared.changes.Change.{Change}
use Rattle.group_model.specs.Places.{Holders, no_holders, is_held_by, is_member, place_in, vacated, placed, holders_after, holders_of, holders_at, Fits, FitInTurn}
use Rattle.group_model.specs.Fresh.{is_fresh, last_change}
use Rattle.group_model.specs.Private.Trees.{is_made_in, StandsAt, HasShape}
use Rattle.group_model.specs.LastChanges.{changes_at}
use Rattle.group_model.specs.declared.trees.Tree.{Tree}

pow_pos_at : (n : ℕ) → 0 < 2 ^ n
pow_pos_at n = pow_pos n

-- a fold whose steps keep a length keeps it
pub length-fold : {A B : Type 0} (f : List A → B → List A) → ((xs : List A) (b : B) → length (f xs b) ≡ length xs) → (xs : List A) (bs : List B) → length (fold f xs bs) ≡ length xs
length-fold f keeps xs [] = refl
length-fold f keeps xs (b ∷ bs) = length-fold f keeps (f xs b) bs ∙ keeps xs b

pub length-holders_after : (holders : Holders) (batch : List Change) → length (holders_after holders batch) ≡ length holders
unfolding holders_after
length-holders_after holders batch =
    length-fold placed (λ xs m. length-set xs _ (Some m)) (fold vacated holders (leavers batch)) (joiners batch)
    ∙ length-fold vacated (λ xs m. length-map xs _) holders (leavers batch)

pub length-holders_of : (depth : ℕ) (batches : List (List Change)) → length (holders_of depth batches) ≡ 2 ^ depth
length-holders_of depth batches = length-fold holders_after length-holders_after (no_holders depth) batches ∙ length-replicate (2 ^ depth) None

pub fold-append_one : {A B : Type 0} (f : B → A → B) (b : B) (xs : List A) (x : A) → fold f b (xs ++ x ∷ []) ≡ f (fold f b xs) x
fold-append_one f b [] x = refl
fold-append_one f b (y ∷ ys) x = fold-append_one f (f b y) ys x

-- an earlier epoch is as it was
pub holders_at-append : (depth : ℕ) (batches : List (List Change)) (batch : List Change) (epoch : ℕ) → epoch ≤ length batches → holders_at depth (batches ++ batch ∷ []) epoch ≡ holders_at depth batches epoch
holders_at-append depth batches batch epoch early = ap (holders_of depth) (take-append-le epoch batches (batch ∷ []) early)

-- the last epoch has all batches
pub holders_at-all : (depth : ℕ) (batches : List (List Change)) (epoch : ℕ) → length batches ≤ epoch → holders_at depth batches epoch ≡ holders_of depth batches
holders_at-all depth batches epoch late = ap (holders_of depth) (take_all epoch batches late)

pub last_change-append : (depth : ℕ) (batches : List (List Change)) (batch : List Change) (epoch v : ℕ) → epoch ≤ length batches → last_change depth (batches ++ batch ∷ []) epoch v ≡ last_change depth batches epoch v
unfolding last_change
last_change-append depth batches batch zero v early = refl
last_change-append depth batches batch (suc epoch) v early =
    rw (holders_at-append depth batches batch epoch (omega arith), holders_at-append depth batches batch (suc epoch) early, last_change-append depth batches batch epoch v (omega arith))
    refl

-- what is kept of a last change
pub get_or-changes_at : (depth : ℕ) (batches : List (List Change)) (epoch v : ℕ) → v < 2 ^ (depth + 1) → get_or (changes_at depth batches epoch) v None ≡ last_change depth batches epoch v
get_or-changes_at depth batches epoch v low = get_or-map-range_with_len (last_change depth batches epoch) 0 (2 ^ (depth + 1)) v v None low (omega arith)

pub length-changes_at : (depth : ℕ) (batches : List (List Change)) (epoch : ℕ) → length (changes_at depth batches epoch) ≡ 2 ^ (depth + 1)
length-changes_at depth batches epoch = length-map-range_with_len (last_change depth batches epoch) 0 (2 ^ (depth + 1))

-- nobody is a member at epoch 0
pub is_member-no_holders : (depth : ℕ) (m : Name) → is_member (no_holders depth) m ≡ false
is_member-no_holders depth m = list_any_none (is_held_by m) (no_holders depth) (All-replicate (λ holder. is_held_by m holder ≡ false) (2 ^ depth) None refl)

-- no position was made after the epoch
pub made_by : (depth : ℕ) (batches : List (List Change)) (epoch later v : ℕ) → epoch < later → is_made_in later (last_change depth batches epoch v) ≡ false
unfolding last_change
made_by depth batches zero later v early = refl
made_by depth batches (suc epoch) later v early =
    elim (is_fresh depth (holders_at depth batches epoch) (holders_at depth batches (suc epoch)) v)
    as (λ fresh. is_made_in later (cond fresh (Some (suc epoch)) (last_change depth batches epoch v)) ≡ false) [
      | true ↦ ne_eqb (suc epoch) later (λ same. absurd (omega (arith, same, early)))
      | false ↦ made_by depth batches epoch later v (omega arith)
    ]

-- a position was made in an epoch exactly where it is fresh there
pub made_in-fresh : (depth : ℕ) (batches : List (List Change)) (epoch v : ℕ) → is_made_in (suc epoch) (last_change depth batches (suc epoch) v) ≡ is_fresh depth (holders_at depth batches epoch) (holders_at depth batches (suc epoch)) v
unfolding last_change
made_in-fresh depth batches epoch v =
    elim (is_fresh depth (holders_at depth batches epoch) (holders_at depth batches (suc epoch)) v)
    as (λ fresh. is_made_in (suc epoch) (cond fresh (Some (suc epoch)) (last_change depth batches epoch v)) ≡ fresh) [
      | true ↦ eq-eqb (suc epoch) (suc epoch) refl
      | false ↦ made_by depth batches epoch (suc epoch) v (omega arith)
    ]

-- each batch of a valid list fits what those before it left
pub FitInTurn-at : (holders : Holders) (batches : List (List Change)) (epoch : ℕ) → FitInTurn holders batches → epoch < length batches → (batch : List Change) × Fits (fold holders_after holders (take epoch batches)) batch × (fold holders_after holders (take (suc epoch) batches) ≡ holders_after (fold holders_after holders (take epoch batches)) batch)
FitInTurn-at holders [] epoch h early = absurd (omega (arith, early))
FitInTurn-at holders (batch ∷ batches) zero h early = (batch, h.0, refl)
FitInTurn-at holders (batch ∷ batches) (suc epoch) h early = FitInTurn-at (holders_after holders batch) batches epoch h.1 (omega arith)

pub FitInTurn-append : (holders : Holders) (batches : List (List Change)) (batch : List Change) → FitInTurn holders batches → Fits (fold holders_after holders batches) batch → FitInTurn holders (batches ++ batch ∷ [])
FitInTurn-append holders [] batch h fits = (fits, tt)
FitInTurn-append holders (first ∷ batches) batch h fits = (h.0, FitInTurn-append (holders_after holders first) batches batch h.1 fits)

-- the last batch fits what those before it left
pub FitInTurn-last : (holders : Holders) (batches : List (List Change)) (batch : List Change) → FitInTurn holders (batches ++ batch ∷ []) → Fits (fold holders_after holders batches) batch
FitInTurn-last holders [] batch h = h.0
FitInTurn-last holders (first ∷ batches) batch h = FitInTurn-last (holders_after holders first) batches batch h.1

-- a tree of an epoch has a holder for each leaf, and a last change for each number
pub HasShape-from_stands : (depth : ℕ) (batches : List (List Change)) (epoch : ℕ) (tree : Tree) → StandsAt depth batches epoch tree → HasShape depth tree
HasShape-from_stands depth batches epoch tree h = record {
  leaves = ap length h.holders ∙ length-holders_of depth (take epoch batches);
  positions = ap length h.made ∙ length-changes_at depth batches epoch;
}

-- at epoch 0 nobody has a place
pub place_in-first : (depth : ℕ) (batches : List (List Change)) (epoch : ℕ) (m : Name) → epoch ≡ 0 → None ≡ place_in depth (holders_at depth batches epoch) m
place_in-first depth batches epoch m first =
    rw first (sym (ap (λ o. option_map (λ i. 2 ^ depth + i) o) nowhere))
  where
    whole : position_or_len (is_held_by m) (no_holders depth) ≡ 2 ^ depth
    whole = prefix_len-replicate (λ holder. not (is_held_by m holder)) (2 ^ depth) None refl

    past : ltb (position_or_len (is_held_by m) (no_holders depth)) (length (no_holders depth)) ≡ false
    past =
        let nobody : Option Name = None in
        le-ltb (position_or_len (is_held_by m) (no_holders depth)) (length (no_holders depth)) (omega (arith, whole, length-replicate (2 ^ depth) nobody))

    nowhere : position (is_held_by m) (no_holders depth) ≡ None
    nowhere = ap (λ b. cond b (Some (position_or_len (is_held_by m) (no_holders depth))) None) past

pub last_change-first : (depth : ℕ) (batches : List (List Change)) (epoch v : ℕ) → epoch ≡ 0 → None ≡ last_change depth batches epoch v
unfolding last_change
last_change-first depth batches epoch v first = rw first refl

pub changes_at-first : (depth : ℕ) (batches : List (List Change)) → replicate (2 ^ (depth + 1)) None ≡ changes_at depth batches 0
unfolding last_change
changes_at-first depth batches =
    fill_by_all (λ v. None) (replicate (2 ^ (depth + 1)) None) (2 ^ (depth + 1)) None (length-replicate (2 ^ (depth + 1)) None) (λ k low. get_or-replicate (2 ^ (depth + 1)) k None None low)
