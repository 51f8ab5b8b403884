-- The last changes once a batch is in, and what is found out of a position.
use Rattle.std.proofs.Common.{◌≡◌, ℕ, ◌+◌, ◌^◌, ◌<◌, Bool, true, false, List, [], ◌∷◌, Option, None, Some, cond, eqb, not, ◌&&◌, ◌||◌, length, map, get_or, inl, inr, refl, sym, ap, ◌∙◌, arith}
use Rattle.std.specs.Prelude.{is_some}
use Rattle.std.specs.List.{enumerate_from, list_any}
use Rattle.std.proofs.lemmas.Bool.{and_right, cases_Bool, false≢true, or_parts}
use Rattle.std.proofs.lemmas.List.FromFn.{get_or-map-range_with_len}
use Rattle.group_terms.specs.Names.{Name}
use Rattle.group_terms.specs.Positions.{is_below, some_leaf_below, marks_of}
use Rattle.group_model.specs.Fresh.{changed_leaves, is_fresh, is_same_holder}
use Rattle.group_model.specs.LastChanges.{renewed_at}
use Rattle.group_model.specs.Places.{Holders}
use Rattle.key_tree.specs.declared.marks.Marked.{Marked}
use Rattle.key_tree.specs.Marks.{holders_then, installed, is_stayed_below}
use Rattle.key_tree.specs.Present.{Present}
use Rattle.tree_leaves.specs.Unchanged.{unchanged_holders}

-- a position has a new key after a batch where it is the root, or a leaf that changed hands is below it
pub changes-installed : (tree : Present) (marked : Marked) (v : ℕ) → v < 2 ^ (tree.depth + 1) → length tree.changes ≡ 2 ^ (tree.depth + 1)
    → get_or (installed tree marked).changes v None
    ≡ cond (is_fresh tree.depth tree.holders (holders_then tree marked) v) (Some marked.epoch) (get_or tree.changes v None)
changes-installed tree marked v within long =
    let leaves : List Bool = changed_leaves tree.holders (holders_then tree marked) in
    let marks : List Bool = marks_of tree.depth leaves in
    let mark : get_or marks v false ≡ some_leaf_below tree.depth leaves v = get_or-map-range_with_len (some_leaf_below tree.depth leaves) 0 (2 ^ (tree.depth + 1)) v v false within (omega arith) in
    get_or-map-range_with_len (renewed_at marked.epoch tree.changes marks) 0 (length tree.changes) v v None (omega (arith, within, long)) (omega arith)
    ∙ ap (λ b. cond (eqb v 1 || b) (Some marked.epoch) (get_or tree.changes v None)) mark

-- a leaf with the same holder as before is somebody's where it was
same_some : (before after : Option Name) → is_same_holder before after ≡ true → (is_some after && is_same_holder before after) ≡ is_some before
same_some None None same = refl
same_some None (Some m) same = absurd (false≢true same)
same_some (Some n) None same = absurd (false≢true same)
same_some (Some n) (Some m) same = same

one_unchanged : (before after : Option Name) (below : Bool) → (not (is_same_holder before after) && below) ≡ false
    → ((is_some after && is_same_holder before after) && below) ≡ (is_some before && below)
one_unchanged before after false h = and_right (is_some after && is_same_holder before after) false refl ∙ sym (and_right (is_some before) false refl)
one_unchanged before after true h = elim (cases_Bool (is_same_holder before after)) [
  | inl same ↦ ap (λ b. b && true) (same_some before after same)
  | inr other ↦ absurd (false≢true (sym h ∙ ap (λ b. not b && true) other))
]

-- where no leaf below a position changed hands, those who have one there had it before
pub none_below : (depth v first : ℕ) (before after : Holders) → length after ≡ length before
    → list_any (λ (leaf : ℕ × Bool). leaf.1 && is_below depth v leaf.0) (enumerate_from first (changed_leaves before after)) ≡ false
    → list_any (λ (leaf : ℕ × Bool). leaf.1 && is_below depth v leaf.0) (enumerate_from first (unchanged_holders before after))
    ≡ list_any (λ (leaf : ℕ × Bool). leaf.1 && is_below depth v leaf.0) (enumerate_from first (map is_some before))
none_below depth v first [] [] long h = refl
none_below depth v first [] (a ∷ after) long h = absurd (omega (arith, long))
none_below depth v first (b ∷ before) [] long h = absurd (omega (arith, long))
none_below depth v first (b ∷ before) (a ∷ after) long h =
    let parts = or_parts (not (is_same_holder b a) && is_below depth v first) _ h in
    λ i. one_unchanged b a (is_below depth v first) parts.0 i || none_below depth v (first + 1) before after (omega (arith, long)) parts.1 i

-- below a position that is not renewed those who have a leaf had it before
pub stayed_as_held : (depth : ℕ) (before after : Holders) (v : ℕ) → length after ≡ length before → is_fresh depth before after v ≡ false
    → is_stayed_below depth before after v ≡ some_leaf_below depth (map is_some before) v
stayed_as_held depth before after v long stale =
    none_below depth v (2 ^ depth) before after long (or_parts (eqb v 1) (some_leaf_below depth (changed_leaves before after) v) stale).1
