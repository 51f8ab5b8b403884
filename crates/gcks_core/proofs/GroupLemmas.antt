-- A group that takes in a batch that is due.
use Rattle.std.proofs.Common.{◌≡◌, ◌∙◌, ℕ, zero, suc, false, Option, None, Some, replicate, ◌+◌, ◌^◌, List, [], ◌∷◌, ◌++◌, length, refl, sym, ap, subst}
use Rattle.std.specs.List.{list_any}
use Rattle.std.proofs.lemmas.List.Elements.{All-push}
use Rattle.std.specs.Prelude.{MatchBool}
use Rattle.gd_edges.specs.declared.signers.Signer.{Ghosts as SignerGhosts}
use Rattle.group_values.specs.Values.{KeepsLast, Made, batches_made, ids_of}
use Rattle.group_keys.specs.Drawn.{AreDrawn}
use Rattle.key_tree.specs.Present.{IsTreeAfter, Present, StandsFor}
use Rattle.group_model.specs.Drawn.{drawn_at}
use Rattle.group_model.specs.Places.{Holders, no_holders}
use Rattle.group_model.specs.Stayed.{is_kept, stayed_at}
use Rattle.group_model.specs.declared.entries.PushPair.{PushPair}
use Rattle.group_pushes.specs.Fits.{MadeFits}
use Rattle.group_pushes.specs.Pairs.{IsPairIfStayed, IsPairOf}
use Rattle.key_tree.specs.Marks.{IsMarkedFor}
use Rattle.key_tree.specs.declared.marks.Marked.{Marked}
use Rattle.group_records.specs.declared.batches.Stored.{Stored}
use Rattle.group_records.specs.declared.heads.Head.{Head}
use Rattle.tree_store.specs.Groups.{IsDueAfter, made_of}
use Rattle.gcks_core.specs.Private.Cores.{IsGroupOf}
use Rattle.gcks_core.specs.Stored.{stored_after}
use Rattle.gcks_core.proofs.ListLemmas.{batches_more, due_drawn, due_is, due_more}

module _ (head : Head) (present : Present) (list : List Made) (group : IsGroupOf head present list) where
  -- its tree is due what the store says
  pub due_there : (stored : Stored) → IsDueAfter head.depth head.limit (batches_made list) stored → IsDueAfter present.depth head.limit (batches_made list) stored
  due_there stored due = subst (λ depth. IsDueAfter depth head.limit (batches_made list) stored) (sym group.depth) due

  -- its values are those of the positions for which it draws some
  pub values_there : (stored : Stored) (limit : ℕ) (marked : Marked) → IsDueAfter head.depth head.limit (batches_made list) stored
      → IsMarkedFor present stored.batch limit marked → ids_of stored.values.nodes ≡ marked.drawn
  values_there stored limit marked due marked_for =
      let epoch : length (batches_made list) + 1 ≡ marked.epoch = sym (marked_for.ready.epoch ∙ ap (λ n. n + 1) group.tree.epoch) in
      due.carried.drawn ∙ (λ i. drawn_at (sym group.depth i) (batches_made list ++ stored.batch ∷ []) (epoch i)) ∙ sym (marked_for.drawn (batches_made list) group.tree)

  -- its batches drew for the positions that they had to
  pub drawn_there : AreDrawn present.depth list
  drawn_there = subst (λ depth. AreDrawn depth list) (sym group.depth) (due_drawn head.depth head.limit list group.due)

  -- with the next batch too
  pub drawn_next : (stored : Stored) → IsDueAfter head.depth head.limit (batches_made list) stored → AreDrawn present.depth (list ++ made_of stored ∷ [])
  drawn_next stored due =
      subst (λ depth. AreDrawn depth (list ++ made_of stored ∷ [])) (sym group.depth)
      (due_drawn head.depth head.limit (list ++ made_of stored ∷ [])
      (due_more head.depth head.limit list (made_of stored) group.due
      (subst (IsDueAfter head.depth head.limit (batches_made list)) (due_is head.depth head.limit (batches_made list) stored due) due)))

  module _ (made : Made) (due : IsDueAfter head.depth head.limit (batches_made list) (stored_after head.depth (batches_made list) made))
      (limit : ℕ) (now : Present) (after : IsTreeAfter present made.changes limit (Some now)) (room : length now.kept.nodes ≡ 2 ^ (now.depth + 1))
      (keeps : KeepsLast now.kept (list ++ made ∷ [])) (fits : MadeFits made) where
    stands : (now.depth ≡ present.depth) × StandsFor now (batches_made (list ++ made ∷ []))
    stands =
        let found = after (batches_made list) group.tree in
        (found.0, subst (StandsFor now) (sym (batches_more list made)) found.1)

    pub taken_in : IsGroupOf head now (list ++ made ∷ [])
    taken_in = record {
      depth = stands.0 ∙ group.depth;
      tree = stands.1;
      room = room;
      keeps = keeps;
      due = due_more head.depth head.limit list made group.due due;
      fit = All-push MadeFits list made group.fit fits;
    }

  pub taken_in_stored : (stored : Stored) → IsDueAfter head.depth head.limit (batches_made list) stored → (limit : ℕ) (now : Present)
      → IsTreeAfter present stored.batch limit (Some now) → length now.kept.nodes ≡ 2 ^ (now.depth + 1) → KeepsLast now.kept (list ++ made_of stored ∷ [])
      → MadeFits (made_of stored) → IsGroupOf head now (list ++ made_of stored ∷ [])
  taken_in_stored stored due limit now after room keeps fits =
      taken_in (made_of stored)
      (subst (IsDueAfter head.depth head.limit (batches_made list)) (due_is head.depth head.limit (batches_made list) stored due) due)
      limit now after room keeps fits

-- nobody stays where nobody was
nobody_kept : (before : Holders) (n : ℕ) → list_any (is_kept before) (replicate n None) ≡ false
nobody_kept before zero = refl
nobody_kept before (suc n) = nobody_kept before n

nobody_stayed : (depth : ℕ) → stayed_at depth [] 0 ≡ false
nobody_stayed depth = nobody_kept (no_holders depth) (2 ^ depth)

pub no_pair : {G : Type 0} (g : SignerGhosts G) (signer : G) (depth : ℕ) (spi : List ℕ) → IsPairIfStayed g signer depth spi [] None
no_pair g signer depth spi =
    subst (λ b. MatchBool b ((sent : PushPair) × (◌≡◌ {A = Option PushPair} None (Some sent)) × IsPairOf g signer depth spi [] sent) (◌≡◌ {A = Option PushPair} None None)) (sym (nobody_stayed depth)) refl
