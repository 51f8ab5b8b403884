-- The marks of a batch are those of the tree with one batch more, whatever list made it.
use Rattle.std.proofs.Common.{◌≡◌, inr, ℕ, ◌+◌, ◌-◌, ◌*◌, ◌^◌, ◌<◌, ◌≤◌, length, Bool, true, false, cond, List, [], ◌∷◌, ◌++◌, Option, None, Some, map, refl, sym, ap, ◌∙◌, subst, arith}
use Rattle.std.proofs.Math.Dec.{leb}
use Rattle.std.proofs.lemmas.Bool.{leb-true, leb-false}
use Rattle.std.proofs.lemmas.List.{length-append, length-map}
use Rattle.std.specs.List.{list_any}
use Rattle.group_terms.specs.Changes.{joiners}
use Rattle.group_terms.specs.declared.changes.Change.{Change}
use Rattle.group_terms.specs.Positions.{marks_of}
use Rattle.group_model.specs.Drawn.{drawn_at}
use Rattle.group_model.specs.Fresh.{changed_leaves}
use Rattle.group_model.specs.LastChanges.{renewed}
use Rattle.group_model.specs.Places.{Holders, Fits, holders_after, holders_at, holders_of, place_in}
use Rattle.group_model.specs.Stayed.{stayed_at}
use Rattle.group_model.specs.Indexes.{AreOnce}
use Rattle.key_tree.specs.declared.marks.Marked.{Marked}
use Rattle.key_tree.specs.Marks.{IsReady, IsMarkedFor, drawn_between, fresh_at, fresh_between, holders_then, ids_renewed, installed, renewal}
use Rattle.key_tree.specs.Present.{Present, StandsFor, IsTreeAfter, IsTreeWithin}
use Rattle.key_tree.specs.Private.Seats.{seats_of, leaves_taken}
use Rattle.tree_leaves.specs.Unchanged.{unchanged_holders}
use Rattle.group_model.proofs.EpochLemmas.{holders_at-all}
use Rattle.group_model.proofs.OnceLemmas.{AreOnce-at}
use Rattle.key_tree.proofs.FewLemmas.{renewed_few}
use Rattle.key_tree.proofs.JoinedLemmas.{joined_places}
use Rattle.key_tree.proofs.PresentLemmas.{after_batch, after_is, all_is, before_is, stands_apart, stayed_is, StandsFor-next}

none_chosen : (fits : Bool) (number : ℕ) → None ≡ cond fits (Some number) None → fits ≡ false
none_chosen true number is = absurd (cc is)
none_chosen false number is = refl

pub some_chosen : (fits : Bool) (number given : ℕ) → Some given ≡ cond fits (Some number) None → (fits ≡ true) × (given ≡ number)
some_chosen true number given is = (refl, cc is)
some_chosen false number given is = absurd (cc is)

-- the positions are those that were looked at
pub ids_of_renewals : (depth : ℕ) (before after : Holders) (vs : List ℕ) → ids_renewed (map (renewal depth before after) vs) ≡ vs
ids_of_renewals depth before after [] = refl
ids_of_renewals depth before after (v ∷ vs) = λ i. v ∷ ids_of_renewals depth before after vs i

pub once_before : (was : Present) (batches : List (List Change)) → StandsFor was batches → AreOnce was.holders
once_before was batches stands =
    subst AreOnce (holders_at-all was.depth batches (length batches) (omega arith) ∙ sym stands.holders) (AreOnce-at was.depth (length batches) batches stands.valid)

module _ (was : Present) (batch : List Change) (after : Holders) (stayed : Bool) (limit : ℕ)
    (fits : Fits was.holders batch)
    (held : AreOnce was.holders → after ≡ holders_after was.holders batch)
    (stays : stayed ≡ list_any (λ mark. mark) (unchanged_holders was.holders after)) where
  abbrev number : ℕ
  number = was.sequence + cond stayed 2 0

  stands_after : (batches : List (List Change)) → StandsFor was batches → StandsFor (after_batch was batch after stayed) (batches ++ batch ∷ [])
  stands_after batches stands = StandsFor-next was batch after stayed fits (held (once_before was batches stands)) stays batches stands

  -- the number of the last push is past the limit
  pub none_past : None ≡ cond (leb number limit) (Some number) None → IsTreeAfter was batch limit None
  none_past is batches stands =
      let past : limit < number = leb-false number limit (none_chosen (leb number limit) number is) in
      inr (omega (arith, past, (stands_after batches stands).sequence))

  pub some_within : (given : ℕ) → Some given ≡ cond (leb number limit) (Some number) None → was.epoch < limit
      → IsTreeAfter was batch limit (Some (record (after_batch was batch after stayed) { sequence = given }))
  some_within given is early batches stands =
      let chosen = some_chosen (leb number limit) number given is in
      let after_all = stands_after batches stands in
      let within : number ≤ limit = leb-true number limit chosen.0 in (
        refl,
        subst (λ n. StandsFor (record (after_batch was batch after stayed) { sequence = n }) (batches ++ batch ∷ [])) (sym chosen.1) after_all,
        omega (arith, early, stands.epoch, length-append batches (batch ∷ [])),
        omega (arith, within, after_all.sequence),
      )

-- of the tree that contracts see
pub same_after : (was now : Present) (batch : List Change) (limit : ℕ) (after : Option Present) → was ≡ now → IsTreeAfter was batch limit after
    → IsTreeAfter now batch limit after
same_after was now batch limit after same h = subst (λ tree. IsTreeAfter tree batch limit after) same h

-- the values change nothing of it
pub with_values : (was : Present) (batch : List Change) (limit : ℕ) (after now : Present) → now ≡ record after { kept = now.kept }
    → IsTreeAfter was batch limit (Some after) → IsTreeAfter was batch limit (Some now)
with_values was batch limit after now is next batches stands =
    let found = next batches stands in
    subst (λ (tree : Present). IsTreeWithin was.depth (batches ++ batch ∷ []) limit (Some tree)) (sym is)
    (found.0, stands_apart after now.kept (batches ++ batch ∷ []) found.1, found.2, found.3)

-- marks that are ready, with a number within the limit, and of the seats of a batch, are those of it
module _ (was : Present) (batch : List Change) (marked : Marked) (limit : ℕ)
    (fits : Fits was.holders batch)
    (held : AreOnce was.holders → holders_then was marked ≡ holders_after was.holders batch)
    (ready : IsReady was marked)
    (chosen : Some marked.sequence ≡ cond (leb (was.sequence + cond marked.stayed 2 0) limit) (Some (was.sequence + cond marked.stayed 2 0)) None)
    (early : was.epoch < limit)
    (seats : marked.seats ≡ seats_of was.holders batch)
    (joined : marked.joined ≡ leaves_taken (2 ^ was.depth) marked.seats) where
  abbrev then : Holders
  then = holders_then was marked

  next : IsTreeAfter was batch limit (Some (installed was marked))
  next =
      subst (λ (n : ℕ). IsTreeAfter was batch limit (Some (record {
        depth = was.depth;
        epoch = n;
        sequence = marked.sequence;
        holders = then;
        changes = renewed n was.changes (marks_of was.depth (changed_leaves was.holders then));
        kept = was.kept;
      }))) (sym ready.epoch) (some_within was batch then marked.stayed limit fits held ready.stayed marked.sequence chosen early)

  few : length marked.renewed ≤ (was.depth + 1) * length batch + 1
  few =
      omega (
        arith,
        ap length ready.renewed,
        length-map (fresh_between was.depth was.holders then) (renewal was.depth was.holders then),
        renewed_few was.depth (2 ^ (was.depth + 1) - 1) was.holders batch marked.seats seats,
      )

  module _ (batches : List (List Change)) (stands : StandsFor was batches) where
    abbrev longer : List (List Change)
    longer = batches ++ batch ∷ []

    now : then ≡ holders_after was.holders batch
    now = held (once_before was batches stands)

    before_then : was.holders ≡ holders_at was.depth longer (was.epoch + 1 - 1)
    before_then = before_is was batch then marked.stayed fits now ready.stayed batches stands

    after_then : then ≡ holders_at was.depth longer (was.epoch + 1)
    after_then = after_is was batch then marked.stayed fits now ready.stayed batches stands

    stayed_then : marked.stayed ≡ stayed_at was.depth longer marked.epoch
    stayed_then = stayed_is was batch then marked.stayed fits now ready.stayed batches stands ∙ ap (stayed_at was.depth longer) (sym ready.epoch)

    fresh_then : ids_renewed marked.renewed ≡ fresh_at was.depth longer marked.epoch
    fresh_then =
        ap ids_renewed ready.renewed ∙ ids_of_renewals was.depth was.holders then (fresh_between was.depth was.holders then)
        ∙ (λ i. fresh_between was.depth (before_then i) (after_then i)) ∙ ap (fresh_at was.depth longer) (sym ready.epoch)

    drawn_then : marked.drawn ≡ drawn_at was.depth longer marked.epoch
    drawn_then = ready.drawn ∙ (λ i. drawn_between was.depth (before_then i) (after_then i)) ∙ ap (drawn_at was.depth longer) (sym ready.epoch)

    joined_then : map Some marked.joined ≡ map (place_in was.depth (holders_of was.depth longer)) (joiners batch)
    joined_then =
        ap (map Some) joined ∙ joined_places was.depth was.holders batch marked.seats (once_before was batches stands) fits seats
        ∙ ap (λ holders. map (place_in was.depth holders) (joiners batch)) (sym now ∙ all_is was batch then marked.stayed fits now ready.stayed batches stands)

  pub marked_for : IsMarkedFor was batch limit marked
  marked_for = record { ready = ready; next = next; stayed = stayed_then; fresh = fresh_then; drawn = drawn_then; joined = joined_then; few = few }
