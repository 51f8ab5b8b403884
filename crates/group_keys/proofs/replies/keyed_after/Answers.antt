use Rattle.std.proofs.Common.{◌≡◌, ◌∙◌, ◌+◌, ◌++◌, ◌∷◌, [], List, Some, length, get_or, refl, sym, ap, subst}
use Rattle.std.proofs.lemmas.List.{map-append}
use Rattle.group_terms.specs.declared.changes.Change.{Change}
use Rattle.group_values.specs.Values.{Made, Rises, batches_made, ids_of}
use Rattle.group_model.specs.Places.{place_in}
use Rattle.key_tree.specs.Present.{StandsFor}
use Rattle.key_tree.specs.Marks.{installed}
use Rattle.group_keys.proofs.ReplyLemmas.{keyed_is, last_drawn_at, last_traffic, next_last}
use Rattle.group_keys.proofs.replies.keyed_after.Goals as goal

pub returns : goal.returns
returns c list changes limit m stands keeps drawn step_of there =
    let tree = c.args.tree.now in
    let step = c.args.marked.now in
    let values = c.args.values.now in
    let leaf = c.args.leaf in
    let made : Made = record { changes = changes; values = values } in
    let longer : List Made = list ++ made ∷ [] in
    let batches : List (List Change) = batches_made list ++ changes ∷ [] in
    let next = step_of.next (batches_made list) stands in
    let are : batches ≡ batches_made longer = sym (map-append (λ (made : Made). made.changes) list (made ∷ [])) in
    let rises : Rises (ids_of values.nodes) =
    subst Rises (sym (last_drawn_at tree.depth [] list made drawn)) (c.drawn_positions_rise.ensures tree.depth batches (length (batches_made list) + 1)) in
    let placed : place_in tree.depth (installed tree step).holders m ≡ Some leaf = ap (λ holders. place_in tree.depth holders m) next.1.holders ∙ there in
    keyed_is c.the_last_value_is_that_of_the_last_change.ensures c.places_are_held.ensures (installed tree step) longer (subst (StandsFor (installed tree step)) are next.1) drawn
    c.args.spi.now m leaf
    (record { epoch = c.epoch.result; sequence = c.sequence.result; spi = c.args.spi.now; path = c.path_after.result; traffic = values.traffic })
    placed c.requires.from c.requires.to c.epoch.ensures c.sequence.ensures refl (last_traffic list made) c.path_after.ensures.ids
    (λ k key low. next_last tree step values list changes (get_or c.path_after.result k key) keeps rises (c.path_after.ensures.keys k key low))
