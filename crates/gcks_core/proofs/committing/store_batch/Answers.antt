use Rattle.std.proofs.Common.{◌++◌, ◌∷◌, [], List, inl, inr, Err, sym, ap, subst}
use Rattle.group_terms.specs.declared.changes.Change.{Change}
use Rattle.group_terms.specs.declared.values.BatchValues.{BatchValues}
use Rattle.group_values.specs.Values.{Made, batches_made}
use Rattle.gcks_core.specs.Prepares.{PreparedBatch}
use Rattle.gcks_core.specs.Private.Cores.{IsGroupOf}
use Rattle.gcks_core.specs.Private.Stores.{IsStorable}
use Rattle.gcks_core.specs.Stored.{stored_after, stored_list}
use Rattle.gcks_core.proofs.CommitLemmas.{read_inside}
use Rattle.gcks_core.proofs.GroupLemmas.{taken_in, values_there}
use Rattle.gcks_core.proofs.StoreLemmas.{due_to_store, group_more, known_after}
use Rattle.gcks_core.proofs.committing.store_batch.Goals as goal

abbrev made_of_them : List Change → BatchValues → Made
made_of_them changes values = record { changes = changes; values = values }

pub commit-requires-clause-due : goal.commit-requires-clause-due
commit-requires-clause-due g c goes other others has =
    let (head, list, changes, group, at_end, storable) = c.requires.group in
    let there = subst (IsStorable head c.args.tree.now changes list) (sym c.ready.view_is) storable in
    due_to_store head c.args.tree.now changes list _ there c.a_file_has_one_group.ensures.one has.0 (at_end.file has.0 has.1) other others has.2

pub install-requires-clause-drawn : goal.install-requires-clause-drawn
install-requires-clause-drawn g c =
    let (head, list, changes, group, at_end, storable) = c.requires.group in
    let there = subst (IsStorable head c.args.tree.now changes list) (sym c.ready.view_is) storable in
    let stored = stored_after head.depth (batches_made list) (made_of_them changes c.ready.inside.values) in
    values_there head c.args.tree.now list group stored head.limit c.ready.inside.marked there.due there.is_marked

pub returns-in-Ok-clause-group : goal.returns-in-Ok-clause-group
returns-in-Ok-clause-group g c head list changes group storable =
    let there = subst (IsStorable head c.args.tree.now changes list) (sym c.ready.view_is) storable in
    let made = made_of_them changes c.ready.inside.values in
    let now = c.install.new.self in
    let P : PreparedBatch → Type 0 = λ ready. IsGroupOf head now (list ++ made_of_them changes ready.values ∷ []) in
    subst P c.ready.view_is
    (taken_in head c.args.tree.now list group made there.due head.limit now
    (c.install.ensures.stands changes head.limit there.is_marked) c.prove_room.ensures (c.install.ensures.last list changes group.keeps) c.prove_values_fit.ensures)

pub returns-in-Ok-clause-at_end : goal.returns-in-Ok-clause-at_end
returns-in-Ok-clause-at_end g c head list changes at_end storable =
    let before = stored_list head.depth list in
    let after = stored_list head.depth (list ++ made_of_them changes c.args.ready.values ∷ []) in
    let grows = known_after g.D.Disk c.args.store.now.disk c.commit.new.self.disk c.commit.ensures.disk.keeps head before after at_end.file
    (λ has.
    let now = c.in-Ok.ensures.ok head before _ has (read_inside c.ready.view_is storable) in
    (now.0, now.1, group_more head c.args.tree.now changes list c.args.ready storable now.0 now.2)) in
    record { open_still = c.in-Ok.ensures.goes_on; walked = c.in-Ok.ensures.walked at_end.walked; file = grows }

pub returns-in-Ok-clause-durable : goal.returns-in-Ok-clause-durable
returns-in-Ok-clause-durable g c head list changes has storable file left =
    group_more head c.args.tree.now changes list c.args.ready storable file
    (c.in-Ok.ensures.durable head (stored_list head.depth list) _ has (read_inside c.ready.view_is storable) file left)

pub returns-in-Ok-clause-any_moment : goal.returns-in-Ok-clause-any_moment
returns-in-Ok-clause-any_moment g c head list changes has storable =
    c.commit.ensures.any_moment head (stored_list head.depth list) _ c.requires.group.4.open_still has (read_inside c.ready.view_is storable)

pub returns-clause-any_moment : goal.returns-clause-any_moment
returns-clause-any_moment g c head list changes has storable =
    c.commit.ensures.any_moment head (stored_list head.depth list) _ c.requires.group.4.open_still has (read_inside c.ready.view_is storable)

pub returns-clause-in_doubt : goal.returns-clause-in_doubt
returns-clause-in_doubt g c head list changes has storable file is = elim c.in-Err.ensures.no_other [
  | inl shut ↦ absurd (cc (c.in-Err.ensures.refused (ap Err shut), c.requires.group.4.open_still))
  | inr failed ↦ c.in-Err.ensures.in_doubt head (stored_list head.depth list) _ (ap Err failed) has (read_inside c.ready.view_is storable) file is
]
