use Rattle.std.proofs.Common.{◌∙◌, ◌++◌, ◌∷◌, [], List}
use Rattle.group_terms.specs.declared.changes.Change.{Change}
use Rattle.group_values.specs.Values.{batches_made}
use Rattle.gcks_core.proofs.ReadyLemmas.{next_from, next_out, next_place, next_to, next_told}
use Rattle.gcks_core.proofs.preparing.replies.Goals.{in-In+in_ok-push, in_default}
use Rattle.gcks_core.proofs.preparing.replies.Goals as goal

pub keyed_after-requires-clause-from : goal.keyed_after-requires-clause-from
keyed_after-requires-clause-from c =
    next_from c.args.tree.now c.args.tree.now.kept c.args.values.now c.args.spi.now c.args.batch.now c.loop-change.change-index c.loop-change.replies
    c.loop-change.invariant c.changes-change-items.result.now c.changes-change-items.ensures.changes c.loop-change-test.true c.change-item.result c.change-item.is
    c.in-In.member c.in-In.is c.requires.marked.0 c.args.marked.now c.requires.marked.1 c.len.result c.len.ensures c.joined-in-In.result.now c.joined-in-In.ensures
    c.index-joined-len.result c.index-joined-len.is c.requires.stands.0 c.requires.stands.1

pub keyed_after-requires-clause-to : goal.keyed_after-requires-clause-to
keyed_after-requires-clause-to c =
    let batches : List (List Change) = c.requires.stands.0 ++ c.args.batch.now ∷ [] in
    next_to c.args.tree.now c.args.tree.now.kept c.args.values.now c.args.spi.now c.args.batch.now c.loop-change.change-index c.loop-change.replies
    c.loop-change.invariant c.changes-change-items.result.now c.changes-change-items.ensures.changes c.loop-change-test.true c.change-item.result c.change-item.is
    c.in-In.member c.in-In.is c.requires.marked.0 c.args.marked.now c.requires.marked.1 c.len.result c.len.ensures c.joined-in-In.result.now c.joined-in-In.ensures
    c.index-joined-len.result c.index-joined-len.is c.requires.stands.0 c.requires.stands.1
    (c.each_leaf_has_its_place.ensures c.args.tree.now.depth batches)

pub loop-change-preserved : goal.loop-change-preserved
loop-change-preserved c =
    let tree = c.args.tree.now in
    let kept = c.args.tree.now.kept in
    let values = c.args.values.now in
    let spi = c.args.spi.now in
    let batch = c.args.batch.now in
    let limit = c.requires.marked.0 in
    elim c.match-change.branch [
      | in-In+in_ok-push w ↦
          next_told tree kept values spi batch c.loop-change.change-index c.loop-change.replies c.loop-change.invariant c.changes-change-items.result.now
          c.changes-change-items.ensures.changes c.loop-change-test.true c.change-item.result c.change-item.is w.in-In.member w.in-In.is w.keyed_after.result
          (λ list stands keeps drawn. w.keyed_after.ensures list batch limit w.in-In.member stands keeps drawn c.requires.marked.1
          (next_place tree kept values spi batch c.loop-change.change-index c.loop-change.replies c.loop-change.invariant c.changes-change-items.result.now
          c.changes-change-items.ensures.changes c.loop-change-test.true c.change-item.result c.change-item.is w.in-In.member w.in-In.is limit c.args.marked.now
          c.requires.marked.1 w.len.result w.len.ensures w.joined-in-In.result.now w.joined-in-In.ensures w.index-joined-len.result w.index-joined-len.is
          (batches_made list) stands))
          c.match-change.replies (w.replies-is ∙ w.in_ok-push.ensures.ok)
      | in_default w ↦
          next_out tree kept values spi batch c.loop-change.change-index c.loop-change.replies c.loop-change.invariant c.changes-change-items.result.now
          c.changes-change-items.ensures.changes c.loop-change-test.true c.change-item.result c.change-item.is w.in_default.field-0 w.in_default.is
          c.match-change.replies w.replies-is
    ]
