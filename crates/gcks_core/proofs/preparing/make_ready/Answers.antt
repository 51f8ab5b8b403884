use Rattle.std.proofs.Common.{subst, arith, ◌∙◌}
use Rattle.group_values.specs.Values.{batches_made}
use Rattle.group_records.specs.Records.{IsBatchOf}
use Rattle.gcks_core.proofs.ReadyLemmas.{drawn_all, is_ready, nodes_few}
use Rattle.gcks_core.proofs.preparing.make_ready.Goals as goal

pub make_record-requires : goal.make_record-requires
make_record-requires g c =
    let group = c.requires.group in
    let drawn = c.prove_draws_few.ensures (batches_made group.0) c.args.batch.now c.args.head.now.limit c.args.marked.now group.1.tree c.requires.marked in
    omega (arith, nodes_few c.args.values.now.nodes c.args.marked.now.drawn c.requires.drawn drawn)

pub write_pair-requires-clause-few : goal.write_pair-requires-clause-few
write_pair-requires-clause-few g c = c.prove_renews_few.ensures c.args.head.now.limit c.args.marked.now c.requires.marked

pub returns : goal.returns
returns g c = record {
  ready = λ list group.
      let head = c.args.head.now in
      let tree = c.args.tree.now in
      let kept = c.args.tree.now.kept in
      let batch = c.args.batch.now in
      let marked = c.args.marked.now in
      let values = c.args.values.now in
      let few = nodes_few values.nodes marked.drawn c.requires.drawn
      (c.prove_draws_few.ensures (batches_made list) batch head.limit marked group.tree c.requires.marked) in
      let drawn = drawn_all g.G.Signer c.args.signer.now head tree batch marked values list group c.requires.marked c.requires.fits c.requires.drawn in
      let read : IsBatchOf c.in_ok-text.text (record { batch = batch; epoch = marked.epoch; sequence = marked.sequence; values = values }) =
      subst (IsBatchOf c.in_ok-text.text) (λ i. record { batch = batch; epoch = c.epoch.ensures i; sequence = c.sequence.ensures i; values = values })
      (c.in_ok-text.ensures.read c.requires.high) in
      is_ready g.G.Signer c.args.signer.now head tree batch marked values list group c.requires.marked c.requires.fits c.requires.drawn
      c.in_ok-text.text
      (record {
        epoch = c.epoch-2.result;
        sequence = c.sequence-2.result;
        members = c.members.result;
        wraps = c.in_ok-wraps_of.field-0;
        pushes = c.in_ok-pushes.pushes;
        told = c.in_ok-told.told;
      })
      read (c.in_ok-text.ensures.few few) c.epoch-2.ensures c.sequence-2.ensures (c.members.ensures ∙ c.requires.marked.ready.members)
      (c.in_ok-pushes.ensures list batch head.limit group.tree group.keeps drawn c.requires.marked)
      c.in_ok-wraps_of.ensures.some c.in_ok-wraps_of.ensures.none c.in_ok-told.ensures.members
      (c.in_ok-told.ensures.replies list group.tree group.keeps drawn);
}
