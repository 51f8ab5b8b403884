use Rattle.std.proofs.Common.{◌≡◌, ℕ, List, sym, subst}
use Rattle.std.proofs.lemmas.Result.{IfOk-weaker}
use Rattle.group_records.specs.declared.batches.Stored.{Stored}
use Rattle.group_records.specs.Records.{IsBatchOf}
use Rattle.group_records.specs.Texts.{batch_text}
use Rattle.tree_store.proofs.stores.TreeStore.make_record.Goals as goal

pub returns-clause-read : goal.returns-clause-read
returns-clause-read g c high =
    let batch = c.args.batch.now in
    let values = c.args.values.now in
    let stored : Stored = record { batch = batch; epoch = c.args.epoch; sequence = c.args.sequence; values = values } in
    IfOk-weaker c.write_batch.result (λ made. made ≡ batch_text batch c.args.epoch c.args.sequence values) (λ made. IsBatchOf made stored)
    (λ made is. subst (λ (text : List ℕ). IsBatchOf text stored) (sym is)
    (c.a_written_record_is_read.ensures.batch batch c.args.epoch c.args.sequence values (c.prove_batch_fits.ensures high))) c.write_batch.ensures.octets
