use Rattle.std.proofs.Common.{ℕ, List, sym, subst}
use Rattle.group_records.specs.Records.{IsHeadOf}
use Rattle.tree_store.proofs.openings.head_record.Goals as goal

pub returns-clause-made : goal.returns-clause-made
returns-clause-made c =
    let head = c.args.head.now in
    subst (λ (text : List ℕ). IsHeadOf text head) (sym c.in_ok-write_head.ensures.octets) (c.a_written_record_is_read.ensures.head head c.prove_head_fits.ensures)
