use Rattle.std.proofs.Common.{◌+◌, ◌%◌, ◌^◌, ap, sym, ◌∙◌}
use Rattle.desk_sums.specs.Totals.{total_from}
use Rattle.desk_sums.proofs.Totals.{total_from-append}
use Rattle.desk_sums.proofs.sums.SumKept.take.Goals as goal

pub invariant_of-self : goal.invariant_of-self
invariant_of-self g c = let was = c.args.self.now in record {
  summed = ap (λ sum. (sum + c.args.event) % 2 ^ 64) was.summed
      ∙ (sym (total_from-append 0 was.entries.items c.args.event) ∙ ap (total_from 0) (sym c.add.ensures.items));
}
