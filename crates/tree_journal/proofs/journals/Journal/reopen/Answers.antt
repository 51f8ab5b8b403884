use Rattle.std.proofs.Common.{◌∙◌, ◌++◌, length, drop, sym, ap, refl, arith, length-append, length-take}
use Rattle.tree_journal.proofs.BeginLemmas.{opened_stands}
use Rattle.tree_journal.proofs.journals.Journal.reopen.Goals as goal

pub invariant_of-self : goal.invariant_of-self
invariant_of-self g c =
    let read = c.in-Ok-true.ensures in
    let room = c.read_name.new.room in
    let piece = c.self.inside.piece in
    let behind = drop (length room) piece in
    let same = ap length c.as_mut_slice.ensures.value in (
      omega (arith, c.self.invariant.0, same, read.size, length-append room behind, length-take (length piece) (room ++ behind)),
      omega arith,
      tt,
      λ goes. opened_stands g.D.Disk c.self.inside.disk c.read_name.new.disk read.reads.same
          (λ file is. sym c.in-Ok-true.field-0-test ∙ read.named file is) read.durable,
      omega arith,
      λ file is. refl,
    )
