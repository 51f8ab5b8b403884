-- Before the first batch.
use Rattle.std.proofs.Common.{sym, subst, List}
use Rattle.group_terms.specs.declared.changes.Change.{Change}
use Rattle.group_model.specs.Places.{Fits, holders_of}
use Rattle.group_model.proofs.FitLemmas.{Fits-first}
use Rattle.group_model.proofs.history.History.fits.Goals as goal

pub returns-in-None : goal.returns-in-None
returns-in-None c =
    let depth = c.args.self.now.depth in
    let first = Fits-first depth c.args.batch.now in
    let test = rw c.leaves.ensures.leaves at c.fits_first.ensures in
    let none = λ (batches : List (List Change)). Fits (holders_of depth batches) c.args.batch.now in
    (λ passes. subst none (sym c.in-None.ensures) (first.0 (test.0 passes)), λ fits. test.1 (first.1 (subst none c.in-None.ensures fits)))
