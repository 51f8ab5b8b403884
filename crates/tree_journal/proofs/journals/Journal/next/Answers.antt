use Rattle.std.proofs.Common.{◌≡◌, ◌∙◌, ℕ, List, ap, subst}
use Rattle.gd_disk.specs.Moments.{shown}
use Rattle.tree_journal.specs.Records.{IsRecordAt}
use Rattle.tree_journal.specs.Views.{View}
use Rattle.tree_journal.proofs.journals.Journal.next.Goals as goal

pub returns-else-matches-clause-memory : goal.returns-else-matches-clause-memory
returns-else-matches-clause-memory g c why file is =
    let at : c.self.inside.at ≡ c.args.self.now.at = ap (λ (journal : View g.row.D.Denot). journal.at) c.self.view_is in
    let here = ap (λ (journal : View g.row.D.Denot). shown g.D.Disk journal.disk) c.self.view_is ∙ is in
    subst (λ (place : ℕ). (body : List ℕ) × IsRecordAt file place body) at (c.found_at-found.ensures.memory why file here)
