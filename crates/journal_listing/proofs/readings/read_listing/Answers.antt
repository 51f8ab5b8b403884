use Rattle.std.proofs.Common.{ℕ, List, [], refl, sym, subst}
use Rattle.journal_listing.proofs.ReplayLemmas.{shown_same}
use Rattle.tree_store.specs.Groups.{IsGroupTo}
use Rattle.journal_listing.proofs.readings.read_listing.Goals as goal

pub list_store-requires-clause-read : goal.list_store-requires-clause-read
list_store-requires-clause-read c =
    let store = c.in-Ok.store in
    let said = c.in-Ok.ensures in
    subst (λ (file : List ℕ). IsGroupTo file store.head [] store.at) (sym (shown_same _ _ said.reads.same)) (said.read c.holding.result.image refl)
