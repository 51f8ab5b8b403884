use Rattle.std.proofs.Common.{◌≡◌, ◌∙◌, inl, inr, ℕ, ◌<◌, ◌^◌, sym, ap, subst, arith}
use Rattle.std.proofs.lemmas.Bool.{cases_lt}
use Rattle.gd_disk.specs.Moments.{shown}
use Rattle.tree_journal.specs.Private.Found.{IsFound, IsShutAt}
use Rattle.tree_journal.specs.Views.{View}
use Rattle.tree_journal.proofs.ViewLemmas.{ended}
use Rattle.tree_journal.proofs.journals.Journal.peek.Goals as goal

pub invariant_of-self : goal.invariant_of-self
invariant_of-self g c =
    let inside = c.self-2.inside in
    let now = c.args.self.now in
    let next = c.in_ok-next.ensures in
    let at : inside.at ≡ now.at = ap (λ (journal : View g.row.D.Denot). journal.at) (c.self-2.view_is ∙ next.ok (λ no. cc no)) in
    let disk : inside.disk ≡ c.next.new.self.disk = ap (λ (journal : View g.row.D.Denot). journal.disk) c.self-2.view_is in
    let shows : shown g.D.Disk inside.disk ≡ shown g.D.Disk now.disk = ap (shown g.D.Disk) disk ∙ next.same in
    let near : now.at < 2 ^ 62 = elim (cases_lt now.at (2 ^ 62)) [
      | inl less ↦ less
      | inr far ↦ absurd (cc (next.far far, c.in-End.is))
    ] in (
      c.self-2.invariant.0,
      c.self-2.invariant.1,
      omega (arith, at, near),
      λ goes. ended g.D.Disk inside.disk inside.at inside.end (c.self-2.invariant.3 goes) (λ file is.
          subst (λ (k : ℕ). IsShutAt file k) (sym at) (subst (IsFound file now.at c.next.new.body) c.in-End.is (next.found file (sym shows ∙ is)))),
      c.self-2.invariant.4,
      c.self-2.invariant.5,
    )
