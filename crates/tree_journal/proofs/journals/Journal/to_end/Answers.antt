use Rattle.std.proofs.Common.{ℕ, Option, IfSome, ◌≤◌, ◌^◌, subst, arith}
use Rattle.tree_journal.proofs.ViewLemmas.{at_end}
use Rattle.tree_journal.proofs.journals.Journal.to_end.Goals as goal

pub invariant_of-self : goal.invariant_of-self
invariant_of-self g c =
    let inside = c.self.inside in
    let near = subst (λ (e : Option ℕ). IfSome e (λ end. end ≤ 2 ^ 62)) c.in-Some.is c.self.invariant.2 in (
      c.self.invariant.0,
      omega (arith, near),
      c.self.invariant.2,
      λ goes. at_end g.D.Disk inside.disk inside.at inside.end (c.self.invariant.3 goes) c.in-Some.end c.in-Some.is,
      c.self.invariant.4,
      c.self.invariant.5,
    )
