use Rattle.std.proofs.Common.{◌≡◌, ◌∙◌, ℕ, ◌+◌, [], ◌∷◌, length, sym, ap, subst, arith}
use Rattle.gd_disk.specs.Moments.{shown}
use Rattle.tree_journal.specs.Records.{IsRecordAt, bodies_from, with_front}
use Rattle.tree_journal.specs.Views.{View}
use Rattle.tree_journal.proofs.FrontLemmas.{found_read}
use Rattle.tree_journal.proofs.ViewLemmas.{moved}
use Rattle.tree_journal.proofs.journals.Journal.pass.Goals as goal

pub invariant_of-self : goal.invariant_of-self
invariant_of-self g c =
    let inside = c.self.inside in
    let at = ap (λ (journal : View g.row.D.Denot). journal.at) c.self.view_is in
    let shows = ap (λ (journal : View g.row.D.Denot). shown g.D.Disk journal.disk) c.self.view_is in (
      c.self.invariant.0,
      omega (arith, at, c.requires.near, c.requires.short),
      c.self.invariant.2,
      λ goes. moved g.D.Disk inside.disk inside.at inside.end (c.self.invariant.3 goes) c.args.body.now (λ file is.
          subst (λ (k : ℕ). IsRecordAt file k c.args.body.now) (sym at) (c.requires.there file (sym shows ∙ is))),
      c.self.invariant.4,
      c.self.invariant.5,
    )

pub returns-clause-ahead : goal.returns-clause-ahead
returns-clause-ahead g c file is =
    let at = c.args.self.now.at in
    let body = c.args.body.now in
    let place : at + (5 + length body) ≡ at + 5 + length body = omega arith in
    found_read file at body (c.requires.there file is) ∙ ap (λ (k : ℕ). with_front (body ∷ []) (bodies_from file k)) place
