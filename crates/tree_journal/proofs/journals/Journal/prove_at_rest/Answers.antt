use Rattle.std.proofs.Common.{◌≡◌, false, subst}
use Rattle.gd_disk.specs.MomentLaws.{started}
use Rattle.tree_journal.specs.Private.Fronts.{Stands}
use Rattle.tree_journal.specs.Views.{View}
use Rattle.tree_journal.proofs.FrontLemmas.{end_opens, reached_begins, reached_named_file}
use Rattle.tree_journal.proofs.journals.Journal.prove_at_rest.Goals as goal

pub returns-clause-durable : goal.returns-clause-durable
returns-clause-durable g c goes =
    let P : View g.row.D.Denot → Type 0 = λ journal. journal.closed ≡ false → Stands g.D.Disk journal.disk journal.at journal.end in
    (subst P c.self.view_is c.self.invariant.3 goes).durable

pub returns-clause-still : goal.returns-clause-still
returns-clause-still g c goes file is =
    let P : View g.row.D.Denot → Type 0 = λ journal. journal.closed ≡ false → Stands g.D.Disk journal.disk journal.at journal.end in
    let stands = subst P c.self.view_is c.self.invariant.3 goes in
    started g.D.Disk c.args.self.now.disk (λ k. k ≡ file) (g.met.D.Disk.only_now c.args.self.now.disk) (stands.durable file is)

pub returns-clause-begins : goal.returns-clause-begins
returns-clause-begins g c goes file is =
    let P : View g.row.D.Denot → Type 0 = λ journal. journal.closed ≡ false → Stands g.D.Disk journal.disk journal.at journal.end in
    let stands = subst P c.self.view_is c.self.invariant.3 goes in
    reached_begins file _ (stands.read file is)

pub returns-clause-named : goal.returns-clause-named
returns-clause-named g c goes file is =
    let P : View g.row.D.Denot → Type 0 = λ journal. journal.closed ≡ false → Stands g.D.Disk journal.disk journal.at journal.end in
    let stands = subst P c.self.view_is c.self.invariant.3 goes in
    reached_named_file file _ (stands.read file is)

pub returns-clause-opens : goal.returns-clause-opens
returns-clause-opens g c goes some file is =
    let P : View g.row.D.Denot → Type 0 = λ journal. journal.closed ≡ false → Stands g.D.Disk journal.disk journal.at journal.end in
    let stands = subst P c.self.view_is c.self.invariant.3 goes in
    end_opens file c.args.self.now.end some (stands.ended file is)
