use Rattle.std.proofs.Common.{◌≡◌, ◌∙◌, sym, subst}
use Rattle.gd_disk.specs.MomentLaws.{faults_as, reads-joined, weaker}
use Rattle.tree_store.proofs.stores.TreeStore.open.Goals as goal

pub returns-in-Ok-clause-reads : goal.returns-in-Ok-clause-reads
returns-in-Ok-clause-reads g c =
    let old = c.args.disk in
    let mid = c.in_ok-journal.journal.disk in
    let new = c.read_first.new.journal.disk in
    let opened = c.in_ok-journal.ensures.reads in
    let read = c.in-Ok.ensures in
    reads-joined g.D.Disk old mid new _ _ opened (λ no. no)
    (faults_as g.D.Disk mid new _ _ (λ is. absurd (cc is)) (λ no. absurd no) read.disk) read.same (λ file is.
    weaker g.D.Disk mid new (λ k. k ≡ file) (g.D.Disk.may_leave old) (λ k here. subst (g.D.Disk.may_leave old) (sym here) (g.met.D.Disk.reads_stay old file is))
    (read.any_moment file (opened.same ∙ is)))
