use Rattle.std.proofs.Common.{◌≡◌, ◌∙◌, ℕ, List, Option, sym, subst}
use Rattle.std.specs.Prelude.{IfErr}
use Rattle.gd_disk.specs.Disks.{Knows}
use Rattle.gd_disk.specs.MomentLaws.{leaves_now}
use Rattle.tree_journal.specs.declared.refusals.JournalRefusal.TheVariants.{NotAJournal}
use Rattle.tree_store.specs.Groups.{IsNoGroup}
use Rattle.gcks_core.proofs.OpenLemmas.{then_read}
use Rattle.gcks_core.proofs.reading.read_again.Goals as goal

pub read_all-requires-clause-begun : goal.read_all-requires-clause-begun
read_all-requires-clause-begun g c =
    let said = c.in_ok-reopen.ensures in
    λ file is. said.read file (sym said.reads.same ∙ is)

pub returns-clause-broken : goal.returns-clause-broken
returns-clause-broken g c =
    subst (λ (shows : Option (List ℕ)). IfErr c.read_all.result (λ why. (at : ℕ) → why ≡ NotAJournal at → Knows shows (λ file. IsNoGroup file at)))
    c.in_ok-reopen.ensures.reads.same c.read_all.ensures.broken

pub returns-clause-reads : goal.returns-clause-reads
returns-clause-reads g c =
    let old = c.args.store.now.disk in
    let read = c.read_all.ensures in
    then_read g.D.Disk old c.reopen.new.self.disk c.read_all.new.store.disk (g.met.D.Disk.reads_stay old) _ _ c.in_ok-reopen.ensures.reads
    (λ is. absurd (cc is)) read.disk read.same read.any_moment

pub returns-clause-durable : goal.returns-clause-durable
returns-clause-durable g c not file is =
    let read = c.read_all.ensures in
    let left = c.read_all.new.store.disk in
    leaves_now g.D.Disk c.reopen.new.self.disk left (λ k. k ≡ file) (g.met.D.Disk.counts_now left) (read.any_moment file (sym read.same ∙ is))
