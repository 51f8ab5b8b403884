use Rattle.std.proofs.Common.{refl}
use Rattle.gd_disk.specs.MomentLaws.{reads_as}
use Rattle.tree_journal.proofs.SyncLemmas.{synced, then_read}
use Rattle.tree_journal.proofs.formats.read_name.Goals as goal

pub returns-in_err-sync-clause-reads : goal.returns-in_err-sync-clause-reads
returns-in_err-sync-clause-reads g c =
    let old = c.args.disk.now in
    let done = c.sync.ensures in
    synced g.D.Disk old c.sync.new.self (g.met.D.Disk.only_now old) done.time done.image done.crash _ (record {
      cause = λ _. c.in_err-sync.ensures.cause;
      no_fault = λ no. absurd (no c.from_residual.ensures.0);
      keeps = record { honest = done.honest; exposed = done.exposed; counted = done.counted };
    })

pub returns-in_err-count-clause-reads : goal.returns-in_err-count-clause-reads
returns-in_err-count-clause-reads g c =
    let old = c.args.disk.now in
    let new = c.read_front.new.disk in
    let done = c.sync.ensures in
    let failed = c.from_residual-in_err-count.ensures.0 in
    then_read g.D.Disk old c.sync.new.self (g.met.D.Disk.only_now old) done.time done.image done.crash _ new
    (record { honest = done.honest; exposed = done.exposed; counted = done.counted }) c.in_ok-sync.ensures.no_fault
    (reads_as g.D.Disk c.sync.new.self new _ _ (λ _. failed) (λ _. refl) c.in_err-count.ensures.reads)

pub returns-clause-reads : goal.returns-clause-reads
returns-clause-reads g c =
    let old = c.args.disk.now in
    let new = c.read_front.new.disk in
    let done = c.sync.ensures in
    then_read g.D.Disk old c.sync.new.self (g.met.D.Disk.only_now old) done.time done.image done.crash _ new
    (record { honest = done.honest; exposed = done.exposed; counted = done.counted }) c.in_ok-sync.ensures.no_fault
    (reads_as g.D.Disk c.sync.new.self new _ _ (λ is. absurd (cc is)) (λ is. absurd (cc is)) c.in_ok-count.ensures.reads)
