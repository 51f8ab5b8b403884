use Rattle.std.proofs.Common.{◌≡◌, ◌∙◌, Err, refl, sym, ap, subst}
use Rattle.gd_disk.specs.Disks.{Only}
use Rattle.gd_disk.specs.MomentLaws.{faults_as, leaves_now, reads_as}
use Rattle.gd_disk.specs.Moments.{OnlyReads}
use Rattle.group_model.specs.declared.entries.Refusal.TheVariants as refusals
use Rattle.gcks_core.proofs.MakeLemmas.{stands_opened}
use Rattle.gcks_core.proofs.OpenLemmas.{no_head, said_fault, said_none, then_read}
use Rattle.gcks_core.proofs.cores.Core.open.Goals as goal

pub returns-in-Err-clause-broken : goal.returns-in-Err-clause-broken
returns-in-Err-clause-broken g c at said =
    let refused = c.in-Err.ensures in
    let says = c.refusal_of.ensures in
    no_head _ at
    (refused.broken at (said_none c.in-Err.field-0.why c.refusal_of.result refused.no_other says.fault says.none says.memory at said))

pub returns-in-Err-clause-only : goal.returns-in-Err-clause-only
returns-in-Err-clause-only g c at said =
    let refused = c.in-Err.ensures in
    let says = c.refusal_of.ensures in
    refused.only at (said_none c.in-Err.field-0.why c.refusal_of.result refused.no_other says.fault says.none says.memory at said)

pub read_all-requires-clause-begun : goal.read_all-requires-clause-begun
read_all-requires-clause-begun g c =
    let opened = c.in-Ok.ensures in
    λ file is. opened.read file (sym opened.reads.same ∙ is)

pub returns-in-Ok-read_all-clause-read : goal.returns-in-Ok-read_all-clause-read
returns-in-Ok-read_all-clause-read g c =
    let read = c.in-Ok-read_all.ensures in
    let found = read.found in
    let same = read.same ∙ c.in-Ok.ensures.reads.same in
    (found.0, stands_opened g.R.Draws _ found.0 found.1 refl c.new.ensures _ refl, (λ file is. found.2.file file (same ∙ is)), found.3)

pub returns-in-Ok-read_all-clause-reads : goal.returns-in-Ok-read_all-clause-reads
returns-in-Ok-read_all-clause-reads g c =
    let old = c.args.parts.disk in
    let read = c.in-Ok-read_all.ensures in
    then_read g.D.Disk old c.in-Ok.store.disk c.read_all.new.store.disk (g.met.D.Disk.reads_stay old) _ _ c.in-Ok.ensures.reads (λ no. no)
    (faults_as g.D.Disk c.in-Ok.store.disk c.read_all.new.store.disk _ _ (λ is. absurd (cc is)) (λ no. absurd no) read.disk) read.same read.any_moment

pub returns-in-Err-read_all-clause-reads : goal.returns-in-Err-read_all-clause-reads
returns-in-Err-read_all-clause-reads g c =
    let old = c.args.parts.disk in
    let read = c.in-Err-read_all.ensures in
    let says = c.refusal_of-in-Err-read_all.ensures in
    let why = c.in-Err-read_all.why in
    let answer = c.refusal_of-in-Err-read_all.result in
    subst (λ disk. OnlyReads g.D.Disk (answer ≡ refusals.DiskFault) old disk) (sym c.into_disk.ensures)
    (then_read g.D.Disk old c.in-Ok.store.disk c.read_all.new.store.disk (g.met.D.Disk.reads_stay old) _ _ c.in-Ok.ensures.reads (λ no. no)
    (faults_as g.D.Disk c.in-Ok.store.disk c.read_all.new.store.disk _ _ (λ is. says.fault (cc is))
    (λ said. ap Err (said_fault why answer read.no_other says.none says.memory said)) read.disk) read.same read.any_moment)

pub returns-in-Err-clause-reads : goal.returns-in-Err-clause-reads
returns-in-Err-clause-reads g c =
    let refused = c.in-Err.ensures in
    let says = c.refusal_of.ensures in
    reads_as g.D.Disk c.args.parts.disk c.in-Err.field-0.disk _ _ says.fault
    (said_fault c.in-Err.field-0.why c.refusal_of.result refused.no_other says.none says.memory) refused.reads

pub returns-in-Err-read_all-clause-broken : goal.returns-in-Err-read_all-clause-broken
returns-in-Err-read_all-clause-broken g c at said file is =
    let refused = c.in-Err-read_all.ensures in
    let says = c.refusal_of-in-Err-read_all.ensures in
    refused.broken at
    (said_none c.in-Err-read_all.why c.refusal_of-in-Err-read_all.result refused.no_other says.fault says.none says.memory at said)
    file (c.in-Ok.ensures.reads.same ∙ is)

pub returns-in-Err-read_all-clause-only : goal.returns-in-Err-read_all-clause-only
returns-in-Err-read_all-clause-only g c at said file is =
    let left = c.read_all.new.store.disk in
    subst (λ disk. Only file (g.D.Disk.may_leave disk)) (sym c.into_disk.ensures)
    (leaves_now g.D.Disk c.in-Ok.store.disk left (λ k. k ≡ file) (g.met.D.Disk.counts_now left)
    (c.in-Err-read_all.ensures.any_moment file (c.in-Ok.ensures.reads.same ∙ is)))
