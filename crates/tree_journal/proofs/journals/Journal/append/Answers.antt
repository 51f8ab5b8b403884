use Rattle.std.proofs.Common.{◌≡◌, ◌∙◌, ℕ, ap, subst}
use Rattle.gd_disk.specs.Moments.{shown, LeavesOnly}
use Rattle.tree_journal.specs.Crashes.{IsBeforeOrAfter}
use Rattle.tree_journal.specs.Records.{records, bodies_from, IsRecordAt}
use Rattle.tree_journal.specs.Views.{View}
use Rattle.tree_journal.proofs.FrontLemmas.{first_again, reached_begins}
use Rattle.tree_journal.proofs.journals.Journal.append.Goals as goal

pub returns-in-Ok-clause-ok : goal.returns-in-Ok-clause-ok
returns-in-Ok-clause-ok g c bodies opens =
    let shows = ap (λ (journal : View g.row.D.Denot). shown g.D.Disk journal.disk) c.self.view_is in
    c.in-Ok.ensures.ok bodies (opens.0, shows ∙ opens.1, opens.2)

pub returns-in-Ok-clause-durable : goal.returns-in-Ok-clause-durable
returns-in-Ok-clause-durable g c bodies opens octets left =
    let shows = ap (λ (journal : View g.row.D.Denot). shown g.D.Disk journal.disk) c.self.view_is in
    let now = c.in-Ok.ensures.ok bodies (opens.0, shows ∙ opens.1, opens.2) in
    ap records (c.in-Ok.ensures.durable now.0 now.1 octets left) ∙ now.2

pub returns-in-Ok-clause-any_moment : goal.returns-in-Ok-clause-any_moment
returns-in-Ok-clause-any_moment g c bodies goes opens =
    let shows = ap (λ (journal : View g.row.D.Denot). shown g.D.Disk journal.disk) c.self.view_is in
    let disk = ap (λ (journal : View g.row.D.Denot). journal.disk) c.self.view_is in
    subst (λ (old : g.row.D.Denot). LeavesOnly g.D.Disk old c.write_record.new.disk (IsBeforeOrAfter bodies c.args.body.now)) disk
    (c.write_record.ensures.any_moment bodies (opens.0, shows ∙ opens.1, opens.2))

pub returns-in-Err-clause-any_moment : goal.returns-in-Err-clause-any_moment
returns-in-Err-clause-any_moment g c bodies goes opens =
    let shows = ap (λ (journal : View g.row.D.Denot). shown g.D.Disk journal.disk) c.self.view_is in
    let disk = ap (λ (journal : View g.row.D.Denot). journal.disk) c.self.view_is in
    subst (λ (old : g.row.D.Denot). LeavesOnly g.D.Disk old c.write_record.new.disk (IsBeforeOrAfter bodies c.args.body.now)) disk
    (c.write_record.ensures.any_moment bodies (opens.0, shows ∙ opens.1, opens.2))

pub returns-in-Ok-clause-ahead : goal.returns-in-Ok-clause-ahead
returns-in-Ok-clause-ahead g c file now bodies is new read =
    let shows = ap (λ (journal : View g.row.D.Denot). shown g.D.Disk journal.disk) c.self.view_is in
    let at = ap (λ (journal : View g.row.D.Denot). journal.at) c.self.view_is in
    let reached = (c.self.invariant.3 c.if-self.false).read file (shows ∙ is) in
    c.in-Ok.ensures.ahead file now c.self.inside.at bodies reached (shows ∙ is) new (ap (λ (k : ℕ). bodies_from file k) at ∙ read)

pub returns-in-Ok-clause-before : goal.returns-in-Ok-clause-before
returns-in-Ok-clause-before g c file now bodies to is new stand =
    let shows = ap (λ (journal : View g.row.D.Denot). shown g.D.Disk journal.disk) c.self.view_is in
    let reached = (c.self.invariant.3 c.if-self.false).read file (shows ∙ is) in
    c.in-Ok.ensures.before file now 9 to bodies (first_again file c.self.inside.at reached) (shows ∙ is) new stand

pub returns-in-Ok-clause-there : goal.returns-in-Ok-clause-there
returns-in-Ok-clause-there g c file now end is new found =
    let shows = ap (λ (journal : View g.row.D.Denot). shown g.D.Disk journal.disk) c.self.view_is in
    let ends = ap (λ (journal : View g.row.D.Denot). journal.end) c.self.view_is in
    let gate : c.unwrap-gate.result ≡ end = cc (c.unwrap-gate.ensures, ends, found) in
    subst (λ (k : ℕ). IsRecordAt now k c.args.body.now) gate (c.in-Ok.ensures.there file now (shows ∙ is) new)

pub returns-in-Ok-clause-named : goal.returns-in-Ok-clause-named
returns-in-Ok-clause-named g c now new =
    let stands = c.in-Ok.ensures.stands c.self.inside.at (c.self.invariant.3 c.if-self.false).read in
    reached_begins now c.self.inside.at (stands.read now new)
