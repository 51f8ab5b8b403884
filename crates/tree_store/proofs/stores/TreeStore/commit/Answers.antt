use Rattle.std.proofs.Common.{◌≡◌, ◌∙◌, ◌++◌, [], ◌∷◌, ℕ, List, false, sym, ap, subst}
use Rattle.std.proofs.lemmas.Result.{on_ok_weaker}
use Rattle.std.specs.Prelude.{OnOk}
use Rattle.gd_disk.specs.Disks.{Knows}
use Rattle.gd_disk.specs.MomentLaws.{shown_before, weaker}
use Rattle.gd_disk.specs.Moments.{shown, LeavesOnly}
use Rattle.tree_journal.specs.Crashes.{IsBeforeOrAfter}
use Rattle.tree_store.specs.Groups.{HasGroup, IsGroup, IsGroupTo, IsGroupBeforeOrAfter}
use Rattle.tree_store.specs.Views.{View}
use Rattle.tree_store.proofs.GroupLemmas.{grows, one_of_two}
use Rattle.tree_store.proofs.StoreLemmas.{is_open, unless_closed, still_to}
use Rattle.tree_store.proofs.stores.TreeStore.commit.Goals as goal

pub returns-clause-ok : goal.returns-clause-ok
returns-clause-ok g c head list stored has read =
    let shows = ap (λ (store : View g.row.D.Denot). shown g.D.Disk store.disk) c.self.view_is in
    let closed = ap (λ (store : View g.row.D.Denot). store.closed) c.self.view_is in
    unless_closed c.self.inside.journal.closed c.append.result (HasGroup (shown g.D.Disk c.append.new.self.disk) head (list ++ stored ∷ []))
    (λ is. (c.append.ensures.closed is).0) (λ goes.
    let (bodies, opens, more) = grows (shown g.D.Disk c.self.inside.journal.disk) head list c.args.made.now c.as_slice.result.now stored c.as_slice.ensures
    (has.0, shows ∙ has.1, has.2) read (c.requires.due (sym closed ∙ goes) head list has) in
    on_ok_weaker c.append.result (λ now. (now.0, now.1, more.after now.0 now.2)) (c.append.ensures.ok bodies opens))

pub returns-clause-durable : goal.returns-clause-durable
returns-clause-durable g c head list stored has read =
    let shows = ap (λ (store : View g.row.D.Denot). shown g.D.Disk store.disk) c.self.view_is in
    let closed = ap (λ (store : View g.row.D.Denot). store.closed) c.self.view_is in
    unless_closed c.self.inside.journal.closed c.append.result
    ((file : List ℕ) → g.D.Disk.may_leave c.append.new.self.disk file → IsGroup file head (list ++ stored ∷ []))
    (λ is. (c.append.ensures.closed is).0) (λ goes.
    let (bodies, opens, more) = grows (shown g.D.Disk c.self.inside.journal.disk) head list c.args.made.now c.as_slice.result.now stored c.as_slice.ensures
    (has.0, shows ∙ has.1, has.2) read (c.requires.due (sym closed ∙ goes) head list has) in
    on_ok_weaker c.append.result (λ leaves file left. more.after file (leaves file left)) (c.append.ensures.durable bodies opens))

pub returns-clause-ahead : goal.returns-clause-ahead
returns-clause-ahead g c head read begins =
    let old = c.self.inside.journal in
    let now = c.append.new.self in
    let P : View g.row.D.Denot → Type 0 = λ store. Knows (shown g.D.Disk store.disk) (λ file. IsGroupTo file head read store.at) in
    let was = subst P (sym c.self.view_is) begins in
    let still = still_to (shown g.D.Disk old.disk) (shown g.D.Disk now.disk) head read old.at
    (shown_before g.D.Disk old.disk now.disk c.append.ensures.disk.keeps) c.append.result c.append.ensures.before c.append.ensures.named was in
    subst (λ (k : ℕ). OnOk c.append.result (Knows (shown g.D.Disk now.disk) (λ file. IsGroupTo file head read k))) (sym c.append.ensures.place) still

pub returns-clause-any_moment : goal.returns-clause-any_moment
returns-clause-any_moment g c head list stored goes has read =
    let shows = ap (λ (store : View g.row.D.Denot). shown g.D.Disk store.disk) c.self.view_is in
    let disk = ap (λ (store : View g.row.D.Denot). store.disk) c.self.view_is in
    let closed : c.self.inside.journal.closed ≡ false = ap (λ (store : View g.row.D.Denot). store.closed) c.self.view_is ∙ goes in
    let (bodies, opens, more) = grows (shown g.D.Disk c.self.inside.journal.disk) head list c.args.made.now c.as_slice.result.now stored c.as_slice.ensures
    (has.0, shows ∙ has.1, has.2) read (c.requires.due goes head list has) in
    subst (λ (old : g.row.D.Denot). LeavesOnly g.D.Disk old c.append.new.self.disk (IsGroupBeforeOrAfter head list stored)) disk
    (weaker g.D.Disk c.self.inside.journal.disk c.append.new.self.disk (IsBeforeOrAfter bodies c.as_slice.result.now) (IsGroupBeforeOrAfter head list stored)
    (one_of_two head list c.as_slice.result.now stored bodies more) (c.append.ensures.any_moment bodies closed opens))

pub returns-clause-in_doubt : goal.returns-clause-in_doubt
returns-clause-in_doubt g c head list stored failed has read file is =
    let shows = ap (λ (store : View g.row.D.Denot). shown g.D.Disk store.disk) c.self.view_is in
    let closed = ap (λ (store : View g.row.D.Denot). store.closed) c.self.view_is in
    let goes = is_open c.self.inside.journal.closed (λ shut. cc ((c.append.ensures.closed shut).0, failed)) in
    let (bodies, opens, more) = grows (shown g.D.Disk c.self.inside.journal.disk) head list c.args.made.now c.as_slice.result.now stored c.as_slice.ensures
    (has.0, shows ∙ has.1, has.2) read (c.requires.due (sym closed ∙ goes) head list has) in
    one_of_two head list c.as_slice.result.now stored bodies more file (c.append.ensures.in_doubt bodies failed opens file is)
