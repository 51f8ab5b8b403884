use Rattle.std.proofs.Common.{◌≡◌, ◌∙◌, ℕ, ◌+◌, List, [], length, Option, Some, refl, sym, ap, subst}
use Rattle.std.specs.Option.{unwrap_or}
use Rattle.gd_disk.specs.Moments.{shown}
use Rattle.tree_journal.specs.Crashes.{MakesJournal, disk_in}
use Rattle.tree_journal.specs.Views.{View as Journal}
use Rattle.group_records.specs.Records.{IsHeadOf}
use Rattle.tree_store.specs.Groups.{MakesGroup}
use Rattle.tree_store.proofs.MakeLemmas.{gave_back, head_alone, untouched, journal_alone, head_appended}
use Rattle.tree_store.proofs.stores.TreeStore.create.Goals as goal

pub returns-in-Err-clause-moments : goal.returns-in-Err-clause-moments
returns-in-Err-clause-moments g c file is =
    let laws = c.a_crash_may_leave_nothing_or_all.ensures in
    let disk = c.args.disk in
    subst (MakesGroup g.D.Disk c.args.head.now disk) (λ i. (sym c.no_memory.ensures i).disk)
    (untouched g.D.Disk c.args.head.now disk laws.nothing_written laws.nothing_cut (g.met.D.Disk.only_now disk))

pub returns-in_err-journal-clause-moments : goal.returns-in_err-journal-clause-moments
returns-in_err-journal-clause-moments g c file is =
    let refused = c.in_err-journal.field-0.0 in
    let back = ap disk_in c.in_err-journal.was ∙ sym (gave_back c.from_residual.result refused c.from_residual.ensures.1) in
    subst (MakesGroup g.D.Disk c.args.head.now c.args.disk) back
    (journal_alone g.D.Disk c.args.head.now c.args.disk (disk_in c.format.result) (c.format.ensures.moments file is))

pub returns-in-Ok-append-clause-made : goal.returns-in-Ok-append-clause-made
returns-in-Ok-append-clause-made g c file is =
    let head = c.args.head.now in
    let made = c.as_slice.result.now in
    let is_head = subst (λ (text : List ℕ). IsHeadOf text head) (sym c.as_slice.ensures) c.in-Ok.ensures.made in
    let now = c.in-Ok-append.ensures.ok [] (c.in_ok-journal.ensures.empty file is) in
    let disk : c.to_end.new.self.disk ≡ c.append.new.self.disk = ap (λ (journal : Journal g.row.D.Denot). journal.disk) c.to_end.ensures in
    (now.0, ap (shown g.D.Disk) disk ∙ now.1, head_alone head made is_head now.0 now.2)

pub returns-in-Ok-append-clause-durable : goal.returns-in-Ok-append-clause-durable
returns-in-Ok-append-clause-durable g c file is left may =
    let head = c.args.head.now in
    let made = c.as_slice.result.now in
    let is_head = subst (λ (text : List ℕ). IsHeadOf text head) (sym c.as_slice.ensures) c.in-Ok.ensures.made in
    let disk : c.to_end.new.self.disk ≡ c.append.new.self.disk = ap (λ (journal : Journal g.row.D.Denot). journal.disk) c.to_end.ensures in
    head_alone head made is_head left (c.in-Ok-append.ensures.durable [] (c.in_ok-journal.ensures.empty file is) left
    (subst (λ (d : g.row.D.Denot). g.D.Disk.may_leave d left) disk may))

pub returns-in-Ok-append-clause-read : goal.returns-in-Ok-append-clause-read
returns-in-Ok-append-clause-read g c file is now shows =
    let head = c.args.head.now in
    let made = c.as_slice.result.now in
    let is_head = subst (λ (text : List ℕ). IsHeadOf text head) (sym c.as_slice.ensures) c.in-Ok.ensures.made in
    let disk : c.to_end.new.self.disk ≡ c.append.new.self.disk = ap (λ (journal : Journal g.row.D.Denot). journal.disk) c.to_end.ensures in
    let new : shown g.D.Disk c.append.new.self.disk ≡ Some now = ap (shown g.D.Disk) (sym disk) ∙ shows in
    let nine : c.in_ok-journal.journal.end ≡ Some 9 = ap (λ (journal : Journal g.row.D.Denot). journal.end) c.in_ok-journal.ensures.began in
    let there = c.in-Ok-append.ensures.there _ now 9 (c.in_ok-journal.ensures.octets file is) new nine in
    let at : c.to_end.new.self.at ≡ 14 + length made =
    ap (λ (journal : Journal g.row.D.Denot). journal.at) c.to_end.ensures
    ∙ ap (λ (end : Option ℕ). unwrap_or end c.append.new.self.at) (c.in-Ok-append.ensures.end 9 nine) in
    (made, [], c.in-Ok-append.ensures.named now new, (there, sym at), is_head, refl)

pub returns-in-Ok-append-clause-moments : goal.returns-in-Ok-append-clause-moments
returns-in-Ok-append-clause-moments g c file is =
    let head = c.args.head.now in
    let made = c.as_slice.result.now in
    let journal = c.in_ok-journal.journal in
    let is_head = subst (λ (text : List ℕ). IsHeadOf text head) (sym c.as_slice.ensures) c.in-Ok.ensures.made in
    let disk : c.to_end.new.self.disk ≡ c.append.new.self.disk = ap (λ (journal : Journal g.row.D.Denot). journal.disk) c.to_end.ensures in
    let closed = ap (λ (journal : Journal g.row.D.Denot). journal.closed) c.in_ok-journal.ensures.began in
    let begun = subst (MakesJournal g.D.Disk c.args.disk) (ap disk_in c.in_ok-journal.was) (c.format.ensures.moments file is) in
    subst (MakesGroup g.D.Disk head c.args.disk) (sym disk)
    (head_appended g.D.Disk head c.args.disk made is_head journal.disk c.append.new.self.disk
    (c.append.ensures.any_moment [] closed (c.in_ok-journal.ensures.empty file is)) begun)

pub returns-clause-moments : goal.returns-clause-moments
returns-clause-moments g c file is =
    let head = c.args.head.now in
    let made = c.as_slice.result.now in
    let journal = c.in_ok-journal.journal in
    let is_head = subst (λ (text : List ℕ). IsHeadOf text head) (sym c.as_slice.ensures) c.in-Ok.ensures.made in
    let closed = ap (λ (journal : Journal g.row.D.Denot). journal.closed) c.in_ok-journal.ensures.began in
    let begun = subst (MakesJournal g.D.Disk c.args.disk) (ap disk_in c.in_ok-journal.was) (c.format.ensures.moments file is) in
    subst (MakesGroup g.D.Disk head c.args.disk) (sym c.into_disk.ensures)
    (head_appended g.D.Disk head c.args.disk made is_head journal.disk c.append.new.self.disk
    (c.append.ensures.any_moment [] closed (c.in_ok-journal.ensures.empty file is)) begun)
