use Rattle.std.specs.Prelude.{IfSome}
use Rattle.std.proofs.Common.{◌≡◌, ◌∙◌, ℕ, ◌+◌, ◌≤◌, List, [], ◌∷◌, ◌++◌, length, Option, Some, Ok, refl, sym, ap, subst}
use Rattle.gd_disk.specs.Disks.{Knows}
use Rattle.gd_disk.specs.Moments.{shown}
use Rattle.gd_wire.specs.Readings.{octet_at}
use Rattle.group_records.specs.declared.batches.Stored.{Stored}
use Rattle.tree_journal.specs.Records.{IsRecordAt}
use Rattle.tree_journal.specs.Views.{View as Journal}
use Rattle.tree_store.specs.declared.dues.Due.{Due}
use Rattle.tree_store.specs.Groups.{IsGroup, IsGroupTo, HasNoneAt}
use Rattle.tree_store.specs.Private.Dues.{IsNext}
use Rattle.tree_store.specs.Replays.{IsReadAfter, IsReplayOf}
use Rattle.tree_store.specs.Views.{View}
use Rattle.tree_store.proofs.GroupLemmas.{group_whole}
use Rattle.tree_store.proofs.ReplayLemmas.{no_last, none_at, one_more, read_after, settled, some_last}
use Rattle.tree_store.proofs.StoreLemmas.{on_err}
use Rattle.tree_store.proofs.stores.TreeStore.next_batch.Goals as goal

pub returns-then-not-branch-2-clause-broken : goal.returns-then-not-branch-2-clause-broken
returns-then-not-branch-2-clause-broken g c place said =
    let inside = c.self.inside in
    let peeked = c.in_ok-peek.ensures in
    let body = c.as_slice.result.now in
    let tree = c.settle.new.self.tree in
    let last = no_last c.go_on.new.self.last (sym c.if-not-branch-2.true ∙ c.in_ok-go_on.ensures.due) in
    let none = subst (IsNext body tree inside.head.limit) last c.in_ok-go_on.ensures.next in
    let there : (file : List ℕ) → shown g.D.Disk inside.journal.disk ≡ Some file → IsRecordAt file inside.journal.at body = λ file is.
    subst (λ (b : List ℕ). IsRecordAt file inside.journal.at b) (sym c.as_slice.ensures) (peeked.whole (λ i. Ok (c.if-not-branch.false i)) file is) in
    let P : View g.row.D.Denot → Type 0 = λ store. (list : List Stored) → IsReplayOf store.head c.args.replay.now list →
    Knows (shown g.D.Disk store.disk) (λ file. HasNoneAt file store.head list store.at) in
    let nothing = subst P c.self.view_is (λ list replay file is.
    none_at file inside.head tree body inside.journal.at list (c.settle.ensures.tree inside.head list replay) none (there file is)) in
    let here : place ≡ c.args.self.now.at =
    cc (said, c.place-at.ensures, peeked.place, ap (λ (store : View g.row.D.Denot). store.at) c.self.view_is) in
    (here, λ list replay file is. subst (HasNoneAt file c.args.self.now.head list) (sym here) (nothing list replay file is))

pub returns-then-not-branch-clause-last : goal.returns-then-not-branch-clause-last
returns-then-not-branch-clause-last g c list said =
    let inside = c.self.inside in
    let ended = c.in_ok-peek.ensures.ended (λ i. Ok (c.if-not-branch.true i)) in
    let P : View g.row.D.Denot → Type 0 = λ store.
    Knows (shown g.D.Disk store.disk) (λ file. IsGroupTo file store.head list store.at → IsGroup file store.head list) in
    subst P c.self.view_is (λ file is.
    group_whole inside.head file list inside.journal.at c.records_are_the_next_ones.ensures (ended file is))

pub pass-requires-clause-there : goal.pass-requires-clause-there
pass-requires-clause-there g c file is =
    let peeked = c.in_ok-peek.ensures in
    let there = peeked.whole (λ i. Ok (c.if-not-branch.false i)) file (sym peeked.same ∙ is) in
    subst (λ (k : ℕ). IsRecordAt file k c.as_slice-2.result.now) (sym peeked.place)
    (subst (λ (b : List ℕ). IsRecordAt file c.self.inside.journal.at b) (sym c.as_slice-2.ensures) there)

pub returns-clause-high : goal.returns-clause-high
returns-clause-high g c said =
    let body = c.as_slice.result.now in
    let (next, last) = some_last c.go_on.new.self.last (sym c.if-not-branch-2.false ∙ c.in_ok-go_on.ensures.due) in
    let found = subst (IsNext body c.settle.new.self.tree c.self.inside.head.limit) last c.in_ok-go_on.ensures.next in
    subst (λ (now : Option Due). IfSome now (λ due. 128 ≤ octet_at due.stored.values.traffic.spi 0)) (sym last)
    (c.a_read_batch_has_a_high_spi.ensures body next.stored found.0)

pub returns-clause-next : goal.returns-clause-next
returns-clause-next g c list replay said =
    let inside = c.self.inside in
    let peeked = c.in_ok-peek.ensures in
    let body = c.as_slice.result.now in
    let to = c.pass.new.self.at in
    let tree = c.settle.new.self.tree in
    let (next, last) = some_last c.go_on.new.self.last (sym c.if-not-branch-2.false ∙ c.in_ok-go_on.ensures.due) in
    let found = subst (IsNext body tree inside.head.limit) last c.in_ok-go_on.ensures.next in
    let same : c.as_slice-2.result.now ≡ body = c.as_slice-2.ensures ∙ sym c.as_slice.ensures in
    let place : c.peek.new.self.at + 5 + length c.as_slice-2.result.now ≡ to = sym (ap (λ (journal : Journal g.row.D.Denot). journal.at) c.pass.ensures.moved) in
    let moved : inside.journal.at + 5 + length body ≡ to = (λ i. sym peeked.place i + 5 + length (sym same i)) ∙ place in
    let there : (file : List ℕ) → shown g.D.Disk inside.journal.disk ≡ Some file → IsRecordAt file inside.journal.at body = λ file is.
    subst (λ (b : List ℕ). IsRecordAt file inside.journal.at b) (sym c.as_slice.ensures) (peeked.whole (λ i. Ok (c.if-not-branch.false i)) file is) in
    let kept : c.go_on.new.self ≡ record { tree = tree; last = Some next } = λ i. record { tree = c.in_ok-go_on.ensures.tree i; last = last i } in
    let P : View g.row.D.Denot → Type 0 = λ store. IsReplayOf store.head c.args.replay.now list → (due : Due) × IsReadAfter store.head list due c.go_on.new.self
    × Knows (shown g.D.Disk store.disk) (λ file. IsGroupTo file store.head list store.at → IsGroupTo file store.head (list ++ due.stored ∷ []) to) in
    subst P c.self.view_is (λ was.
    let made = c.settle.ensures.tree inside.head list was in (
      next,
      read_after body inside.head tree body inside.journal.at list made next found c.go_on.new.self kept,
      (λ file is. one_more file inside.head tree body inside.journal.at list made next found to (there file is) moved),
    )) replay

pub returns-clause-stays : goal.returns-clause-stays
returns-clause-stays g c other = absurd (other refl)

pub returns-in_err-go_on-clause-same_batches : goal.returns-in_err-go_on-clause-same_batches
returns-in_err-go_on-clause-same_batches g c list replay =
    let there = subst (λ (store : View g.row.D.Denot). IsReplayOf store.head c.args.replay.now list) (sym c.self.view_is) replay in
    let tree = c.settle.new.self.tree in
    let made = c.settle.ensures.tree c.self.inside.head list there in
    on_err c.from_residual-in_err-go_on.result
    (subst (λ (store : View g.row.D.Denot). IsReplayOf store.head c.go_on.new.self list) c.self.view_is
    (settled c.self.inside.head tree list made c.go_on.new.self (c.in_err-go_on.ensures.same ∙ (λ i. record { tree = tree; last = c.settle.ensures.none i }))))

pub returns-then-not-branch-2-clause-same_batches : goal.returns-then-not-branch-2-clause-same_batches
returns-then-not-branch-2-clause-same_batches g c list replay =
    let there = subst (λ (store : View g.row.D.Denot). IsReplayOf store.head c.args.replay.now list) (sym c.self.view_is) replay in
    let made = c.settle.ensures.tree c.self.inside.head list there in
    let last = no_last c.go_on.new.self.last (sym c.if-not-branch-2.true ∙ c.in_ok-go_on.ensures.due) in
    subst (λ (store : View g.row.D.Denot). IsReplayOf store.head c.go_on.new.self list) c.self.view_is
    (settled c.self.inside.head c.settle.new.self.tree list made c.go_on.new.self (λ i. record { tree = c.in_ok-go_on.ensures.tree i; last = last i }))
