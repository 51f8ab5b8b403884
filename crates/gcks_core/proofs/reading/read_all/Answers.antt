use Rattle.std.specs.Prelude.{IsSome}
use Rattle.std.proofs.Common.{◌≤◌, Ok, inl, refl, sym, subst, ap}
use Rattle.group_pushes.specs.Pairs.{IsPairIfStayed}
use Rattle.group_records.specs.declared.heads.Head.{Head}
use Rattle.tree_store.specs.Views.{ReadSoFar}
use Rattle.gcks_core.specs.Private.Cores.{IsAtEnd, IsGroupOf}
use Rattle.gcks_core.specs.Private.Reads.{IsRead}
use Rattle.gcks_core.proofs.OpenLemmas.{breaks_off, if_error, reading_begun, reading_ends, reading_next}
use Rattle.gcks_core.proofs.reading.read_all.Goals as goal

pub loop-replay-init : goal.loop-replay-init
loop-replay-init g c =
    let begun = c.in_ok-replay.ensures in
    reading_begun g.D.Disk c.args.store.now c.head-head.result c.in_ok-replay.replay begun.begun begun.none c.requires.begun c.requires.«open»
    (sym c.head-head.ensures.head) (c.prove_at_rest.ensures.still c.requires.«open»)

pub returns-in_err-next_batch-clause-broken : goal.returns-in_err-next_batch-clause-broken
returns-in_err-next_batch-clause-broken g c =
    let so_far = c.loop-replay in
    let broken = c.in_err-next_batch.ensures.broken in
    if_error _ _ _ c.from_residual-in_err-next_batch.ensures.1
    (λ at said. breaks_off g.D.Disk c.args.store.now c.head-head.result so_far.replay so_far.store so_far.invariant at (broken at said).0 (broken at said).1)

pub loop-replay-preserved : goal.loop-replay-preserved
loop-replay-preserved g c =
    let so_far = c.loop-replay in
    let next = c.next_batch.new.self in
    let after = c.next_batch.new.replay in
    let said = c.in_ok-next_batch.ensures in
    let more = ap Ok c.if-branch.true in
    reading_next g.D.Disk c.args.store.now c.head-head.result so_far.replay so_far.store so_far.invariant next after said.head
    (λ list replayed. said.next list replayed more) c.prove_last_fits.ensures said.is_open said.same said.any_moment
    (said.disk.no_fault (λ no. absurd (cc no))) said.disk.keeps

pub returns-clause-found : goal.returns-clause-found
returns-clause-found g c =
    let so_far = c.loop-replay in
    let list = so_far.invariant.list in
    let found = c.in_ok-finish.field-0 in
    let next = c.next_batch.new.self in
    let said = c.in_ok-next_batch.ensures in
    let none = ap Ok c.if-branch.false in
    let read = subst (λ (replay : ReadSoFar). IsRead c.head-head.result replay list) (sym (said.same_replay (inl none))) so_far.invariant.read in
    let made = c.in_ok-finish.ensures list read in
    let ends = reading_ends g.D.Disk c.args.store.now c.head-head.result so_far.replay so_far.store so_far.invariant next
    said.is_open (subst IsSome (sym (said.walked none)) refl) said.same (λ stored. said.last stored none) in (
      list,
      subst (λ (h : Head). IsGroupOf h found.tree list) (sym made.0) made.1,
      subst (λ (h : Head). IsAtEnd g.D.Disk next h list) (sym made.0) ends,
      subst (λ (h : Head). IsPairIfStayed g.G.Signer c.args.signer.now h.depth h.spi list found.resent) (sym made.0) made.2,
      subst (λ (h : Head). 1 ≤ h.limit) (sym made.0) c.head-head.ensures.limited,
    )

pub returns-clause-durable : goal.returns-clause-durable
returns-clause-durable g c = c.prove_at_rest-2.ensures.durable c.in_ok-next_batch.ensures.is_open

pub finish-requires : goal.finish-requires
finish-requires g c =
    let so_far = c.loop-replay in
    let none = ap Ok c.if-branch.false in
    let read = subst (λ (replay : ReadSoFar). IsRead c.head-head.result replay so_far.invariant.list) (sym (c.in_ok-next_batch.ensures.same_replay (inl none))) so_far.invariant.read in
    record { replay = (so_far.invariant.list, read) }
