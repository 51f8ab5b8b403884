use Rattle.std.proofs.Common.{◌∙◌, [], ◌∷◌, ◌++◌, ℕ, List, refl, sym, subst}
use Rattle.std.proofs.lemmas.List.{map-append}
use Rattle.group_records.specs.declared.heads.Head.{Head}
use Rattle.journal_listing.specs.Listings.{EndsAfter, listed_as}
use Rattle.journal_listing.specs.declared.readings.Next.{Next}
use Rattle.tree_store.specs.Replays.{IsReplayOf}
use Rattle.journal_listing.specs.Private.Replays.{GoesOn}
use Rattle.journal_listing.proofs.readings.list_batches.Goals as goal

pub batches-init : goal.batches-init
batches-init c = record {
  is_open = c.requires.«open»;
  same = refl;
  head = refl;
  listed = (
    [],
    c.requires.none,
    record {
      replayed = subst (λ (head : Head). IsReplayOf head c.in_ok-replay.replay []) c.head.ensures.head c.in_ok-replay.ensures.begun;
      read = c.requires.read;
    },
  );
}

pub returns-in-End : goal.returns-in-End
returns-in-End c =
    let so_far = c.batches in
    let list = so_far.invariant.listed.0 in
    let ends = subst (λ (next : Next). GoesOn list so_far.store c.next_batch.new.store c.next_batch.new.replay next) c.in-End.is (c.in_ok-batch.ensures.next list so_far.invariant.listed.2) in (
      list,
      so_far.invariant.listed.1,
      subst (λ (file : List ℕ). EndsAfter file c.args.store.now.head list c.in-End.end) so_far.invariant.same
          (subst (λ (head : Head). EndsAfter so_far.store.disk.image head list c.in-End.end) so_far.invariant.head ends),
    )

pub batches-preserved : goal.batches-preserved
batches-preserved c =
    let so_far = c.batches in
    let list = so_far.invariant.listed.0 in
    let said = c.in_ok-batch.ensures in
    let found = subst (λ (next : Next). GoesOn list so_far.store c.next_batch.new.store c.next_batch.new.replay next) c.in-Batch.is
    (said.next list so_far.invariant.listed.2) in
    record {
      is_open = said.«open»;
      same = said.same ∙ so_far.invariant.same;
      head = said.head ∙ so_far.invariant.head;
      listed = (
        list ++ found.0 ∷ [],
        c.in_ok-push-in-Batch.ensures.ok ∙ (λ i. so_far.invariant.listed.1 i ++ found.1 i ∷ []) ∙ sym (map-append listed_as list (found.0 ∷ [])),
        found.2,
      );
    }
