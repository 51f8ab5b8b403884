use Rattle.std.proofs.Common.{◌≡◌, ◌-◌, ◌^◌, false, List}
use Rattle.std.specs.Prelude.{map}
use Rattle.group_records.specs.declared.batches.Stored.{Stored}
use Rattle.journal_listing.specs.Listings.{listed_as}
use Rattle.journal_listing.specs.Private.Replays.{IsReadTo}
use Rattle.journal_listing.proofs.readings.list_batches.Given as goal

-- the batches that were read are listed
abbrev pub invariant-batches : goal.invariant-batches
invariant-batches l = record {
  is_open : l.store.closed ≡ false;
  same : l.store.disk.image ≡ l.fn.store.disk.image;
  head : l.store.head ≡ l.fn.store.head;
  listed : (list : List Stored) × (l.batches ≡ map listed_as list) × IsReadTo l.store l.replay list;
}

abbrev pub decreases-batches : goal.decreases-batches
decreases-batches l = 2 ^ 62 - l.store.at
