-- What is listed of the octets of a journal.
use Rattle.std.specs.Prelude.{◌≡◌, ◌⊎◌, ℕ, ◌+◌, ◌<◌, ◌≤◌, List, [], length, map, Err, MatchOption}
use Rattle.group_records.specs.declared.batches.Stored.{Stored}
use Rattle.group_records.specs.declared.heads.Head.{Head}
use Rattle.journal_listing.specs.declared.rows.JournalEnd.{JournalEnd}
use Rattle.journal_listing.specs.declared.rows.JournalEnd.TheVariants.{Whole, Begun, NotAJournal}
use Rattle.journal_listing.specs.declared.rows.ListedBatch.{ListedBatch}
use Rattle.journal_listing.specs.declared.rows.Listing.{Listing}
use Rattle.tree_journal.specs.Records.{records}
use Rattle.tree_store.specs.Groups.{IsGroup, IsGroupTo, HasNoHead, HasNoneAt}

-- a batch as it is listed: of the values of its keys, how many positions have new ones
abbrev pub listed_as : Stored → ListedBatch
listed_as stored = record { epoch = stored.epoch; sequence = stored.sequence; keys = length stored.values.nodes; changes = stored.batch }

-- a file has no head of a group: it does not begin as a journal, or has no whole record, or its first one is none of a head
abbrev pub EndsHeadless : List ℕ → JournalEnd → Type 0
EndsHeadless file Whole = ⊥
EndsHeadless file (Begun at) = ⊥
EndsHeadless file (NotAJournal at) = ((at ≡ 0) × (records file ≡ Err 0)) ⊎ ((at ≡ 9) × HasNoHead file)

-- A file ends so after these batches: they are all that its group has, and nothing follows the clear commit mark; or octets follow it; or
-- there is neither a clear commit mark nor a record that may come after them.
abbrev pub EndsAfter : List ℕ → Head → List Stored → JournalEnd → Type 0
EndsAfter file head list Whole = (at : ℕ) × IsGroup file head list × IsGroupTo file head list at × (length file ≤ at + 1)
EndsAfter file head list (Begun at) = IsGroup file head list × IsGroupTo file head list at × (at + 1 < length file)
EndsAfter file head list (NotAJournal at) = IsGroupTo file head list at × HasNoneAt file head list at

-- what is listed of a file
abbrev pub IsListingOf : List ℕ → Listing → Type 0
IsListingOf file listing =
    MatchOption listing.head ((listing.batches ≡ []) × EndsHeadless file listing.end)
    (λ head. (list : List Stored) × (listing.batches ≡ map listed_as list) × EndsAfter file head list listing.end)
