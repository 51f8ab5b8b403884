-- Batches that are read of a journal, one after the other.
use Rattle.std.specs.Prelude.{unwrap_or}
use Rattle.std.proofs.Common.{◌≡◌, ℕ, ◌+◌, ◌<◌, ◌≤◌, Option, Some, List, [], ◌∷◌, ◌++◌, length, sym, ap, subst}
use Rattle.gd_disk.specs.Media.{Medium}
use Rattle.group_records.specs.declared.batches.Stored.{Stored}
use Rattle.group_records.specs.declared.heads.Head.{Head}
use Rattle.journal_listing.specs.declared.rows.JournalEnd.{JournalEnd}
use Rattle.journal_listing.specs.declared.rows.JournalEnd.TheVariants.{Whole, Begun, NotAJournal}
use Rattle.journal_listing.specs.Listings.{EndsAfter}
use Rattle.journal_listing.specs.Private.Replays.{IsEndAt, IsReadTo}
use Rattle.tree_store.specs.declared.dues.Due.{Due}
use Rattle.tree_store.specs.Groups.{IsGroup, IsGroupTo}
use Rattle.tree_store.specs.Replays.{IsReadAfter, IsReplayOf}
use Rattle.tree_store.specs.Views.{ReadSoFar, View}

-- the octets of a disk that shows them
pub shown_same : (a b : List ℕ) → Some a ≡ Some b → a ≡ b
shown_same a b same = ap (λ (o : Option (List ℕ)). unwrap_or o []) same

-- with the next batch
pub read_more : (was now : View Medium) (list : List Stored) (next : Due) (replay : ReadSoFar) → now.disk.image ≡ was.disk.image → now.head ≡ was.head
    → IsReadAfter was.head list next replay → IsGroupTo was.disk.image was.head (list ++ next.stored ∷ []) now.at → IsReadTo now replay (list ++ next.stored ∷ [])
read_more was now list next replay image head after read = record {
  replayed = subst (λ (h : Head). IsReplayOf h replay (list ++ next.stored ∷ [])) (sym head) after.replayed;
  read = subst (λ (file : List ℕ). IsGroupTo file now.head (list ++ next.stored ∷ []) now.at) (sym image)
      (subst (λ (h : Head). IsGroupTo was.disk.image h (list ++ next.stored ∷ []) now.at) (sym head) read);
}

-- after the last one
pub ends_at : (file : List ℕ) (head : Head) (list : List Stored) (at size : ℕ) (end : JournalEnd) → IsGroup file head list → IsGroupTo file head list at
    → size ≡ length file → IsEndAt at size end → EndsAfter file head list end
ends_at file head list at size Whole group to same ends = (at, group, to, subst (λ n. n ≤ at + 1) same ends)
ends_at file head list at size (Begun place) group to same ends = (
  group,
  subst (IsGroupTo file head list) (sym ends.0) to,
  subst (λ p. p + 1 < length file) (sym ends.0) (subst (λ n. at + 1 < n) same ends.1),
)
ends_at file head list at size (NotAJournal place) group to same ends = absurd ends
