-- What the definition of a listing tells apart: the records that are committed are listed, and no octets after them.
use Rattle.std.proofs.Common.{◌≡◌, ◌∙◌, ℕ, List, [], ◌∷◌, ◌++◌, map, Some, Result, Ok, Err, ap, sym, subst, refl}
use Rattle.group_records.specs.declared.heads.Head.{Head}
use Rattle.journal_listing.specs.declared.rows.JournalEnd.TheVariants.{Begun}
use Rattle.journal_listing.specs.declared.rows.ListedBatch.{ListedBatch}
use Rattle.journal_listing.specs.Listings.{IsListingOf, listed_as}
use Rattle.tree_journal.specs.Records.{front_text, records}
use Rattle.tree_store.specs.Groups.{AreRecordsOf}

-- one record of one octet: what follows its clear commit mark is no record, whether it is an octet or looks like a record
abbrev one_record : List (List ℕ)
one_record = (7 ∷ []) ∷ []

octets_after_the_gate : records (front_text one_record ++ 0 ∷ 9 ∷ []) ≡ Ok one_record
octets_after_the_gate = refl

record_that_is_not_closed : records (front_text one_record ++ 0 ∷ 0 ∷ 0 ∷ 0 ∷ 1 ∷ 8 ∷ []) ≡ Ok one_record
record_that_is_not_closed = refl

-- the records after the first one
abbrev later : Result (List (List ℕ)) ℕ → List (List ℕ)
later (Ok []) = []
later (Ok (first ∷ bodies)) = bodies
later (Err place) = []

-- of a file with the record of its head alone no batch is listed, though octets follow that
head_alone_lists_no_batch : (file first : List ℕ) (head : Head) (batches : List ListedBatch) (at : ℕ) → records file ≡ Ok (first ∷ [])
    → IsListingOf file (record { head = Some head; batches = batches; end = Begun at }) → batches ≡ []
head_alone_lists_no_batch file first head batches at has is =
    let list = is.0 in
    let group = is.2.0 in
    let none : group.1 ≡ [] = ap later (sym group.2 ∙ has) in
    is.1 ∙ ap (map listed_as) (subst (λ bodies. AreRecordsOf head [] bodies list) none group.4)
