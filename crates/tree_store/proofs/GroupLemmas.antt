-- Records one after the other, and files that have them.
use Rattle.std.proofs.Common.{◌≡◌, ◌∙◌, ℕ, ◌+◌, ◌≤◌, List, [], ◌∷◌, ◌++◌, length, true, Option, Ok, Err, inl, inr, ⊎_elim, refl, sym, ap, subst, append-nil}
use Rattle.group_records.specs.declared.batches.Stored.{Stored}
use Rattle.group_records.specs.declared.heads.Head.{Head}
use Rattle.group_records.specs.Records.{Record, a_batch, IsReadAs, IsBatchOf}
use Rattle.group_records.proofs.OnceLemmas.{batch_once}
use Rattle.tree_journal.specs.Crashes.{Opens, IsBeforeOrAfter}
use Rattle.tree_journal.specs.Records.{records, bodies_from, is_named, with_front, AreRecordsFrom, IsRecordAt}
use Rattle.tree_store.specs.Groups.{IsDue, IsAfter, AreRecordsOf, IsGroup, IsGroupTo, HasGroup, IsGroupBeforeOrAfter}

-- the laws of the records of a journal
pub record Laws : Type 0 where
  pub next : (file : List ℕ) (at : ℕ) (body : List ℕ) → IsRecordAt file at body
      → bodies_from file at ≡ with_front (body ∷ []) (bodies_from file (at + (5 + length body)))
  pub all : (file : List ℕ) (from to : ℕ) (bodies : List (List ℕ)) → AreRecordsFrom file from bodies to
      → bodies_from file from ≡ with_front bodies (bodies_from file to)
  pub breaks : (file : List ℕ) (from at : ℕ) → bodies_from file from ≡ Err at → from ≤ at

-- the records of a file that begins as a journal
pub named_records : (file : List ℕ) → is_named file ≡ true → records file ≡ bodies_from file 9
named_records file named = rw named refl

pub front_read : ((file : List ℕ) (from to : ℕ) (bodies : List (List ℕ)) → AreRecordsFrom file from bodies to
    → bodies_from file from ≡ with_front bodies (bodies_from file to)) → (file : List ℕ) (to : ℕ) (bodies : List (List ℕ)) → is_named file ≡ true
    → AreRecordsFrom file 9 bodies to → records file ≡ with_front bodies (bodies_from file to)
front_read all file to bodies named stand = named_records file named ∙ all file 9 to bodies stand

-- a record more behind records that stand one after the other
stand_then : (file : List ℕ) (from to : ℕ) (bodies : List (List ℕ)) (body : List ℕ) → AreRecordsFrom file from bodies to → IsRecordAt file to body
    → AreRecordsFrom file from (bodies ++ body ∷ []) (to + 5 + length body)
stand_then file from to [] body here there =
    (subst (λ (k : ℕ). IsRecordAt file k body) (sym here) there, ap (λ (k : ℕ). k + 5 + length body) here)
stand_then file from to (next ∷ bodies) body (first, rest) there = (first, stand_then file (from + 5 + length next) to bodies body rest there)

module _ (head : Head) where
  -- with one record more
  records_then : (before : List Stored) (bodies : List (List ℕ)) (list : List Stored) (body : List ℕ) (next : Record) (after : List Stored)
      → AreRecordsOf head before bodies list → IsReadAs body next → IsAfter head list next after
      → AreRecordsOf head before (bodies ++ body ∷ []) after
  records_then before [] list body next after are read step =
      (next, after, read, subst (λ (mid : List Stored). IsAfter head mid next after) are step, refl)
  records_then before (first ∷ bodies) list body next after (said, mid, found, leads, rest) read step =
      (said, mid, found, leads, records_then mid bodies list body next after rest read step)

  -- with the record of a batch more, which is due after them
  batch_then : (bodies : List (List ℕ)) (list : List Stored) (body : List ℕ) (stored : Stored)
      → AreRecordsOf head [] bodies list → IsBatchOf body stored → IsDue head list stored
      → AreRecordsOf head [] (bodies ++ body ∷ []) (list ++ stored ∷ [])
  batch_then bodies list body stored are read due = records_then [] bodies list body (a_batch stored) (list ++ stored ∷ []) are read (due, refl)

  module _ (file : List ℕ) (list : List Stored) (at : ℕ) where
    -- a file has these batches up to a place, and one more up to the next
    pub group_then : (body : List ℕ) (stored : Stored) → IsRecordAt file at body → IsBatchOf body stored
        → IsDue head list stored → IsGroupTo file head list at
        → IsGroupTo file head (list ++ stored ∷ []) (at + 5 + length body)
    group_then body stored there read due (first, bodies, named, stand, is_head, are) = (
      first,
      bodies ++ body ∷ [],
      named,
      stand_then file 9 at (first ∷ bodies) body stand there,
      is_head,
      batch_then bodies list body stored are read due,
    )

    -- and no more
    pub group_whole : ((file : List ℕ) (from to : ℕ) (bodies : List (List ℕ)) → AreRecordsFrom file from bodies to
        → bodies_from file from ≡ with_front bodies (bodies_from file to)) → bodies_from file at ≡ Ok [] → IsGroupTo file head list at
        → IsGroup file head list
    group_whole all ended (first, bodies, named, stand, is_head, batches) = (
      first,
      bodies,
      front_read all file at (first ∷ bodies) named stand ∙ ap (with_front (first ∷ bodies)) ended ∙ ap Ok (append-nil (first ∷ bodies)),
      is_head,
      batches,
    )

-- which files are the group, and which are it with the batch of one record more, where its records are these
pub record Grows (head : Head) (list : List Stored) (body : List ℕ) (stored : Stored) (bodies : List (List ℕ)) : Type 0 where
  pub before : (file : List ℕ) → records file ≡ Ok bodies → IsGroup file head list
  pub after : (file : List ℕ) → records file ≡ Ok (bodies ++ body ∷ []) → IsGroup file head (list ++ stored ∷ [])

pub grows : (shows : Option (List ℕ)) (head : Head) (list : List Stored) (made body : List ℕ) (stored : Stored) → body ≡ made → HasGroup shows head list
    → IsBatchOf made stored → (due : Stored) × IsBatchOf made due × IsDue head list due
    → (bodies : List (List ℕ)) × Opens shows bodies × Grows head list body stored bodies
grows shows head list made body stored same (octets, is, (first, bodies, are, is_head, batches)) read (due, due_read, is_due) = (
  first ∷ bodies,
  (octets, is, are),
  record {
    before = λ file has. (first, bodies, has, is_head, batches);
    after = λ file has. (
      first,
      bodies ++ body ∷ [],
      has,
      is_head,
      batch_then head bodies list body stored batches (subst (λ (b : List ℕ). IsBatchOf b stored) (sym same) read)
          (subst (IsDue head list) (batch_once made due stored due_read read) is_due),
    );
  },
)

pub one_of_two : (head : Head) (list : List Stored) (body : List ℕ) (stored : Stored) (bodies : List (List ℕ)) → Grows head list body stored bodies
    → (file : List ℕ) → IsBeforeOrAfter bodies body file → IsGroupBeforeOrAfter head list stored file
one_of_two head list body stored bodies more file = ⊎_elim (λ was. inl (more.before file was)) (λ now. inr (more.after file now))
