-- A store that is not closed, and what was read of it before an append.
-- A premise that a closed store cannot meet is under `closed ≡ false →`; a clause on Ok alone takes it from `unless_closed`.
use Rattle.std.proofs.Common.{◌≡◌, ℕ, List, ◌∷◌, Option, Some, Result, Ok, Err, Bool, true, false, refl, sym, subst}
use Rattle.std.specs.Prelude.{OnErr, OnOk}
use Rattle.gd_disk.specs.Disks.{Knows}
use Rattle.group_records.specs.declared.batches.Stored.{Stored}
use Rattle.group_records.specs.declared.heads.Head.{Head}
use Rattle.tree_journal.specs.Records.{is_named, AreRecordsFrom}
use Rattle.tree_journal.specs.declared.refusals.JournalRefusal.{JournalRefusal}
use Rattle.tree_journal.specs.declared.refusals.JournalRefusal.TheVariants.{Closed}
use Rattle.tree_store.specs.Groups.{IsGroupTo}

pub is_open : (closed : Bool) → (closed ≡ true → ⊥) → closed ≡ false
is_open true not = absurd (not refl)
is_open false not = refl

-- what holds of the answer of a store that is not closed holds of each that is Ok
pub unless_closed : {T : Type 0} (closed : Bool) (result : Result T JournalRefusal) (P : Type 0) → (closed ≡ true → result ≡ Err Closed)
    → (closed ≡ false → OnOk result P) → OnOk result P
unless_closed {T = T} true result P shut goes = subst (λ (answer : Result T JournalRefusal). OnOk answer P) (sym (shut refl)) tt
unless_closed false result P shut goes = goes refl

-- what holds whatever the answer is, holds of an error
pub on_err : {T P : Type 0} (result : Result T JournalRefusal) → P → OnErr result P
on_err (Ok done) holds = tt
on_err (Err why) holds = holds

-- what was read before an append is there after it
module _ {T : Type 0} (old new : Option (List ℕ)) (head : Head) (read : List Stored) (at : ℕ)
    (was : (now : List ℕ) → new ≡ Some now → (file : List ℕ) × (old ≡ Some file)) where
  pub still_to : (result : Result T JournalRefusal)
      → ((file now : List ℕ) (bodies : List (List ℕ)) (to : ℕ) → old ≡ Some file → new ≡ Some now → AreRecordsFrom file 9 bodies to
      → OnOk result (AreRecordsFrom now 9 bodies to))
      → OnOk result (Knows new (λ now. is_named now ≡ true)) → Knows old (λ file. IsGroupTo file head read at)
      → OnOk result (Knows new (λ now. IsGroupTo now head read at))
  still_to (Err why) before named begins = tt
  still_to (Ok done) before named begins = λ now shows.
      let (file, is) = was now shows in
      let (first, bodies, name, stand, is_head, batches) = begins file is in
      (first, bodies, named now shows, before file now (first ∷ bodies) at is shows stand, is_head, batches)
