-- What reading a journal to its end comes to.
use Rattle.std.proofs.Common.{◌≡◌, ◌∙◌, ◌⊎◌, inl, inr, ℕ, false, List, [], ◌∷◌, ◌++◌, Option, None, Some, refl, sym, ap, subst, arith}
use Rattle.std.specs.Prelude.{Result, Ok, Err, IfErr, IfSome, IsErrAnd, IsSome}
use Rattle.gd_disk.specs.Disks.{Knows}
use Rattle.gd_disk.specs.MomentLaws.{joined, keeps-joined, reads-joined, weaker}
use Rattle.gd_disk.specs.Moments.{shown, Keeps, LeavesOnly, OnlyReads, ReportsFaults}
use Rattle.gd_disk.specs.declared.disks.Disk.{Ghosts}
use Rattle.group_terms.specs.Faults.{Rose}
use Rattle.group_pushes.specs.Fits.{MadeFits}
use Rattle.group_model.specs.declared.entries.Refusal.{Refusal}
use Rattle.group_model.specs.declared.entries.Refusal.TheVariants as refusals
use Rattle.group_records.specs.declared.batches.Stored.{Stored}
use Rattle.group_records.specs.declared.heads.Head.{Head}
use Rattle.tree_journal.specs.Records.{records}
use Rattle.tree_journal.specs.declared.refusals.JournalRefusal.{JournalRefusal}
use Rattle.tree_journal.specs.declared.refusals.JournalRefusal.TheVariants.{Closed, DiskFault, NotAJournal, NoMemory}
use Rattle.tree_store.specs.declared.dues.Due.{Due}
use Rattle.tree_store.specs.Groups.{HasNoHead, HasNoneAt, IsGroup, IsGroupTo, IsNoGroup, made_of}
use Rattle.tree_store.specs.Views.{ReadSoFar, View}
use Rattle.tree_store.specs.Replays.{IsReadAfter, IsReplayOf}
use Rattle.gcks_core.specs.Private.Cores.{IsAtEnd}
use Rattle.gcks_core.specs.Stored.{stored_list}
use Rattle.gcks_core.proofs.ReplayLemmas.{IsReading, read_more, read_none, there}

module _ {D : Type 0} (g : Ghosts D) where
  -- a disk keeps what it is where nothing is done
  pub keeps_none : (disk : D) → Keeps g disk disk
  keeps_none disk = record { honest = refl; exposed = (λ some. some, λ some. some); counted = omega arith }

-- what holds of all that is there holds of it
pub if_some : {A : Type 0} (P : A → Type 0) (found : Option A) (a : A) → found ≡ Some a → IfSome found P → P a
if_some {A = A} P found a is holds = subst (λ (there : Option A). IfSome there P) is holds

module _ {D : Type 0} (g : Ghosts D) (first : View D) (head : Head) where
  -- before the first batch
  pub reading_begun : (replay : ReadSoFar) → IsReplayOf head replay [] → replay.last ≡ None → Knows (shown g first.disk) (λ file. IsGroupTo file first.head [] first.at)
      → first.closed ≡ false → first.head ≡ head → Knows (shown g first.disk) (λ file. LeavesOnly g first.disk first.disk (λ c. c ≡ file))
      → IsReading g first first head replay
  reading_begun replay is none file is_open same still = record {
    list = [];
    begins = λ octets shows. subst (λ (h : Head). IsGroupTo octets h [] first.at) same (file octets shows);
    read = read_none head replay is none;
    open_still = is_open;
    same_head = same;
    shows = refl;
    moments = still;
    unfaulted = refl;
    keeps = keeps_none g first.disk;
  }

  module _ (replay : ReadSoFar) (now : View D) (reading : IsReading g first now head replay) where
    -- what was read, as a journal has it
    abbrev so_far : List Stored
    so_far = stored_list head.depth reading.list

    -- it is the file that is shown now, as far as it goes
    read_now : (file : List ℕ) → shown g now.disk ≡ Some file → IsGroupTo file head so_far now.at
    read_now file is = reading.begins file (sym reading.shows ∙ is)

    -- one call more
    module _ (next : View D) where
      pub still_shows : shown g next.disk ≡ shown g now.disk → shown g next.disk ≡ shown g first.disk
      still_shows same = same ∙ reading.shows

      pub still_moments : (now.closed ≡ false → Knows (shown g now.disk) (λ file. LeavesOnly g now.disk next.disk (λ c. c ≡ file)))
          → Knows (shown g first.disk) (λ file. LeavesOnly g first.disk next.disk (λ c. c ≡ file))
      still_moments goes file is =
          joined g first.disk now.disk next.disk (λ c. c ≡ file) (reading.moments file is) (goes reading.open_still file (reading.shows ∙ is))

      pub still_keeps : Keeps g now.disk next.disk → Keeps g first.disk next.disk
      still_keeps keeps = keeps-joined g first.disk now.disk next.disk reading.keeps keeps

      pub still_rose : Rose (g.faults now.disk) (g.faults next.disk) → Rose (g.faults first.disk) (g.faults next.disk)
      still_rose rose = subst (λ n. Rose n (g.faults next.disk)) reading.unfaulted rose

      pub still_stands : g.faults next.disk ≡ g.faults now.disk → g.faults next.disk ≡ g.faults first.disk
      still_stands same = same ∙ reading.unfaulted

      -- with the next batch
      module _ (after : ReadSoFar) (same_head : next.head ≡ now.head)
          (goes : (list : List Stored) → IsReplayOf now.head replay list → (due : Due) × IsReadAfter now.head list due after
          × Knows (shown g now.disk) (λ file. IsGroupTo file now.head list now.at → IsGroupTo file now.head (list ++ due.stored ∷ []) next.at)) where
        further : (due : Due) × IsReadAfter head so_far due after
            × Knows (shown g now.disk) (λ file. IsGroupTo file head so_far now.at → IsGroupTo file head (so_far ++ due.stored ∷ []) next.at)
        further =
            subst (λ (h : Head). IsReplayOf h replay so_far → (due : Due) × IsReadAfter h so_far due after
            × Knows (shown g now.disk) (λ file. IsGroupTo file h so_far now.at → IsGroupTo file h (so_far ++ due.stored ∷ []) next.at))
            reading.same_head (goes so_far) reading.read.replayed

        pub reading_next : IfSome after.last (λ due. MadeFits (made_of due.stored)) → next.closed ≡ false → shown g next.disk ≡ shown g now.disk
            → (now.closed ≡ false → Knows (shown g now.disk) (λ file. LeavesOnly g now.disk next.disk (λ c. c ≡ file)))
            → g.faults next.disk ≡ g.faults now.disk → Keeps g now.disk next.disk → IsReading g first next head after
        reading_next fits is_open shows moments faults keeps =
            let due = further.0 in
            let stored = due.stored in
            record {
              list = reading.list ++ made_of stored ∷ [];
              begins = λ file is.
                  subst (λ list. IsGroupTo file head list next.at) (there head replay after reading.list due reading.read further.1)
                  (further.2 file (reading.shows ∙ is) (reading.begins file is));
              read = read_more head replay after reading.list due reading.read further.1
                  (if_some (λ (found : Due). MadeFits (made_of found.stored)) after.last due further.1.last fits);
              open_still = is_open;
              same_head = same_head ∙ reading.same_head;
              shows = still_shows shows;
              moments = still_moments moments;
              unfaulted = still_stands faults;
              keeps = still_keeps keeps;
            }

      -- after the last batch
      pub reading_ends : next.closed ≡ false → IsSome next.end → shown g next.disk ≡ shown g now.disk
          → ((list : List Stored) → Knows (shown g now.disk) (λ file. IsGroupTo file now.head list now.at → IsGroup file now.head list))
          → IsAtEnd g next head reading.list
      reading_ends is_open walked shows ends = record {
        open_still = is_open;
        walked = walked;
        file = λ file is.
            let here = sym shows ∙ is in
            subst (λ (h : Head). IsGroupTo file h so_far now.at → IsGroup file h so_far) reading.same_head (ends so_far file here) (read_now file here);
      }

    -- at a place at which there is no record that may come next
    pub breaks_off : (at : ℕ) → at ≡ now.at
        → ((list : List Stored) → IsReplayOf now.head replay list → Knows (shown g now.disk) (λ file. HasNoneAt file now.head list at))
        → Knows (shown g first.disk) (λ file. IsNoGroup file at)
    breaks_off at same none file is =
        let here = reading.shows ∙ is in
        inr (inr (
          head,
          so_far,
          subst (IsGroupTo file head so_far) (sym same) (read_now file here),
          subst (λ (h : Head). IsReplayOf h replay so_far → HasNoneAt file h so_far at) reading.same_head
              (λ replayed. none so_far replayed file here) reading.read.replayed,
        ))

-- what holds of an error holds of an answer that is it
pub if_error : {T E : Type 0} (P : E → Type 0) (result : Result T E) (error : E) → IsErrAnd result (λ e. e ≡ error) → P error → IfErr result P
if_error P (Ok value) error is holds = absurd is
if_error P (Err why) error is holds = subst P (sym is) holds

pub none_there : {A : Type 0} (found : Option A) → ((a : A) → found ≡ Some a → ⊥) → found ≡ None
none_there None not = refl
none_there (Some a) not = absurd (not a refl)

-- a disk on which a store was opened, and was then read
pub then_read : {D : Type 0} (g : Ghosts D) (old mid new : D) → ((file : List ℕ) → shown g old ≡ Some file → g.may_leave old file)
    → (first second : Type 0) → OnlyReads g first old mid → (first → ⊥) → ReportsFaults g second mid new → shown g new ≡ shown g mid
    → Knows (shown g mid) (λ file. LeavesOnly g mid new (λ c. c ≡ file)) → OnlyReads g second old new
then_read g old mid new stay first second opened goes reports same left =
    reads-joined g old mid new first second opened goes reports same (λ file is.
    weaker g mid new (λ c. c ≡ file) (g.may_leave old) (λ c here. subst (g.may_leave old) (sym here) (stay file is)) (left file (opened.same ∙ is)))

-- a core says that there is no journal where its store says it, at the same place
pub said_none : (why : JournalRefusal) (result : Refusal) → (why ≡ Closed → ⊥) → (why ≡ DiskFault → result ≡ refusals.DiskFault)
    → ((at : ℕ) → why ≡ NotAJournal at → result ≡ refusals.NotAJournal at) → (why ≡ NoMemory → result ≡ refusals.NoMemory) → (at : ℕ)
    → result ≡ refusals.NotAJournal at → why ≡ NotAJournal at
said_none Closed result not fault none memory at said = absurd (not refl)
said_none DiskFault result not fault none memory at said = absurd (cc (fault refl, said))
said_none (NotAJournal place) result not fault none memory at said = ap NotAJournal (cc (none place refl, said))
said_none NoMemory result not fault none memory at said = absurd (cc (memory refl, said))

-- it says that the disk failed where its store says it
pub said_fault : (why : JournalRefusal) (result : Refusal) → (why ≡ Closed → ⊥) → ((at : ℕ) → why ≡ NotAJournal at → result ≡ refusals.NotAJournal at)
    → (why ≡ NoMemory → result ≡ refusals.NoMemory) → result ≡ refusals.DiskFault → why ≡ DiskFault
said_fault Closed result not none memory said = absurd (not refl)
said_fault DiskFault result not none memory said = refl
said_fault (NotAJournal place) result not none memory said = absurd (cc (none place refl, said))
said_fault NoMemory result not none memory said = absurd (cc (memory refl, said))

-- a file that has no head is no group's
pub no_head : (shows : Option (List ℕ)) (at : ℕ)
    → ((at ≡ 0) × Knows shows (λ file. records file ≡ Err 0)) ⊎ ((at ≡ 9) × Knows shows (λ file. HasNoHead file))
    → Knows shows (λ file. IsNoGroup file at)
no_head shows at (inl (zero, none)) file is = inl (zero, none file is)
no_head shows at (inr (nine, none)) file is = inr (inl (nine, none file is))
