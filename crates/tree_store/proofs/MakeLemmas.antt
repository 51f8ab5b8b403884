-- What a crash leaves while a group is made.
use Rattle.std.proofs.Common.{◌≡◌, ◌⊎◌, inl, inr, ⊎_elim, ℕ, List, [], ◌∷◌, Result, Ok, Err, refl}
use Rattle.std.specs.Result.{IsErrAnd}
use Rattle.gd_disk.specs.Disks.{Torn, Cut}
use Rattle.gd_disk.specs.MomentLaws.{started, joined, weaker}
use Rattle.gd_disk.specs.Moments.{LeavesOnly}
use Rattle.gd_disk.specs.declared.disks.Disk.{Ghosts}
use Rattle.group_records.specs.declared.heads.Head.{Head}
use Rattle.group_records.specs.Records.{IsHeadOf}
use Rattle.tree_journal.specs.Crashes.{IsBeforeOrAfter, IsCutOf, IsUnfilled, MakesJournal}
use Rattle.tree_journal.specs.Records.{records}
use Rattle.tree_journal.specs.declared.refusals.FormatRefusal.{FormatRefusal}
use Rattle.tree_store.specs.Views.{View, store_disk}
use Rattle.tree_store.specs.Groups.{IsGroup, MakesGroup}

-- the disk that a refusal gives back
pub gave_back : {D : Type 0} (result : Result (View D) (FormatRefusal D)) (refused : FormatRefusal D) → IsErrAnd result (λ other. other ≡ refused)
    → store_disk result ≡ refused.disk
gave_back (Ok store) refused is = absurd is
gave_back (Err other) refused is = λ i. (is i).disk

-- a file with the head's record alone is the group without a batch
pub head_alone : (head : Head) (made : List ℕ) → IsHeadOf made head → (file : List ℕ) → records file ≡ Ok (made ∷ []) → IsGroup file head []
head_alone head made is_head file are = (made, [], are, is_head, refl)

module _ {D : Type 0} (g : Ghosts D) (head : Head) (old : D) where
  abbrev Cuts : List ℕ → Type 0
  Cuts = IsCutOf (g.may_leave old)

  abbrev Begun : List ℕ → Type 0
  Begun file = IsUnfilled file ⊎ IsGroup file head []

  pub untouched : ((at n : ℕ) (file : List ℕ) → Torn at n file file) → ((to : ℕ) (file : List ℕ) → Cut to file file)
      → ((c : List ℕ) → g.left_since old (g.moment old) c → g.may_leave old c) → MakesGroup g head old old
  untouched nothing_written nothing_cut only_now =
      inl (started g old Cuts only_now (λ c now. (c, c, now, nothing_cut 0 c, nothing_written 0 1 c)))

  pub journal_alone : (new : D) → MakesJournal g old new → MakesGroup g head old new
  journal_alone new (inl only) = inl only
  journal_alone new (inr (mid, cut, then_made)) = inr (mid, cut, weaker g mid new IsUnfilled Begun (λ file unfilled. inl unfilled) then_made)

  module _ (made : List ℕ) (is_head : IsHeadOf made head) (journal new : D) (appended : LeavesOnly g journal new (IsBeforeOrAfter [] made)) where
    append_only : LeavesOnly g journal new Begun
    append_only =
        weaker g journal new (IsBeforeOrAfter [] made) Begun
        (λ file. ⊎_elim (λ none. inl (inr none)) (λ one. inr (head_alone head made is_head file one))) appended

    pub head_appended : MakesJournal g old journal → MakesGroup g head old new
    head_appended (inl only) = inr (journal, only, append_only)
    head_appended (inr (mid, cut, then_made)) = inr (
      mid,
      cut,
      joined g mid journal new Begun (weaker g mid journal IsUnfilled Begun (λ file unfilled. inl unfilled) then_made) append_only,
    )
