-- A file in memory after one call more.
-- A flag that is false while a call is made and true again after its Ok, in place of one that is set on failure: then `?` needs no arm (`MemFile::sync`).
use Rattle.std.specs.Prelude.{◌⊎◌}
use Rattle.std.proofs.Common.{◌≡◌, ◌∙◌, inl, inr, ⊎_elim, Bool, true, false, ℕ, ◌≤◌, ◌<◌, List, [], length, refl, sym, subst, arith}
use Rattle.std.proofs.lemmas.List.{take_all}
use Rattle.gd_disk.specs.Disks.{Torn, Follows, Narrows, Elapses}
use Rattle.gd_disk.specs.Media.{Medium, MayLeave, wrote}
use Rattle.file_disks.specs.FileMedia.{FileMedium, MayLeaveFile, FileLeftSince}
use Rattle.folder_files.specs.Files.{Standing}
use Rattle.gd_disk.proofs.MediumLemmas.{Left, GoesOn, write_follows}
use Rattle.folder_files.proofs.PieceLemmas.{Torn-over}
use Rattle.gd_disk.proofs.TornLemmas.{Torn-same, undone-written}

-- a file in memory by its parts
abbrev pub file_of : Medium → Standing → ℕ → ℕ → Bool → ℕ → FileMedium
file_of medium standing listed most taken refused =
    record { medium = medium; standing = standing; listed = listed; most = most; taken = taken; refused = refused }

-- a step of the octets is one of the file
pub file_follows : (step : List ℕ → List ℕ → Type 0) (view old new : FileMedium) → view ≡ old → step [] []
    → new.standing.is_listed ≡ view.standing.is_listed → Follows step (Left view.medium) (Left new.medium) → Follows step (MayLeaveFile old) (MayLeaveFile new)
file_follows step view old new is none same follows =
    subst (λ (file : FileMedium). Follows step (MayLeaveFile file) (MayLeaveFile new)) is each
  where
    each : Follows step (MayLeaveFile view) (MayLeaveFile new)
    each c (inl left) = let was = follows c left in (was.0, inl was.1, was.2)
    each c (inr missing) = ([], inr (sym same ∙ missing.0, refl), subst (λ (l : List ℕ). step [] l) (sym missing.1) none)

-- where the octets narrow, the file does
pub file_narrows : (view old new : FileMedium) → view ≡ old → new.standing.is_listed ≡ view.standing.is_listed
    → Narrows (Left view.medium) (Left new.medium) → Narrows (MayLeaveFile old) (MayLeaveFile new)
file_narrows view old new is same narrows =
    subst (λ (file : FileMedium). Narrows (MayLeaveFile file) (MayLeaveFile new)) is each
  where
    each : Narrows (MayLeaveFile view) (MayLeaveFile new)
    each c (inl left) = inl (narrows c left)
    each c (inr missing) = inr (sym same ∙ missing.0, missing.1)

-- a write takes no image away
pub file_widens : (view old new : FileMedium) → view ≡ old → new.standing.is_listed ≡ view.standing.is_listed
    → (at : ℕ) (octets : List ℕ) → at ≤ length view.medium.image → new.medium ≡ wrote view.medium at octets → Narrows (MayLeaveFile new) (MayLeaveFile old)
file_widens view old new is same at octets within done =
    subst (λ (file : FileMedium). Narrows (MayLeaveFile new) (MayLeaveFile file)) is each
  where
    each : Narrows (MayLeaveFile new) (MayLeaveFile view)
    each c (inl left) = inl (subst (λ (m : Medium). Left m c) (sym done) (inr (
      c,
      subst (λ (l : List ℕ). MayLeave l view.medium.events c) (sym (undone-written view.medium.image at octets within)) left,
      Torn-same at (length octets) c,
    )))
    each c (inr missing) = inr (same ∙ missing.0, missing.1)

-- time goes on in the file as in its octets
pub file_goes_on : (view old new : FileMedium) → view ≡ old → new.standing.is_listed ≡ view.standing.is_listed → new.listed ≡ view.listed
    → (view.standing.is_listed ≡ true → view.listed < length view.medium.events)
    → GoesOn view.medium.image view.medium.events new.medium.image new.medium.events
    → Elapses (length old.medium.events) (length new.medium.events) (FileLeftSince old) (FileLeftSince new) (MayLeaveFile new)
file_goes_on view old new is same when early goes = subst
    (λ (file : FileMedium). Elapses (length file.medium.events) (length new.medium.events) (FileLeftSince file) (FileLeftSince new) (MayLeaveFile new))
    is
    (record { later = goes.later; nothing_else = nothing; keeps = kept })
  where
    before : (listed : Bool) → view.standing.is_listed ≡ listed → (t : ℕ) (c : List ℕ) → c ≡ [] → t ≤ view.listed → FileLeftSince view t c
    before true is_there t c none le = inr (none, inr (le, omega (arith, le, early is_there)))
    before false unlisted t c none le = inr (none, inl unlisted)

    nothing : (t : ℕ) (c : List ℕ) → t ≤ length view.medium.events → FileLeftSince new t c → FileLeftSince view t c ⊎ MayLeaveFile new c
    nothing t c le (inl left) = ⊎_elim (λ was. inl (inl was)) (λ now. inr (inl now)) (goes.nothing_else t c le left)
    nothing t c le (inr (none, inl unlisted)) = inl (inr (none, inl (sym same ∙ unlisted)))
    nothing t c le (inr (none, inr late)) = inl (before view.standing.is_listed refl t c none (omega (arith, late.0, when)))

    kept : (t : ℕ) (c : List ℕ) → t ≤ length view.medium.events → FileLeftSince view t c → FileLeftSince new t c
    kept t c le (inl past) = inl (goes.keeps t c le past)
    kept t c le (inr (none, inl unlisted)) = inr (none, inl (same ∙ unlisted))
    kept t c le (inr (none, inr late)) = inr (none, inr (omega (arith, late.0, when), omega (arith, late.1, goes.later)))

-- a write of fewer octets
pub Follows-more : (at m n : ℕ) (old new : List ℕ → Type 0) → m ≤ n → Follows (Torn at m) old new → Follows (Torn at n) old new
Follows-more at m n old new few follows c left =
    let was = follows c left in
    (was.0, was.1, Torn-over at n at m was.0 was.0 c (omega arith) (omega (arith, few)) (Torn-same at n was.0) was.2)

-- a write of no octets
Torn-none : (old new : List ℕ) → Torn 0 0 old new → new ≡ old
Torn-none old new torn = sym (take_all (length old) new (omega (arith, torn.no_longer))) ∙ torn.after

-- when the folder has the file
pub file_listed : (view old new : FileMedium) → view ≡ old → new.standing.is_listed ≡ true → new.medium ≡ wrote view.medium 0 []
    → Narrows (MayLeaveFile old) (MayLeaveFile new)
file_listed view old new is listed done =
    subst (λ (file : FileMedium). Narrows (MayLeaveFile file) (MayLeaveFile new)) is each
  where
    each : Narrows (MayLeaveFile view) (MayLeaveFile new)
    each c (inl left) =
        let was = write_follows view.medium new.medium 0 [] (omega arith) done c left in
        inl (subst (λ (l : List ℕ). Left view.medium l) (sym (Torn-none was.0 c was.2)) was.1)
    each c (inr missing) = absurd (cc (listed, missing.0))
