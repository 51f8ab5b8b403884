-- A journal that is begun, and one that is opened.
use Rattle.std.proofs.Common.{◌≡◌, ◌∙◌, inl, inr, ℕ, List, [], ◌∷◌, ◌++◌, drop, true, Some, None, Ok, Err, refl, sym, ap, arith, subst}
use Rattle.std.specs.Prelude.{◌⊎◌}
use Rattle.std.proofs.lemmas.Bool.{cases_eq, ne_eqb}
use Rattle.gd_disk.specs.Disks.{Knows, Only, Torn, Cut, Follows}
use Rattle.gd_disk.specs.MomentLaws.{shown_before}
use Rattle.gd_disk.specs.Moments.{shown, Keeps}
use Rattle.gd_disk.specs.declared.disks.Disk.{Ghosts}
use Rattle.tree_journal.specs.Crashes.{IsCutOf, IsUnfilled}
use Rattle.tree_journal.specs.Private.Fronts.{IsReached, Stands}
use Rattle.journal_gates.specs.Gates.{IsGated, IsTorn}
use Rattle.tree_journal.specs.Records.{records, is_named, name_text, front_text}
use Rattle.tree_journal.proofs.FrontLemmas.{first_is_reached, shut_is_last}

-- the name after a commit mark is a journal without a record, or none
named : (gate : ℕ) → (records (gate ∷ (name_text ++ 0 ∷ [])) ≡ Err 0) ⊎ (records (gate ∷ (name_text ++ 0 ∷ [])) ≡ Ok [])
named gate = elim (cases_eq gate 1) [
  | inl is ↦ inr (ap (λ (g : ℕ). records (g ∷ (name_text ++ 0 ∷ []))) is)
  | inr shut ↦ inl (rw (ne_eqb gate 1 shut) refl)
]

-- what a crash leaves while the name is written
pub gated_name : (c : List ℕ) → IsGated [] 0 (name_text ++ 0 ∷ []) [] c → IsUnfilled c
gated_name c (inl shut) = inl (ap records shut.1)
gated_name c (inr there) =
    let none : (records c ≡ Err 0) ⊎ (records c ≡ Ok []) = subst (λ (l : List ℕ). (records l ≡ Err 0) ⊎ (records l ≡ Ok [])) (sym there.1) (named there.0) in
    none

-- before that the old file is cut, and its first octet written
pub torn_first : (old cut : List ℕ → Type 0) → Follows (Cut 0) old cut → (c : List ℕ) → IsTorn 0 1 cut c → IsCutOf old c
torn_first old cut follows c torn =
    let was = follows torn.0 torn.1 in
    (was.0, torn.0, was.1, was.2, torn.2)

module _ (nothing_written : (at n : ℕ) (file : List ℕ) → Torn at n file file) (nothing_cut : (to : ℕ) (file : List ℕ) → Cut to file file) where
  pub not_begun : (old : List ℕ → Type 0) (c : List ℕ) → old c → IsCutOf old c
  not_begun old c now = (c, c, now, nothing_cut 0 c, nothing_written 0 1 c)

  pub only_cut : (old cut : List ℕ → Type 0) → Follows (Cut 0) old cut → (c : List ℕ) → cut c → IsCutOf old c
  only_cut old cut follows c now = torn_first old cut follows c (c, now, nothing_written 0 1 c)

module _ {D : Type 0} (g : Ghosts D) (old new : D) where
  -- a journal that was begun
  pub begun_stands : Keeps g old new → Knows (shown g old) (λ _. shown g new ≡ Some (front_text [] ++ 0 ∷ []))
      → Knows (shown g new) (λ file. Only file (g.may_leave new)) → Stands g new 9 (Some 9)
  begun_stands keeps octets durable = record {
    read = λ file is. first file is;
    ended = λ file is. shut_is_last file 9 0 [] (first file is) (ap (λ (l : List ℕ). drop 9 l) (sym (whole file is))) (omega arith);
    durable = durable;
  }
    where
      whole : (file : List ℕ) → shown g new ≡ Some file → front_text [] ++ 0 ∷ [] ≡ file
      whole file is = cc (octets (shown_before g old new keeps file is).0 (shown_before g old new keeps file is).1, is)

      first : (file : List ℕ) → shown g new ≡ Some file → IsReached file 9
      first file is =
          let text : front_text [] ++ 0 ∷ [] ≡ file = cc (octets (shown_before g old new keeps file is).0 (shown_before g old new keeps file is).1, is) in
          first_is_reached file (ap is_named (sym text))

  -- a journal that was opened
  pub opened_stands : shown g new ≡ shown g old → Knows (shown g old) (λ file. true ≡ is_named file)
      → Knows (shown g new) (λ file. Only file (g.may_leave new)) → Stands g new 9 None
  opened_stands same is_one durable = record {
    read = λ file is. first_is_reached file (sym (is_one file (sym same ∙ is)));
    ended = λ file is. tt;
    durable = durable;
  }
