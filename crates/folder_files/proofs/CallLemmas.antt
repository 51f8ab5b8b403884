-- One call of a file after others.
use Rattle.std.proofs.Common.{◌≡◌, ◌∙◌, ◌≤◌, ◌+◌, ℕ, List, length, inl, inr, ⊎_elim, arith}
use Rattle.std.specs.Prelude.{◌↔◌, Bool, true, false, Option, None, Some, IsSome, Result, Ok, Err, OnErr, if◌then◌else◌}
use Rattle.std.proofs.Common.{refl, ap, take, length-take}
use Rattle.gd_disk.specs.Disks.{Narrows, Torn, written}
use Rattle.group_terms.specs.Faults.{Rose}
use Rattle.folder_files.specs.Calls.{octets_of, Goes, Stays, IsQuiet, IsStep}
use Rattle.folder_files.specs.declared.folder_files.FolderFile.{Ghosts}
use Rattle.folder_files.proofs.PieceLemmas.{Torn-over, length-written}

-- what holds anyway holds where a call fails
pub on_err : {A E : Type 0} (answer : Result A E) (P : Type 0) → P → OnErr answer P
on_err (Ok value) P holds = tt
on_err (Err why) P holds = holds

-- a count that went up after it had not fallen
pub Rose-later : (old mid new : ℕ) → old ≤ mid → Rose mid new → Rose old new
Rose-later old mid new no_less (inl less) = inl (omega (arith, no_less, less))
Rose-later old mid new no_less (inr last) = inr last

-- a count with another one
pub Rose-left : (old new other : ℕ) → Rose old new → Rose (old + other) (new + other)
Rose-left old new other (inl less) = inl (omega (arith, less))
Rose-left old new other (inr last) = inr (omega (arith, last))

pub Rose-right : (old new other : ℕ) → Rose old new → Rose (other + old) (other + new)
Rose-right old new other (inl less) = inl (omega (arith, less))
Rose-right old new other (inr last) = inr (omega (arith, last))

module _ {F : Type 0} (g : Ghosts F) where
  Stays-then : (old mid new : F) → Stays g old mid → Stays g mid new → Stays g old new
  Stays-then old mid new first second = record {
    honest = second.honest ∙ first.honest;
    exposed = (λ some. first.exposed.0 (second.exposed.0 some), λ some. second.exposed.1 (first.exposed.1 some));
  }

  -- after calls that bring no image
  Goes-after : (old mid new : F) → ((t : ℕ) (c : List ℕ) → t ≤ g.moment old → g.may_leave old c → g.left_since old t c)
      → Goes g old mid → Narrows (g.may_leave old) (g.may_leave mid) → Goes g mid new → Goes g old new
  Goes-after old mid new counts_now first none second = record {
    later = omega (arith, first.later, second.later);
    nothing_else = λ t c le left. ⊎_elim
        (λ was. inl (⊎_elim (λ past. past) (λ now. counts_now t c le (none c now)) (first.nothing_else t c le was)))
        (λ now. inr now)
        (second.nothing_else t c (omega (arith, le, first.later)) left);
    keeps = λ t c le past. second.keeps t c (omega (arith, le, first.later)) (first.keeps t c le past);
  }

  -- before a call that takes no image away
  Goes-on : (old mid new : F) → Goes g old mid → Goes g mid new → Narrows (g.may_leave new) (g.may_leave mid) → Goes g old new
  Goes-on old mid new first second more = record {
    later = omega (arith, first.later, second.later);
    nothing_else = λ t c le left. ⊎_elim
        (λ was. ⊎_elim (λ past. inl past) (λ mids. inr (more c mids)) (first.nothing_else t c le was))
        (λ now. inr now)
        (second.nothing_else t c (omega (arith, le, first.later)) left);
    keeps = λ t c le past. second.keeps t c (omega (arith, le, first.later)) (first.keeps t c le past);
  }

  pub IsQuiet-then : (old mid new : F) → IsQuiet g old mid → IsQuiet g mid new → IsQuiet g old new
  IsQuiet-then old mid new first second = record {
    image = second.image ∙ first.image;
    crash = λ c. (λ left. (first.crash c).0 ((second.crash c).0 left), λ left. (second.crash c).1 ((first.crash c).1 left));
    time = Goes-on old mid new first.time second.time (λ c left. (second.crash c).1 left);
    stays = Stays-then old mid new first.stays second.stays;
  }

  -- a step after calls that change nothing
  pub IsStep-after : (step : List ℕ → List ℕ → Type 0) (old mid new : F)
      → ((t : ℕ) (c : List ℕ) → t ≤ g.moment old → g.may_leave old c → g.left_since old t c)
      → IsQuiet g old mid → IsStep g step mid new → IsStep g step old new
  IsStep-after step old mid new counts_now first second = record {
    image = λ file is. second.image file (first.image ∙ is);
    crash = λ file is c left. let was = second.crash file (first.image ∙ is) c left in (was.0, (first.crash was.0).0 was.1, was.2);
    time = Goes-after old mid new counts_now first.time (λ c left. (first.crash c).0 left) second.time;
    stays = Stays-then old mid new first.stays second.stays;
  }

  -- a write within the range of those before it
  pub IsStep-within : (at n from m : ℕ) (old mid new : F) → at ≤ from → from + m ≤ at + n
      → IsStep g (Torn at n) old mid → IsStep g (Torn from m) mid new → Narrows (g.may_leave new) (g.may_leave mid) → IsStep g (Torn at n) old new
  IsStep-within at n from m old mid new later within first second more = record {
    image = λ file is.
        let one = first.image file is in
        let two = second.image one.0 one.1 in
        (two.0, two.1, Torn-over at n from m file one.0 two.0 later within one.2 two.2);
    crash = λ file is c left.
        let one = first.image file is in
        let was = second.crash one.0 one.1 c left in
        let first_was = first.crash file is was.0 was.1 in
        (first_was.0, first_was.1, Torn-over at n from m first_was.0 was.0 c later within first_was.2 was.2);
    time = Goes-on old mid new first.time second.time more;
    stays = Stays-then old mid new first.stays second.stays;
  }

  -- where octets are known, some were known before
  pub known_before : (old new : F) → Stays g old new → (file : List ℕ) → octets_of g new ≡ Some file → (was : List ℕ) × (octets_of g old ≡ Some was)
  known_before old new stays file is = before (g.honest old) (g.honest new) (g.image old) (g.image new) stays.honest stays.exposed is
    where
      before : (was now : Bool) (had has : Option (List ℕ)) → now ≡ was → (IsSome has ↔ IsSome had)
          → (if now then has else None) ≡ Some file → (was_file : List ℕ) × ((if was then had else None) ≡ Some was_file)
      before true true (Some old_file) has same exposed shows = (old_file, refl)
      before true true None (Some new_file) same exposed shows = absurd (cc (exposed.0 refl))
      before true true None None same exposed shows = absurd (cc)
      before true false had has same exposed shows = absurd (cc)
      before false true had has same exposed shows = absurd (cc)
      before false false had has same exposed shows = absurd (cc)

  -- the file reaches to the end of what was written
  pub reached : (old now : F) (at done : ℕ) (octets : List ℕ) → done ≤ length octets
      → ((file : List ℕ) → octets_of g old ≡ Some file → at ≤ length file)
      → ((file : List ℕ) → octets_of g old ≡ Some file → octets_of g now ≡ Some (written file at (take done octets)))
      → Stays g old now → (file : List ℕ) → octets_of g now ≡ Some file → at + done ≤ length file
  reached old now at done octets within there image stays file is =
      let was = known_before old now stays file is in
      let piece = take done octets in
      let same : file ≡ written was.0 at piece = cc (is, image was.0 was.1) in
      omega (arith, ap length same, length-written was.0 piece at (there was.0 was.1), length-take done octets, within)
