-- What holds of all that a reading gives.
use Rattle.std.proofs.Common.{◌≡◌, ℕ, Bool, true, false, Result, Ok, Err, if◌then◌else◌, refl, ap, subst}
use Rattle.group_terms.specs.declared.wires.WireFault.{WireFault}
use Rattle.group_terms.specs.declared.wires.WireWhat.{WireWhat}
use Rattle.gd_wire.specs.Readings.{Cursor, Reading, back_to, ◌>>=◌, ◌>>◌, give, check, inside}
use Rattle.gd_wire.proofs.ReadingLemmas.{same_value, and_then_ok}

pub record Always {A : Type 0} (P : A → Type 0) (reading : Reading A) : Type 0 where
  pub holds : (cursor after : Cursor) (x : A) → reading cursor ≡ Ok (x, after) → P x

module _ {A : Type 0} (P : A → Type 0) where
  pub always_give : (x : A) → P x → Always P (give x)
  always_give x here = record {
    holds = λ cursor after given is. subst P (ap (λ read. read.0) (same_value (x, cursor) (given, after) is))
        here;
  }

  pub always_if : (choice : Bool) (one other : Reading A) → (choice ≡ true → Always P one) → (choice ≡ false → Always P other)
      → Always P (if choice then one else other)
  always_if true one other first second = first refl
  always_if false one other first second = second refl

  -- a test that fails gives nothing
  pub always_check : (test : Bool) (what : WireWhat) (at : ℕ) (next : Reading A) → (test ≡ true → Always P next)
      → Always P (check test what at >> next)
  always_check true what at next later = record { holds = (later refl).holds }
  always_check false what at next later = record { holds = λ cursor after x is. absurd (cc) }

  back_gives : (cursor after : Cursor) (x : A) (read : Result (A × Cursor) WireFault) → back_to cursor read ≡ Ok (x, after)
      → ((end : Cursor) (x : A) → read ≡ Ok (x, end) → P x) → P x
  back_gives cursor after x (Ok read) is all = subst P (ap (λ read. read.0) (same_value (read.0, cursor) (x, after) is))
      (all read.1 read.0 refl)
  back_gives cursor after x (Err fault) is all = absurd (cc)

  pub always_inside : (text : Cursor) (reading : Reading A) → Always P reading → Always P (inside text reading)
  always_inside text reading all = record { holds = λ cursor after x is. back_gives cursor after x (reading text) is (all.holds text) }

  -- and what follows from it
  pub always_so : (Q : A → Type 0) (reading : Reading A) → Always Q reading → ((x : A) → Q x → P x) → Always P reading
  always_so Q reading all so = record { holds = λ cursor after x is. so x (all.holds cursor after x is) }

module _ {A B : Type 0} (P : B → Type 0) where
  -- of what comes after a first reading, of all that this gives something may hold
  pub always_from : (Q : A → Type 0) (first : Reading A) (next : A → Reading B) → Always Q first → ((x : A) → Q x → Always P (next x))
      → Always P (first >>= next)
  always_from Q first next known later = record {
    holds = λ cursor after given is.
        let read = and_then_ok (first cursor) next given after is in
        (later read.0 (known.holds cursor read.1 read.0 read.2)).holds read.1 after given read.3;
  }

  pub always_then : (first : Reading A) (next : A → Reading B) → ((x : A) → Always P (next x)) → Always P (first >>= next)
  always_then first next later = record {
    holds = λ cursor after given is.
        let read = and_then_ok (first cursor) next given after is in
        (later read.0).holds read.1 after given read.3;
  }

  pub always_next : (first : Reading A) (next : Reading B) → Always P next → Always P (first >> next)
  always_next first next later = always_then first (λ done. next) (λ done. later)
