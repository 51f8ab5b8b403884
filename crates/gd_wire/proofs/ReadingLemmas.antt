-- What is known of a reading that gave a value: each of its lines did.
use Rattle.std.proofs.Common.{◌≡◌, ℕ, suc, ◌+◌, ◌-◌, ◌<◌, Bool, true, false, List, [], ◌∷◌, ◌++◌, Result, Ok, Err, if◌then◌else◌, refl, sym, ap, arith}
use Rattle.group_terms.specs.declared.wires.WireFault.{WireFault}
use Rattle.group_terms.specs.declared.wires.WireWhat.{WireWhat}
use Rattle.gd_wire.specs.Readings.{Cursor, Reading, and_then, value_of, mapped, give, check, Gives}

pub nested : {A B C : Type 0} (read : Result (A × Cursor) WireFault) (next : A → Reading B) (last : B → Reading C)
    → and_then (and_then read next) last ≡ and_then read (λ value now. and_then (next value now) last)
nested (Ok first) next last = refl
nested (Err fault) next last = refl

-- what was checked holds
pub check_ok : {B : Type 0} (holds : Bool) (what : WireWhat) (at : ℕ) (cursor : Cursor) (next : Unit {0} → Reading B) (all : B × Cursor)
    → and_then (check holds what at cursor) next ≡ Ok all → (holds ≡ true) × (next tt cursor ≡ Ok all)
check_ok true what at cursor next all e = (refl, e)
check_ok false what at cursor next all e = absurd (cc)

-- and a value that was given after a check goes on
pub checked_ok : {A B : Type 0} (holds : Bool) (what : WireWhat) (at : ℕ) (value : A) (cursor : Cursor) (next : A → Reading B)
    (all : B × Cursor) → and_then (and_then (check holds what at cursor) (λ done. give value)) next ≡ Ok all
    → (holds ≡ true) × (next value cursor ≡ Ok all)
checked_ok true what at value cursor next all e = (refl, e)
checked_ok false what at value cursor next all e = absurd (cc)

-- and what had to be there is
pub there_ok : {A B : Type 0} (there : Bool) (first : A × Cursor) (fault : WireFault) (next : A → Reading B) (all : B × Cursor)
    → and_then (if there then Ok first else Err fault) next ≡ Ok all → (there ≡ true) × (next first.0 first.1 ≡ Ok all)
there_ok true first fault next all e = (refl, e)
there_ok false first fault next all e = absurd (cc)

abbrev value : {A : Type 0} → A → Result A WireFault → A
value other (Ok read) = read
value other (Err fault) = other

pub same_value : {A : Type 0} (read other : A) → (let one : Result A WireFault = Ok read in one ≡ Ok other) → read ≡ other
same_value read other e = λ i. value read (e i)

-- what a call answered is the value, where it gave what a reading gives
pub gives_value : {A : Type 0} (result : Result A WireFault) (now : Cursor) (reading : Result (A × Cursor) WireFault)
    → Gives result now reading → result ≡ value_of reading
gives_value (Ok value) now reading e = ap value_of (sym e)
gives_value (Err fault) now reading e = ap value_of (sym e)

-- what two readings one after the other gave: what the first gave, and what the second gave after that
pub and_then_ok : {A B : Type 0} (read : Result (A × Cursor) WireFault) (next : A → Reading B) (given : B) (after : Cursor)
    → and_then read next ≡ Ok (given, after) → (x : A) × (mid : Cursor) × (read ≡ Ok (x, mid)) × (next x mid ≡ Ok (given, after))
and_then_ok (Ok read) next given after is = (read.0, read.1, refl, is)
and_then_ok (Err fault) next given after is = absurd (cc)

pub mapped_ok : {A B : Type 0} (f : A → B) (read : Result (A × Cursor) WireFault) (made : B) (after : Cursor) → mapped f read
    ≡ Ok (made, after)
    → (x : A) × (read ≡ Ok (x, after)) × (f x ≡ made)
mapped_ok f (Ok read) made after is =
    let same = same_value (f read.0, read.1) (made, after) is in
    (read.0, (λ i. Ok (read.0, (same i).1)), λ i. (same i).0)
mapped_ok f (Err fault) made after is = absurd (cc)

pub value_ok : {A : Type 0} (read : Result (A × Cursor) WireFault) (given : A) → value_of read ≡ Ok given → (after : Cursor)
    × (read ≡ Ok (given, after))
value_ok (Ok read) given is = (read.1, λ i. Ok (same_value read.0 given is i, read.1))
value_ok (Err fault) given is = absurd (cc)

-- ---- lists that are read item by item

-- of n items, one more has been read
pub one_less : (n k : ℕ) → k < n → n - k ≡ suc (n - (k + 1))
one_less n k below = omega arith

pub mapped_step : {A B : Type 0} (f g : List A → B) (x : A) → ((xs : List A) → f (x ∷ xs) ≡ g xs)
    → (rest : Result (List A × Cursor) WireFault)
    → mapped g rest ≡ mapped f (and_then rest (λ (xs : List A). give (x ∷ xs)))
mapped_step f g x same (Ok read) = ap (λ made. Ok (made, read.1)) (sym (same read.0))
mapped_step f g x same (Err fault) = refl

pub mapped_all : {A : Type 0} (rest : Result (List A × Cursor) WireFault) → mapped (λ xs. [] ++ xs) rest ≡ rest
mapped_all (Ok read) = refl
mapped_all (Err fault) = refl
