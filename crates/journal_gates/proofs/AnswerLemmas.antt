-- What holds in any case holds of an answer.
use Rattle.std.proofs.Common.{◌≡◌, ℕ, List, Option, Some, Result, Ok, Err, refl, subst}
use Rattle.std.specs.Prelude.{IsErr, OnErr, OnOk}
use Rattle.gd_disk.specs.Disks.{Knows}

pub on_err : {T E : Type 0} {P : Type 0} (result : Result T E) → P → OnErr result P
on_err (Ok value) holds = tt
on_err (Err error) holds = holds

pub on_ok : {T E : Type 0} {P : Type 0} (result : Result T E) → P → OnOk result P
on_ok (Ok value) holds = holds
on_ok (Err error) holds = tt

-- what holds on an error holds of one, and what holds on Ok of any other answer
pub at_err : {T E : Type 0} {P : Type 0} (result : Result T E) → OnErr result P → IsErr result → P
at_err (Ok value) holds is = absurd (cc is)
at_err (Err error) holds is = holds

pub at_ok : {T E : Type 0} {P : Type 0} (result : Result T E) → OnOk result P → (IsErr result → ⊥) → P
at_ok (Ok value) holds not = holds
at_ok (Err error) holds not = absurd (not refl)

-- what is shown is known
pub known_some : (P : List ℕ → Type 0) (shows : Option (List ℕ)) (octets : List ℕ) → shows ≡ Some octets → P octets → Knows shows P
known_some P shows octets is holds file also =
    let same : octets ≡ file = cc (is, also) in
    subst P same holds
