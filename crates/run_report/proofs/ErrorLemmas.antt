-- What holds of an error.
use Rattle.std.proofs.Common.{◌≡◌, refl, sym, subst}
use Rattle.std.specs.Prelude.{Result, Ok, Err, IfErr, MatchResult}
use Rattle.std.specs.Result.{IsErrAnd}

-- what holds of an error holds of this one
pub of_error : {E : Type 0} (P : E → Type 0) (result : Result Unit E) (error : E) → result ≡ Err error → IsErrAnd result P → P error
of_error P result error e h = subst (λ r. IsErrAnd r P) e h

pub if_error : {E : Type 0} (P : E → Type 0) (result : Result Unit E) (error : E) → IsErrAnd result (λ e. e ≡ error) → P error → IfErr result P
if_error P (Ok u) error h holds = absurd h
if_error P (Err e) error h holds = subst P (sym h) holds

-- what each error makes of what is known of it
pub at_error : {E : Type 0} (P Q : E → Type 0) (result : Result Unit E) → ((error : E) → result ≡ Err error → P error → Q error) → IfErr result P
    → IfErr result Q
at_error P Q (Ok u) step h = tt
at_error P Q (Err e) step h = step e refl h

-- and so for what is said of both
pub match_error : {E : Type 0} (P : Unit {0} → Type 0) (Q : E → Type 0) (result : Result Unit E) (error : E) → IsErrAnd result (λ e. e ≡ error) → Q error
    → MatchResult result P Q
match_error P Q (Ok u) error h holds = absurd h
match_error P Q (Err e) error h holds = subst Q (sym h) holds
