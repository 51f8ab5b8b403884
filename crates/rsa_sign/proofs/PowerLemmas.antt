-- Powers of powers.
use Rattle.std.proofs.Common.{◌≡◌, ℕ, zero, suc, ◌+◌, ◌*◌, ◌^◌, sym, ap, ◌∙◌, arith}
use Rattle.std.proofs.Math.Nat.{pow-zero, pow-suc}
use Rattle.std.proofs.lemmas.Nat.{pow-add}

pub pow_pow : (n exponent count : ℕ) → (n ^ exponent) ^ count ≡ n ^ (exponent * count)
pow_pow n exponent zero = pow-zero (n ^ exponent) ∙ sym (pow-zero n) ∙ ap (λ m. n ^ m) (omega arith)
pow_pow n exponent (suc count) =
    pow-suc (n ^ exponent) count ∙ ap (λ m. m * n ^ exponent) (pow_pow n exponent count) ∙ sym (pow-add n (exponent * count) exponent) ∙
    ap (λ m. n ^ m) (let whole : exponent * count + exponent ≡ exponent * suc count = omega arith in whole)
