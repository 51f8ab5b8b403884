use Rattle.std.proofs.Common.{◌≡◌, ◌-◌, ◌%◌, length, refl, subst, arith}
use Rattle.std.proofs.Math.Nat.{pow-le-pow_right}
use Rattle.rsa_sign.proofs.KeyLemmas.{public_key, even_from}
use Rattle.rsa_sign.proofs.verifiers.RsaVerifier.new.Goals as goal

pub returns-then-octets-gt512-clause-err : goal.returns-then-octets-gt512-clause-err
returns-then-octets-gt512-clause-err c =
    omega (arith, c.without_zeros-octets.ensures.large 512 (omega arith), c.without_zeros-octets.ensures.number)

pub returns-then-bits-lt2048-clause-err : goal.returns-then-bits-lt2048-clause-err
returns-then-bits-lt2048-clause-err c =
    omega (
      arith,
      c.bit_count-bits.ensures.small,
      c.without_zeros-octets.ensures.number,
      pow-le-pow_right {n = 2} (omega arith) {i = c.bit_count-bits.result} {j = 2047} (omega arith),
    )

pub overflow_cast-result : goal.overflow_cast-result
overflow_cast-result c = omega (arith, c.bit_count-bits.ensures.octets)

pub overflow_add-result : goal.overflow_add-result
overflow_add-result c = omega (arith, c.bit_count-bits.ensures.octets)

pub invariant_of-result : goal.invariant_of-result
invariant_of-result c = (
  public_key _ _ c.bit_count-bits.result (length c.without_zeros-octets.result.now) _ (omega arith) (omega arith) c.bit_count-bits.ensures.octets
      c.in-Some-new.ensures.some c.bit_count-bits.ensures.small (c.bit_count-bits.ensures.large (omega arith))
      (c.without_zeros-octets.ensures.large (length c.without_zeros-octets.result.now - 1) (omega (arith, c.bit_count-bits.ensures.octets)))
      c.bit_count-bits.ensures.room c.in-Some.ensures.1,
  refl,
)

pub returns-in-None-clause-err : goal.returns-in-None-clause-err
returns-in-None-clause-err c =
    subst (λ n. n % 2 ≡ 0) c.without_zeros-octets.ensures.number
    (even_from _ c.bit_count-bits.result c.in-None.ensures.variant.1 (omega arith) (c.bit_count-bits.ensures.large (omega arith)))
