use Rattle.std.proofs.Common.{◌≡◌, length, sym, ap, ◌∙◌, arith}
use Rattle.std.specs.Prelude.{◌==◌, ◌&&◌, nat_lt}
use Rattle.std.proofs.lemmas.Bool.{ltb-true, ltb-false}
use Rattle.big_mod.specs.Numbers.{number_of}
use Rattle.rsa_sign.proofs.KeyLemmas.{not_long, not_below, both_tests}
use Rattle.rsa_sign.proofs.verifiers.is_signature.Goals as goal

pub returns-then-signature-size : goal.returns-then-signature-size
returns-then-signature-size c = not_long _ _ _ _ c.if-signature-size.true

pub returns-then-is_above : goal.returns-then-is_above
returns-then-is_above c =
    let long : length c.args.signature.now ≡ c.args.size = omega arith in
    both_tests (length c.args.signature.now) c.args.size (number_of c.args.signature.now) c.args.modulus.now c.is_power.result long
    (ltb-true _ _ (sym c.is_above.ensures ∙ c.if-is_above.true)) ∙
    ap (λ test. (length c.args.signature.now == c.args.size) && nat_lt (number_of c.args.signature.now) c.args.modulus.now && test) c.is_power.ensures

pub returns : goal.returns
returns c =
    let long : length c.args.signature.now ≡ c.args.size = omega arith in
    not_below (length c.args.signature.now) c.args.size (number_of c.args.signature.now) c.args.modulus.now _ long
    (ltb-false _ _ (sym c.is_above.ensures ∙ c.if-is_above.false))
