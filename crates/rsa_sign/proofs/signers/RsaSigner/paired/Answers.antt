use Rattle.std.proofs.Common.{◌≡◌, ℕ, take, sym, ap, ◌∙◌, arith}
use Rattle.std.proofs.lemmas.Bool.{ltb-true, ltb-false}
use Rattle.big_mod.specs.Numbers.{number_of}
use Rattle.rsa_sign.specs.Keys.{KeyPair, octet_count}
use Rattle.rsa_sign.proofs.signers.RsaSigner.paired.Goals as goal

pub returns-then-octets-size : goal.returns-then-octets-size
returns-then-octets-size c =
    omega (arith, c.without_zeros-octets.ensures.large c.size-size.result (omega arith), c.without_zeros-octets.ensures.number, c.size-size.ensures.room)

pub widened-private-requires-clause-room : goal.widened-private-requires-clause-room
widened-private-requires-clause-room c =
    omega (arith, ltb-true _ _ (sym c.is_above.ensures ∙ c.if-is_above.true), c.modulus.ensures, c.size-size.ensures.room)

pub returns-then-is_above : goal.returns-then-is_above
returns-then-is_above c =
    let number : number_of (take (octet_count c.args.key.bits) c.widened-private.result) ≡ number_of c.args.private.now =
    ap (λ n. number_of (take n c.widened-private.result)) (sym c.size-size.ensures.is) ∙ c.widened-private.ensures ∙ c.without_zeros-octets.ensures.number in
    let pair : ℕ → KeyPair = λ n. record { public = c.args.key; private = n } in
    ap pair number

pub returns : goal.returns
returns c =
    omega (arith, ltb-false _ _ (sym c.is_above.ensures ∙ c.if-is_above.false), c.modulus.ensures, c.without_zeros-octets.ensures.number)
