use Rattle.std.proofs.Common.{◌%◌, ◌^◌, ◌<◌, length, subst, sym, ap, ◌∙◌, arith}
use Rattle.std.specs.Prelude.{◌==◌, ◌&&◌, nat_lt}
use Rattle.std.specs.Str.{bytes_eq}
use Rattle.big_mod.specs.Numbers.{number_of, octets_of}
use Rattle.rsa_sign.specs.Messages.{encoded}
use Rattle.rsa_sign.specs.Signatures.{accepts}
use Rattle.rsa_sign.specs.Keys.{PublicKey}
use Rattle.rsa_sign.proofs.verifiers.RsaVerifierVerifier.check.Goals as goal

pub is_signature-requires-clause-some : goal.is_signature-requires-clause-some
is_signature-requires-clause-some c = c.self.invariant.0.some

pub is_signature-requires-clause-long : goal.is_signature-requires-clause-long
is_signature-requires-clause-long c = omega (arith, c.self.invariant.1, c.self.invariant.0.fewest)

pub is_signature-requires-clause-few : goal.is_signature-requires-clause-few
is_signature-requires-clause-few c = omega (arith, c.self.invariant.1, c.self.invariant.0.most)

pub is_signature-requires-clause-room : goal.is_signature-requires-clause-room
is_signature-requires-clause-room c =
    let room : c.self.inside.modulus < 256 ^ c.self.inside.size =
    subst (λ n. c.self.inside.modulus < 256 ^ n) (sym c.self.invariant.1) c.self.invariant.0.room in
    omega (arith, room)

pub returns : goal.returns
returns c =
    c.is_signature.ensures ∙
    ap (λ n. (length c.args.signature.now == n) && nat_lt (number_of c.args.signature.now) c.self.inside.modulus &&
    bytes_eq (octets_of n (number_of c.args.signature.now ^ c.self.inside.exponent % c.self.inside.modulus)) (encoded n c.args.digest.now)) c.self.invariant.1 ∙
    ap (λ (key : PublicKey). accepts key c.args.digest.now c.args.signature.now) c.self.view_is
