use Rattle.std.proofs.Common.{◌%◌, ◌^◌, ◌<◌, length, take, subst, sym, ap, ◌∙◌, arith}
use Rattle.big_mod.specs.Numbers.{number_of, octets_of}
use Rattle.rsa_sign.specs.Messages.{encoded}
use Rattle.rsa_sign.specs.Signatures.{signature_of}
use Rattle.rsa_sign.specs.Keys.{KeyPair, octet_count}
use Rattle.rsa_sign.proofs.signers.RsaSignerSigner.sign.Goals as goal

pub signed-signed-requires-clause-below : goal.signed-signed-requires-clause-below
signed-signed-requires-clause-below c =
    subst (λ n. number_of (take c.size-size.result c.message-message.result) < n) (sym c.modulus.ensures)
    (c.message-message.ensures.below c.self.inside.key.modulus c.size-size.ensures.least)

pub signed-signed-requires-clause-room : goal.signed-signed-requires-clause-room
signed-signed-requires-clause-room c = omega (arith, c.modulus.ensures, c.size-size.ensures.room)

pub returns-clause-octets : goal.returns-clause-octets
returns-clause-octets c =
    c.new.ensures ∙ c.signed-signed.ensures ∙
    ap (λ octets. octets_of c.size-size.result (number_of octets ^ number_of (take c.size-size.result c.self.inside.private) % c.modulus.result.now)) c.message-message.ensures.is ∙
    ap (λ n. octets_of c.size-size.result (number_of (encoded c.size-size.result c.args.digest.now) ^ number_of (take c.size-size.result c.self.inside.private) % n))
    c.modulus.ensures ∙
    ap (λ n. octets_of n (number_of (encoded n c.args.digest.now) ^ number_of (take n c.self.inside.private) % c.self.inside.key.modulus)) c.size-size.ensures.is ∙
    ap (λ (pair : KeyPair). signature_of pair c.args.digest.now) c.self.view_is

pub returns-clause-size : goal.returns-clause-size
returns-clause-size c =
    ap length (
    c.new.ensures ∙ c.signed-signed.ensures ∙
    ap (λ octets. octets_of c.size-size.result (number_of octets ^ number_of (take c.size-size.result c.self.inside.private) % c.modulus.result.now)) c.message-message.ensures.is ∙
    ap (λ n. octets_of c.size-size.result (number_of (encoded c.size-size.result c.args.digest.now) ^ number_of (take c.size-size.result c.self.inside.private) % n))
    c.modulus.ensures ∙
    ap (λ n. octets_of n (number_of (encoded n c.args.digest.now) ^ number_of (take n c.self.inside.private) % c.self.inside.key.modulus)) c.size-size.ensures.is ∙
    ap (λ (pair : KeyPair). signature_of pair c.args.digest.now) c.self.view_is) ∙
    c.a_number_has_its_octets.ensures.len (octet_count c.args.self.now.public.bits) _
