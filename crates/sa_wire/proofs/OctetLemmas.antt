-- The text of policies is octets, where their SPIs are.
-- `IsText` is a record, not an abbrev, so that the search for arguments finds both texts of an append.
use Rattle.std.proofs.Common.{ℕ, ◌<◌, List, [], ◌∷◌, ◌++◌, length, Option, None, Some, arith}
use Rattle.std.proofs.lemmas.List.Elements.{All-nil, All-cons, All-append}
use Rattle.byteorder.specs.Endian.{big_bytes}
use Rattle.group_terms.specs.Octets.{IsOctet, AreOctets}
use Rattle.group_terms.specs.declared.signatures.SignKind.{SignKind}
use Rattle.gd_wire.specs.Attributes.{short_text, long_text}
use Rattle.gd_wire.specs.Chains.{payload_text}
use Rattle.sa_wire.specs.declared.policies.SaPolicy.{SaPolicy}
use Rattle.sa_wire.specs.declared.policies.KekPolicy.{KekPolicy}
use Rattle.sa_wire.specs.declared.policies.TekPolicy.{TekPolicy}
use Rattle.sa_wire.specs.Texts.{sa_text, head_text, address_text, ids_text, kek_text, tek_text, cipher_attributes, signature_attributes}
use Rattle.sa_wire.specs.Texts.{mode_attributes, transform_attributes, KekPolicyFits, TekPolicyFits, PolicyFits}

-- a text of octets
pub record IsText (text : List ℕ) : Type 0 where
  pub octets : AreOctets text

-- one more octet in front, and one text after the other
front : (octet : ℕ) {text : List ℕ} → octet < 256 → IsText text → IsText (octet ∷ text)
front octet {text} small rest = record { octets = All-cons IsOctet octet text small rest.octets }

then : {text more : List ℕ} → IsText text → IsText more → IsText (text ++ more)
then {text} {more} first second = record { octets = All-append IsOctet text more first.octets second.octets }

none : IsText []
none = record { octets = All-nil IsOctet }

module _
    (numbers : (size number : ℕ) → AreOctets (big_bytes size number))
    (shorts : (kind number : ℕ) → AreOctets (short_text kind number))
    (longs : (kind : ℕ) (value : List ℕ) → AreOctets value → AreOctets (long_text kind value))
    (payloads : (next : ℕ) (body : List ℕ) → IsOctet next → AreOctets body → AreOctets (payload_text next body))
  where
    number : (size value : ℕ) → IsText (big_bytes size value)
    number size value = record { octets = numbers size value }

    short : (kind value : ℕ) → IsText (short_text kind value)
    short kind value = record { octets = shorts kind value }

    payload : (next : ℕ) {body : List ℕ} → next < 256 → IsText body → IsText (payload_text next body)
    payload next {body} small text = record { octets = payloads next body small text.octets }

    address_octets : (port a b c d : ℕ) → a < 256 → b < 256 → c < 256 → d < 256 → IsText (address_text port (a ∷ b ∷ c ∷ d ∷ []))
    address_octets port a b c d p q r s =
        then (front 1 (omega arith) (number 2 port)) (front 4 (omega arith) (front a p (front b q (front c r (front d s none)))))

    ids_octets : (port : ℕ) → IsText (ids_text port)
    ids_octets port =
        then (address_octets port 192 0 2 1 (omega arith) (omega arith) (omega arith) (omega arith))
        (address_octets port 233 252 0 1 (omega arith) (omega arith) (omega arith) (omega arith))

    duration_octets : (kind value : ℕ) → IsText (long_text kind (big_bytes 4 value))
    duration_octets kind value = record { octets = longs kind (big_bytes 4 value) (numbers 4 value) }

    kek_octets : (kek : KekPolicy) → KekPolicyFits kek → IsText (kek_text kek)
    kek_octets kek fits =
        let cipher : IsText cipher_attributes = then (then (then (short 1 1) (short 2 3)) (short 3 128)) (duration_octets 4 86400) in
        let first : IsText (short_text 5 3 ++ short_text 6 kek.sign.algorithm) = then (short 5 3) (short 6 kek.sign.algorithm) in
        let signature : IsText (signature_attributes kek.sign) = then first (short 7 kek.sign.key_bits) in
        then (then (then (then (front 17 (omega arith) (ids_octets 848)) (record { octets = fits.octets })) (number 4 0)) cipher) signature

    tek_octets : (tek : TekPolicy) → TekPolicyFits tek → IsText (tek_text tek)
    tek_octets tek fits =
        let mode : IsText mode_attributes = then (then (short 1 1) (duration_octets 2 3600)) (short 4 1) in
        let transform : IsText transform_attributes = then (short 5 5) (short 6 128) in
        let spi : IsText tek.spi = record { octets = fits.octets } in
        then (then (then (front 1 (omega arith) (front 17 (omega arith) (ids_octets 0))) (front 12 (omega arith) spi)) mode) transform

    head_octets : (first : ℕ) → IsText (head_text first)
    head_octets first = then (then (then (number 4 2) (number 4 0)) (number 2 first)) (number 2 0)

    abbrev policies : Option KekPolicy → Option TekPolicy → SaPolicy
    policies kek tek = record { kek = kek; tek = tek }

    each_octets : (kek : Option KekPolicy) (tek : Option TekPolicy) → PolicyFits (policies kek tek) → IsText (sa_text (policies kek tek))
    each_octets None None fits = then (head_octets 0) none
    each_octets None (Some tek) fits = then (head_octets 16) (then (payload 0 (omega arith) (tek_octets tek fits.tek)) none)
    each_octets (Some kek) None fits = then (head_octets 15) (then (payload 0 (omega arith) (kek_octets kek fits.kek)) none)
    each_octets (Some kek) (Some tek) fits =
        then (head_octets 15)
        (then (payload 16 (omega arith) (kek_octets kek fits.kek)) (then (payload 0 (omega arith) (tek_octets tek fits.tek)) none))

    pub sa_octets : (policy : SaPolicy) → PolicyFits policy → AreOctets (sa_text policy)
    sa_octets policy fits = (each_octets policy.kek policy.tek fits).octets
