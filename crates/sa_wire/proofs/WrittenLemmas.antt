-- Policies that are written are read again: their text is written out octet by octet, and each test of it computes but for the two numbers
-- of the signature.
-- `rw` wants the whole test (`takes (any 6) (..) ≡ true`): `leb n 65535` alone leaves `leb 0 n`, which does not compute.
use Rattle.std.proofs.Common.{◌≡◌, ℕ, ◌<◌, true, [], ◌++◌, map, Option, None, Some, Ok, refl, subst, inl, inr, arith}
use Rattle.std.specs.List.{range_with_len}
use Rattle.std.proofs.lemmas.Bool.{le-leb, false≢true}
use Rattle.byteorder.specs.Endian.{big_from, big_bytes}
use Rattle.byteorder.specs.Numbers.{big_number-reads_back}
use Rattle.gd_wire.specs.Readings.{octet_at}
use Rattle.gd_wire.proofs.FieldLemmas.{written_out}
use Rattle.sa_wire.specs.declared.policies.SaPolicy.{SaPolicy}
use Rattle.sa_wire.specs.declared.policies.KekPolicy.{KekPolicy}
use Rattle.sa_wire.specs.declared.policies.TekPolicy.{TekPolicy}
use Rattle.sa_wire.specs.Rules.{any, takes}
use Rattle.gd_wire.specs.Readings.{section, due_long_kind, due_kind, due_long_number, due_number, due_octet, long_number, number, octet}
use Rattle.gd_wire.specs.Readings.{part, end}
use Rattle.gd_wire.specs.Readings as fields
use Rattle.gd_wire.specs.Attributes.{attribute_type, no_more_attributes}
use Rattle.sa_wire.specs.Attributes.{attributes_after, due_attribute, taken_number, taken_octets}
use Rattle.sa_wire.specs.Policies as grammar
use Rattle.sa_wire.specs.Policies.{sa}
use Rattle.sa_wire.specs.Texts.{sa_text, KekPolicyFits, TekPolicyFits, PolicyFits}

-- the text of these policies is read as these
abbrev pub Reads : SaPolicy → Type 0
Reads policy = (base : ℕ) → sa base (sa_text policy) ≡ Ok policy

-- policies of which each may be missing
abbrev policies : Option KekPolicy → Option TekPolicy → SaPolicy
policies kek tek = record { kek = kek; tek = tek }

-- a policy whose SPI has these octets
abbrev kek_of : (ℕ → ℕ) → ℕ → ℕ → KekPolicy
kek_of spi algorithm key_bits = record { spi = map spi (range_with_len 0 16); sign = record { algorithm = algorithm; key_bits = key_bits } }

abbrev tek_of : (ℕ → ℕ) → TekPolicy
tek_of spi = record { spi = map spi (range_with_len 0 4) }

-- ---- a number of 2 octets

-- what is read of it where it was written
abbrev read_back : ℕ → ℕ
read_back number = big_from 0 2 (big_bytes 2 number ++ [])

same_number : (number : ℕ) → number < 65536 → read_back number ≡ number
same_number number small = big_number-reads_back 2 number [] small

-- and it is taken where any number is
any_taken : (kind number : ℕ) → number < 65536 → takes (any kind) (read_back number) ≡ true
any_taken kind number small =
    let same = same_number number small in
    rw (same, le-leb 0 number (omega arith), le-leb number 65535 (omega arith)) refl

-- ---- the three texts, written out

tek_alone : (octets : ℕ → ℕ) → Reads (policies None (Some (tek_of octets)))
unfolding grammar.policies grammar.head grammar.with_tek_alone grammar.with_kek grammar.rest_after_kek grammar.last_tek
    grammar.kek grammar.tek grammar.endpoints grammar.endpoint attributes_after due_attribute taken_number taken_octets
    attribute_type no_more_attributes section due_long_kind due_kind due_long_number due_number due_octet long_number number octet
    fields.octets part end
tek_alone octets base = refl

module _ (spi : ℕ → ℕ) (algorithm key_bits : ℕ) (algorithm_small : algorithm < 65536) (key_bits_small : key_bits < 65536) where
  kek_alone : Reads (policies (Some (kek_of spi algorithm key_bits)) None)
  unfolding grammar.policies grammar.head grammar.with_tek_alone grammar.with_kek grammar.rest_after_kek grammar.last_tek
      grammar.kek grammar.tek grammar.endpoints grammar.endpoint attributes_after due_attribute taken_number taken_octets
      attribute_type no_more_attributes section due_long_kind due_kind due_long_number due_number due_octet long_number number
      octet fields.octets part end
  kek_alone base =
      rw (any_taken 6 algorithm algorithm_small, any_taken 7 key_bits key_bits_small)
      (λ i. Ok (policies (Some (kek_of spi (same_number algorithm algorithm_small i) (same_number key_bits key_bits_small i))) None))

  kek_and_tek : (octets : ℕ → ℕ) → Reads (policies (Some (kek_of spi algorithm key_bits)) (Some (tek_of octets)))
  unfolding grammar.policies grammar.head grammar.with_tek_alone grammar.with_kek grammar.rest_after_kek grammar.last_tek
      grammar.kek grammar.tek grammar.endpoints grammar.endpoint attributes_after due_attribute taken_number taken_octets
      attribute_type no_more_attributes section due_long_kind due_kind due_long_number due_number due_octet long_number number
      octet fields.octets part end
  kek_and_tek octets base =
      rw (any_taken 6 algorithm algorithm_small, any_taken 7 key_bits key_bits_small)
      (λ i. Ok (policies
      (Some (kek_of spi (same_number algorithm algorithm_small i) (same_number key_bits key_bits_small i)))
      (Some (tek_of octets))))

-- ---- each policy that fits is one that is written out

kek_out : (kek : KekPolicy) → KekPolicyFits kek → kek_of (octet_at kek.spi) kek.sign.algorithm kek.sign.key_bits ≡ kek
kek_out kek fits = λ i. record { spi = written_out 16 kek.spi fits.spi i; sign = kek.sign }

tek_out : (tek : TekPolicy) → TekPolicyFits tek → tek_of (octet_at tek.spi) ≡ tek
tek_out tek fits = λ i. record { spi = written_out 4 tek.spi fits.spi i }

each_reads : (kek : Option KekPolicy) (tek : Option TekPolicy) → PolicyFits (policies kek tek) → Reads (policies kek tek)
each_reads None None fits = absurd (elim fits.some [ inl some ↦ false≢true some | inr some ↦ false≢true some ])
each_reads None (Some tek) fits =
    subst Reads (λ i. policies None (Some (tek_out tek fits.tek i))) (tek_alone (octet_at tek.spi))
each_reads (Some kek) None fits =
    subst Reads (λ i. policies (Some (kek_out kek fits.kek i)) None)
    (kek_alone (octet_at kek.spi) kek.sign.algorithm kek.sign.key_bits fits.kek.algorithm fits.kek.key_bits)
each_reads (Some kek) (Some tek) fits =
    subst Reads (λ i. policies (Some (kek_out kek fits.kek i)) (Some (tek_out tek fits.tek i)))
    (kek_and_tek (octet_at kek.spi) kek.sign.algorithm kek.sign.key_bits fits.kek.algorithm fits.kek.key_bits (octet_at tek.spi))

pub policy_reads : (policy : SaPolicy) → PolicyFits policy → Reads policy
policy_reads policy fits = each_reads policy.kek policy.tek fits
