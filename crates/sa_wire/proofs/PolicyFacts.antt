-- What the definitions of policies give where a wrong length or test would give something else: a length without the payload's header, a reserved field that is not zero,
-- and an attribute that no rule is for.
use Rattle.std.proofs.Common.{◌≡◌, ℕ, ◌+◌, [], ◌∷◌, map, take, Ok, Err, refl}
use Rattle.std.specs.List.{range_with_len}
use Rattle.group_terms.specs.declared.wires.WireWhat.TheVariants.{Kind, Reserved}
use Rattle.gd_wire.specs.Attributes.{attribute_type}
use Rattle.gd_wire.specs.Chains.{payload_text}
use Rattle.gd_wire.specs.Faults.{fault_at}
use Rattle.gd_wire.specs.Readings.{due_long_kind, due_long_number, due_number, from_start, long_number, number, part, value_of}
use Rattle.gd_wire.specs.Readings as fields
use Rattle.sa_wire.specs.Attributes.{due_attribute, taken_number, taken_octets}
use Rattle.sa_wire.specs.Policies.{head}
use Rattle.sa_wire.specs.Rules.{kek_rules, without}
use Rattle.sa_wire.specs.Texts.{kek_text, tek_text}

-- the lengths of the payloads for the KEK and for the TEK count their headers
length_of_the_kek : (spi : ℕ → ℕ) (algorithm key_bits : ℕ)
    → take 4 (payload_text 16 (kek_text (record { spi = map spi (range_with_len 0 16); sign = record { algorithm = algorithm; key_bits = key_bits } })))
    ≡ 16 ∷ 0 ∷ 0 ∷ 73 ∷ []
length_of_the_kek spi algorithm key_bits = refl

length_of_the_tek : (spi : ℕ → ℕ) → take 4 (payload_text 0 (tek_text (record { spi = map spi (range_with_len 0 4) }))) ≡ 0 ∷ 0 ∷ 0 ∷ 51 ∷ []
length_of_the_tek spi = refl

reserved_field_of_the_head : (base : ℕ)
    → value_of (head (from_start base (0 ∷ 0 ∷ 0 ∷ 2 ∷ 0 ∷ 0 ∷ 0 ∷ 0 ∷ 0 ∷ 15 ∷ 0 ∷ 1 ∷ []))) ≡ Err (fault_at Reserved (base + 10))
unfolding head due_long_number due_long_kind due_number long_number number fields.octets part
reserved_field_of_the_head base = refl

head_for_a_kek : (base : ℕ) → value_of (head (from_start base (0 ∷ 0 ∷ 0 ∷ 2 ∷ 0 ∷ 0 ∷ 0 ∷ 0 ∷ 0 ∷ 15 ∷ 0 ∷ 0 ∷ []))) ≡ Ok 15
unfolding head due_long_number due_long_kind due_number long_number number fields.octets part
head_for_a_kek base = refl

-- the algorithm of the KEK, which is attribute 2, is awaited once; attribute 8 is not awaited, and is not passed over
attribute_of_a_kek : (base : ℕ) → value_of (due_attribute kek_rules (from_start base (128 ∷ 2 ∷ 0 ∷ 3 ∷ []))) ≡ Ok (record { kind = 2; number = 3; at = base + 2 })
unfolding due_attribute attribute_type taken_number taken_octets number fields.octets part
attribute_of_a_kek base = refl

attribute_of_a_kek_again : (base : ℕ)
    → value_of (due_attribute (without 2 kek_rules) (from_start base (128 ∷ 2 ∷ 0 ∷ 3 ∷ []))) ≡ Err (fault_at (Kind 2) (base + 0))
unfolding due_attribute attribute_type taken_number taken_octets number fields.octets part
attribute_of_a_kek_again base = refl

attribute_without_a_rule : (base : ℕ) → value_of (due_attribute kek_rules (from_start base (128 ∷ 8 ∷ 0 ∷ 0 ∷ []))) ≡ Err (fault_at (Kind 8) (base + 0))
unfolding due_attribute attribute_type taken_number taken_octets number fields.octets part
attribute_without_a_rule base = refl
