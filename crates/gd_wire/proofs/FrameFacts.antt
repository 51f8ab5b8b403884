-- What the readings of frames give where a wrong test would give something else: a length without its header, a reserved octet that is none, octets after the last
-- payload that are no zeros, and the message id of the other exchange.
use Rattle.std.proofs.Common.{◌≡◌, ℕ, ◌+◌, [], ◌∷◌, Ok, Err, refl}
use Rattle.group_terms.specs.declared.wires.WireWhat.TheVariants.{Length, Padding, Reserved, Value}
use Rattle.gd_wire.specs.declared.chains.Named.{Named}
use Rattle.gd_wire.specs.Chains.{chain_end, payload}
use Rattle.gd_wire.specs.Faults.{fault_at}
use Rattle.gd_wire.specs.Headers.{message_id}
use Rattle.gd_wire.specs.Readings.{due_kind, due_octet, from_start, number, octet, part, section, value_of}
use Rattle.gd_wire.specs.Readings as fields

-- a payload of kind 5 was named, or none
nonce : Named
nonce = record { kind = 5; at = 16 }

none : Named
none = record { kind = 0; at = 28 }

payload_of_3_octets : (base : ℕ) → value_of (payload 5 nonce (from_start base (0 ∷ 0 ∷ 0 ∷ 3 ∷ []))) ≡ Err (fault_at Length (base + 2))
unfolding nonce payload fields.octets octet due_octet number part
payload_of_3_octets base = refl

payload_of_4_octets : (base : ℕ)
    → value_of (payload 5 nonce (from_start base (9 ∷ 0 ∷ 0 ∷ 4 ∷ []))) ≡ Ok (record { kind = 5; at = base + 0; start = 4; length = 0 }, record { kind = 9; at = base + 0 })
unfolding nonce payload fields.octets octet due_octet number part
payload_of_4_octets base = refl

reserved_octet_of_a_payload : (base : ℕ) → value_of (payload 5 nonce (from_start base (0 ∷ 1 ∷ 0 ∷ 4 ∷ []))) ≡ Err (fault_at Reserved (base + 1))
unfolding nonce payload fields.octets octet due_octet number part
reserved_octet_of_a_payload base = refl

reserved_octet_of_a_section : (base : ℕ) → value_of (section (1 ∷ []) (from_start base (1 ∷ 1 ∷ 0 ∷ 4 ∷ []))) ≡ Err (fault_at Reserved (base + 1))
unfolding section due_kind fields.octets octet due_octet number part
reserved_octet_of_a_section base = refl

padding_of_a_two : (base : ℕ) → value_of (chain_end none (from_start base (0 ∷ 2 ∷ []))) ≡ Err (fault_at Padding (base + 0 + 1))
unfolding none chain_end
padding_of_a_two base = refl

pull_without_a_message_id : (base : ℕ) → value_of (message_id 32 (from_start base (0 ∷ 0 ∷ 0 ∷ 0 ∷ []))) ≡ Err (fault_at Value (base + 0))
unfolding message_id fields.octets part
pull_without_a_message_id base = refl

push_with_a_message_id : (base : ℕ) → value_of (message_id 33 (from_start base (0 ∷ 0 ∷ 0 ∷ 1 ∷ []))) ≡ Err (fault_at Value (base + 0))
unfolding message_id fields.octets part
push_with_a_message_id base = refl

pull_with_a_message_id : (base : ℕ) → value_of (message_id 32 (from_start base (0 ∷ 0 ∷ 0 ∷ 1 ∷ []))) ≡ Ok (0 ∷ 0 ∷ 0 ∷ 1 ∷ [])
unfolding message_id fields.octets part
pull_with_a_message_id base = refl
