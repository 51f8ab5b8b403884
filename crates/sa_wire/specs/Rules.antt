-- The attributes of a policy: which ones there are, and what is taken of each.
use Rattle.std.specs.Prelude.{ℕ, ◌==◌, ◌&&◌, nat_le, nat_lt, Bool, true, false, List, [], ◌∷◌, length, slice_index_or, remove}
use Rattle.std.specs.List.{position_or_len}
use Rattle.sa_wire.specs.declared.rules.Rule.{Rule}
use Rattle.sa_wire.specs.Numbers.{management_algorithm, kek_algorithm, kek_key_length, kek_lifetime, signature_hash, signature_algorithm}
use Rattle.sa_wire.specs.Numbers.{signature_key_length}
use Rattle.sa_wire.specs.Numbers.{lkh, aes, sha_256, life_type, life_duration, encapsulation_mode, authentication_algorithm, tek_key_length}
use Rattle.sa_wire.specs.Numbers.{seconds, tunnel, transport, hmac_sha_256, key_bits}

-- A rule has a kind, the least and the most of the numbers that are taken in the short form, and says whether a long form of 4 octets is
-- taken too, with any value.

-- of this kind just this number is taken
abbrev pub only : ℕ → ℕ → Rule
only kind number = record { kind = kind; least = number; most = number; long = false }

-- of this kind the numbers from the least to the most
abbrev pub between : ℕ → ℕ → ℕ → Rule
between kind least most = record { kind = kind; least = least; most = most; long = false }

-- of this kind any number
abbrev pub any : ℕ → Rule
any kind = record { kind = kind; least = 0; most = 65535; long = false }

-- of this kind any number, in the short form or in the long one
abbrev pub any_form : ℕ → Rule
any_form kind = record { kind = kind; least = 0; most = 65535; long = true }

-- Of the KEK (RFC 6407 section 5.3), by our choice of values: the management algorithm is LKH, the algorithm AES, and its key length 128
-- bits; any lifetime in either form; the signature's hash is SHA-256; any algorithm of the signature, and any length of its key.
abbrev pub kek_rules : List Rule
kek_rules =
    only management_algorithm lkh
    ∷ only kek_algorithm aes
    ∷ only kek_key_length key_bits
    ∷ any_form kek_lifetime
    ∷ only signature_hash sha_256
    ∷ any signature_algorithm
    ∷ any signature_key_length
    ∷ []

-- Of the TEK (RFC 6407 section 5.5, RFC 2407 section 4.5), by our choice too: the life type is seconds; any life duration in either form;
-- the encapsulation mode is tunnel or transport, the authentication algorithm HMAC with SHA-256, and the key length 128 bits.
abbrev pub tek_rules : List Rule
tek_rules =
    only life_type seconds
    ∷ any_form life_duration
    ∷ between encapsulation_mode tunnel transport
    ∷ only authentication_algorithm hmac_sha_256
    ∷ only tek_key_length key_bits
    ∷ []

-- the place of the rule for this kind among some rules, and how many these are where there is none
abbrev pub place_among : ℕ → List Rule → ℕ
place_among kind rules = position_or_len (λ (rule : Rule). rule.kind == kind) rules

-- whether one of these rules is for this kind
abbrev pub has_rule : ℕ → List Rule → Bool
has_rule kind rules = nat_lt (place_among kind rules) (length rules)

-- the rule for a kind that has one
abbrev pub rule_for : ℕ → List Rule → Rule
rule_for kind rules = slice_index_or rules (place_among kind rules) (any kind)

-- the rules that are left when the one for this kind was met
abbrev pub without : ℕ → List Rule → List Rule
without kind rules = remove rules (place_among kind rules)

-- whether a rule takes a number in the short form
abbrev pub takes : Rule → ℕ → Bool
takes rule number = nat_le rule.least number && nat_le number rule.most
