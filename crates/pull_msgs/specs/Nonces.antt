-- The octets of a nonce (RFC 2408 section 3.13), of which GDOI asks for 8 to 128 (RFC 6407 section 5.8).
use Rattle.std.specs.Prelude.{ℕ, ◌&&◌, nat_le, Bool, List, length, Option, Some, None, if◌then◌else◌}

-- whether these octets can be a nonce, by how many they are (RFC 6407 section 5.8)
abbrev pub is_nonce : List ℕ → Bool
is_nonce octets = nat_le 8 (length octets) && nat_le (length octets) 128

-- the nonce that these octets are, where they are one
abbrev pub nonce_of : List ℕ → Option (List ℕ)
nonce_of octets = if is_nonce octets then Some octets else None
