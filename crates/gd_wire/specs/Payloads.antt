-- The generic header of a payload by itself (RFC 2408 section 3.2), where the body comes next.
use Rattle.std.specs.Prelude.{ℕ, ◌+◌, List, ◌∷◌}
use Rattle.byteorder.specs.Endian.{big_bytes}

-- the kind of the next payload, or 0, a reserved octet, and the length of the whole payload, whose body has this size
abbrev pub payload_head : ℕ → ℕ → List ℕ
payload_head next size = next ∷ 0 ∷ big_bytes 2 (size + 4)
