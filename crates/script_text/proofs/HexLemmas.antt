-- Hex of texts that are put together.
use Rattle.std.proofs.Common.{◌≡◌, ℕ, ◌/◌, ◌%◌, List, [], ◌∷◌, ◌++◌, refl, ap}
use Rattle.std.specs.Prelude.{slice_index}
use Rattle.hex.specs.Hex.{encode_with}

-- the digits of some octets and of others after them
pub encode_with-append : (table octets more : List ℕ) → encode_with table (octets ++ more) ≡ encode_with table octets ++ encode_with table more
unfolding encode_with
encode_with-append table [] more = refl
encode_with-append table (octet ∷ octets) more =
    ap (λ text. slice_index table (octet / 16) ∷ slice_index table (octet % 16) ∷ text) (encode_with-append table octets more)
