-- Octets, lists of a number of octets, and keys.
use Rattle.std.specs.Prelude.{◌≡◌, ℕ, ◌<◌, ◌⊎◌, List, length, All}

-- a number of 8 bits
abbrev pub IsByte : ℕ → Type 0
IsByte byte = byte < 256

-- the list has n bytes
pub record AreBytes (n : ℕ) (bytes : List ℕ) : Type 0 where
  pub len : length bytes ≡ n
  pub small : All IsByte bytes

-- a key of 128 bits or of 256
abbrev pub IsKey : List ℕ → Type 0
IsKey key = AreBytes 16 key ⊎ AreBytes 32 key
