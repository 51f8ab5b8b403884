-- How the code keeps the keys of all rounds: as words, four for each round.
use Rattle.std.specs.Prelude.{◌≡◌, ℕ, List}
use Rattle.gd_cipher.specs.Bytes.{IsKey}
use Rattle.gd_cipher.specs.Schedules.{schedule, rounds_of}
use Rattle.gd_cipher.specs.Words.{bytes_of}
use Rattle.gd_cipher.specs.Private.Equivalents.{AreEquivalentKeys}

-- these words are the schedule of a key
pub record AreRoundKeys (key : List ℕ) (rounds : ℕ) (words : List ℕ) : Type 0 where
  pub rounds_are : rounds ≡ rounds_of key
  pub are : bytes_of words ≡ schedule key

-- these words are the keys for the equivalent inverse cipher under a key
pub record AreOpeningKeys (key : List ℕ) (rounds : ℕ) (words : List ℕ) : Type 0 where
  pub is_key : IsKey key
  pub rounds_are : rounds ≡ rounds_of key
  pub are : AreEquivalentKeys rounds (schedule key) (bytes_of words)
