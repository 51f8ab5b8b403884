-- Where a journal's cursor and its clear commit mark are.
-- `IsReached` and `IsLast` are unfoldable: written out, the search opened the existential in every goal of the invariant.
use Rattle.std.specs.Prelude.{◌≡◌, ◌≢◌, ℕ, ◌+◌, List, ◌∷◌, ◌++◌, length, Option, IfSome}
use Rattle.gd_disk.specs.Disks.{Knows, Only}
use Rattle.gd_disk.specs.Moments.{shown}
use Rattle.gd_disk.specs.declared.disks.Disk.{Ghosts}
use Rattle.tree_journal.specs.Records.{records, records_from, records_text, name_text, with_front}

-- octets with which a journal begins: whatever comes after them, these bodies are read, and then what comes
pub record IsFront (front : List ℕ) (bodies : List (List ℕ)) : Type 0 where
  pub reads : (rest : List ℕ) → records (front ++ rest) ≡ with_front bodies (records_from (length rest) (length front) rest)
  pub named : (more : List ℕ) × (front ≡ 1 ∷ (name_text ++ more))
  pub long : length front ≡ 9 + length (records_text bodies)

-- the octets of a file up to a place are such a front
pub record Reaches (file : List ℕ) (at : ℕ) (bodies : List (List ℕ)) : Type 0 where
  pub front : List ℕ
  pub rest : List ℕ
  pub text : file ≡ front ++ rest
  pub place : at ≡ length front
  pub is : IsFront front bodies

-- and there is a clear commit mark
pub record IsEnd (file : List ℕ) (at : ℕ) (bodies : List (List ℕ)) : Type 0 where
  pub reaches : Reaches file at bodies
  pub gate : ℕ
  pub behind : List ℕ
  pub rest : reaches.rest ≡ gate ∷ behind
  pub closed : gate ≢ 1

-- a place that reading comes to
unfoldable pub IsReached : List ℕ → ℕ → Type 0
IsReached file at = (bodies : List (List ℕ)) × Reaches file at bodies

-- the place of the clear commit mark
unfoldable pub IsLast : List ℕ → ℕ → Type 0
IsLast file at = (bodies : List (List ℕ)) × IsEnd file at bodies

-- what is known of a disk, of the place where reading goes on and of that of the clear commit mark, while no call has failed
pub record Stands {D : Type 0} (g : Ghosts D) (disk : D) (at : ℕ) (end : Option ℕ) : Type 0 where
  pub read : Knows (shown g disk) (λ file. IsReached file at)
  pub ended : Knows (shown g disk) (λ file. IfSome end (IsLast file))
  pub durable : Knows (shown g disk) (λ file. Only file (g.may_leave disk))
