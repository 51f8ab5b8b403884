-- A file in memory: a medium, and whether a folder has it.
use Rattle.std.specs.Prelude.{◌≡◌, ◌⊎◌, ℕ, ◌<◌, ◌≤◌, Bool, false, List, [], length}
use Rattle.folder_files.specs.Files.{Standing}
use Rattle.gd_disk.specs.Media.{Medium, MayLeave, LeftSince}

-- its octets and what was done to them, its standing, the last moment at which its folder did not have it, how many octets a read or a write
-- takes at most, whether another process has its lock, and how many of the calls that open, lock or list it failed
pub record FileMedium : Type 0 where
  pub medium : Medium
  pub standing : Standing
  pub listed : ℕ
  pub most : ℕ
  pub taken : Bool
  pub refused : ℕ

-- what a loss of power may leave: what it may leave of the octets, or no file as long as the folder does not have it
abbrev pub MayLeaveFile : FileMedium → List ℕ → Type 0
MayLeaveFile file c = MayLeave file.medium.image file.medium.events c ⊎ ((file.standing.is_listed ≡ false) × (c ≡ []))

-- the same for one from that moment on
abbrev pub FileLeftSince : FileMedium → ℕ → List ℕ → Type 0
FileLeftSince file t c =
    LeftSince file.medium.image file.medium.events t c
    ⊎ ((c ≡ []) × ((file.standing.is_listed ≡ false) ⊎ ((t ≤ file.listed) × (t < length file.medium.events))))
