-- Laws of files.
use Rattle.std.specs.Prelude.{ℕ, List, length}
use Rattle.std.proofs.Common.{inl, inr}
use Rattle.std.proofs.Math.Nat.{not-suc-le_self}
use Rattle.gd_disk.specs.MediaLaws.{only_now_in}
use Rattle.file_disks.specs.FileMedia.{FileMedium, MayLeaveFile, FileLeftSince}

-- since this moment a crash leaves what it may leave now
pub only_now_in_file : (file : FileMedium) (c : List ℕ) → FileLeftSince file (length file.medium.events) c → MayLeaveFile file c
only_now_in_file file c (inl left) = inl (only_now_in file.medium.image file.medium.events c left)
only_now_in_file file c (inr (is, inl unlisted)) = inr (unlisted, is)
only_now_in_file file c (inr (is, inr early)) = absurd (not-suc-le_self (length file.medium.events) early.1)

-- what it may leave now it might have left since an earlier moment
pub counts_now_in_file : (file : FileMedium) (t : ℕ) (c : List ℕ) → MayLeaveFile file c → FileLeftSince file t c
counts_now_in_file file t c (inl now) = inl (inl now)
counts_now_in_file file t c (inr (unlisted, is)) = inr (is, inl unlisted)
