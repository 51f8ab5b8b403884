use Rattle.std.proofs.Common.{◌≡◌, ◌≤◌, ◌-◌, length, take, drop}
use Rattle.gd_disk.specs.Disks.{Knows}
use Rattle.folder_files.specs.Calls.{octets_of, IsQuiet}
use Rattle.folder_files.proofs.whole.read_all.Given as goal

abbrev pub invariant-loop-n : goal.invariant-loop-n
invariant-loop-n g l = record {
  standing : g.F.FolderFile.standing l.file ≡ g.F.FolderFile.standing l.fn.file;
  counted : g.F.FolderFile.faults l.fn.file ≤ g.F.FolderFile.faults l.file;
  within : l.n ≤ length l.into;
  octets : Knows (octets_of g.F.FolderFile l.fn.file) (λ octets. (l.n ≤ length octets - l.fn.at) × (take l.n l.into ≡ take l.n (drop l.fn.at octets)));
  quiet : IsQuiet g.F.FolderFile l.fn.file l.file;
}

abbrev pub decreases-loop-n : goal.decreases-loop-n
decreases-loop-n g l = length l.into - l.n
