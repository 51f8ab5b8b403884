use Rattle.std.proofs.Common.{◌≡◌, ◌≤◌, ◌-◌, length, take, Some}
use Rattle.gd_disk.specs.Disks.{Knows, Torn, written}
use Rattle.folder_files.specs.Calls.{octets_of, IsStep}
use Rattle.folder_files.proofs.whole.write_all.Given as goal

abbrev pub invariant-loop-done : goal.invariant-loop-done
invariant-loop-done g l = record {
  standing : g.F.FolderFile.standing l.file ≡ g.F.FolderFile.standing l.fn.file;
  counted : g.F.FolderFile.faults l.fn.file ≤ g.F.FolderFile.faults l.file;
  within : l.done ≤ length l.octets;
  image : Knows (octets_of g.F.FolderFile l.fn.file) (λ before. octets_of g.F.FolderFile l.file ≡ Some (written before l.at (take l.done l.octets)));
  step : IsStep g.F.FolderFile (Torn l.at (length l.octets)) l.fn.file l.file;
}

abbrev pub decreases-loop-done : goal.decreases-loop-done
decreases-loop-done g l = length l.octets - l.done
