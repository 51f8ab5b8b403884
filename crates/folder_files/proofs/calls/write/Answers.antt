use Rattle.std.proofs.Common.{length}
use Rattle.gd_disk.specs.Disks.{Torn}
use Rattle.folder_files.proofs.CallLemmas.{IsStep-after}
use Rattle.folder_files.proofs.calls.write.Goals as goal

pub returns-in_err-write_all-clause-step : goal.returns-in_err-write_all-clause-step
returns-in_err-write_all-clause-step g c =
    IsStep-after g.F.FolderFile (Torn c.args.at (length c.args.octets.now)) c.args.file.now c.hold.new.file c.write_all.new.file
    (g.met.F.FolderFile.counts_now c.args.file.now) c.hold.ensures.quiet c.write_all.ensures.step

pub returns-clause-step : goal.returns-clause-step
returns-clause-step g c =
    IsStep-after g.F.FolderFile (Torn c.args.at (length c.args.octets.now)) c.args.file.now c.hold.new.file c.write_all.new.file
    (g.met.F.FolderFile.counts_now c.args.file.now) c.hold.ensures.quiet c.write_all.ensures.step
