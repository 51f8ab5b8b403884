use Rattle.std.proofs.Common.{[], refl}
use Rattle.gd_disk.specs.Disks.{Cut}
use Rattle.folder_files.specs.Files.{Standing}
use Rattle.file_disks.proofs.FileLemmas.{file_of, file_follows, file_goes_on}
use Rattle.gd_disk.proofs.TornLemmas.{Cut-same}
use Rattle.file_disks.proofs.mem_files.MemFileFolderFile.set_len.Goals as goal

pub returns-clause-crash : goal.returns-clause-crash
returns-clause-crash c file is =
    let was = c.self.inside in
    let standing : Standing = record { is_open = was.is_open; is_locked = was.is_locked; is_listed = was.is_listed; is_sound = was.is_sound } in
    let view = file_of was.disk standing was.listed was.most was.is_taken was.steps.faults in
    let new = file_of c.cut.new.self standing was.listed was.most was.is_taken was.steps.faults in
    file_follows (Cut c.args.to) view c.args.self.now new c.self.view_is (Cut-same c.args.to []) refl (c.cut.ensures.crash was.disk.image refl)

pub returns-clause-time : goal.returns-clause-time
returns-clause-time c =
    let was = c.self.inside in
    let standing : Standing = record { is_open = was.is_open; is_locked = was.is_locked; is_listed = was.is_listed; is_sound = was.is_sound } in
    let view = file_of was.disk standing was.listed was.most was.is_taken was.steps.faults in
    let new = file_of c.cut.new.self standing was.listed was.most was.is_taken was.steps.faults in
    file_goes_on view c.args.self.now new c.self.view_is refl refl c.self.invariant.1 c.cut.ensures.time
