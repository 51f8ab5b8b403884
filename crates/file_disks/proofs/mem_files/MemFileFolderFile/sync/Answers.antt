use Rattle.std.proofs.Common.{refl}
use Rattle.folder_files.specs.Files.{Standing}
use Rattle.file_disks.proofs.FileLemmas.{file_of, file_narrows}
use Rattle.file_disks.proofs.mem_files.MemFileFolderFile.sync.Goals as goal

pub returns-clause-crash : goal.returns-clause-crash
returns-clause-crash c =
    let was = c.self.inside in
    let standing : Standing = record { is_open = was.is_open; is_locked = was.is_locked; is_listed = was.is_listed; is_sound = was.is_sound } in
    let view = file_of was.disk standing was.listed was.most was.is_taken was.steps.faults in
    let new = file_of c.sync.new.self standing was.listed was.most was.is_taken was.steps.faults in
    file_narrows view c.args.self.now new c.self.view_is refl (c.sync.ensures.crash was.disk.image refl)
