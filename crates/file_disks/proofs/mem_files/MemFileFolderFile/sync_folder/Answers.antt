use Rattle.std.proofs.Common.{true, refl}
use Rattle.folder_files.specs.Files.{Standing}
use Rattle.file_disks.proofs.FileLemmas.{file_of, file_listed}
use Rattle.file_disks.proofs.mem_files.MemFileFolderFile.sync_folder.Goals as goal

pub returns-clause-crash : goal.returns-clause-crash
returns-clause-crash c =
    let was = c.self.inside in
    let standing : Standing = record { is_open = was.is_open; is_locked = was.is_locked; is_listed = was.is_listed; is_sound = was.is_sound } in
    let listed : Standing = record { is_open = was.is_open; is_locked = was.is_locked; is_listed = true; is_sound = was.is_sound } in
    let view = file_of was.disk standing was.listed was.most was.is_taken was.steps.faults in
    let new = file_of c.write_at.new.self listed c.moment-moment.result was.most was.is_taken c.step.new.steps.faults in
    file_listed view c.args.self.now new c.self.view_is refl c.in_ok-write_at.ensures.done
