use Rattle.std.proofs.Common.{◌≤◌, [], length, take, refl, sym, subst, arith, length-take}
use Rattle.gd_disk.specs.Disks.{Torn}
use Rattle.folder_files.specs.Files.{Standing}
use Rattle.file_disks.specs.FileMedia.{FileMedium}
use Rattle.file_disks.proofs.FileLemmas.{file_of, file_follows, file_widens, file_goes_on, Follows-more}
use Rattle.gd_disk.proofs.MediumLemmas.{Left}
use Rattle.gd_disk.proofs.TornLemmas.{Torn-same}
use Rattle.file_disks.proofs.mem_files.MemFileFolderFile.write_at.Goals as goal

pub returns-clause-crash : goal.returns-clause-crash
returns-clause-crash c file is =
    let was = c.self.inside in
    let standing : Standing = record { is_open = was.is_open; is_locked = was.is_locked; is_listed = was.is_listed; is_sound = was.is_sound } in
    let view = file_of was.disk standing was.listed was.most was.is_taken was.steps.faults in
    let new = file_of c.write_at.new.self standing was.listed was.most was.is_taken was.steps.faults in
    let piece = take c.min-n.result c.args.octets.now in
    let follows = c.write_at.ensures.crash was.disk.image refl in
    file_follows (Torn c.args.at (length c.args.octets.now)) view c.args.self.now new c.self.view_is (Torn-same c.args.at (length c.args.octets.now) []) refl
    (Follows-more c.args.at (length piece) (length c.args.octets.now) (Left view.medium) (Left new.medium) (omega (arith, length-take c.min-n.result c.args.octets.now)) follows)

pub returns-clause-widens : goal.returns-clause-widens
returns-clause-widens c =
    let was = c.self.inside in
    let standing : Standing = record { is_open = was.is_open; is_locked = was.is_locked; is_listed = was.is_listed; is_sound = was.is_sound } in
    let view = file_of was.disk standing was.listed was.most was.is_taken was.steps.faults in
    let new = file_of c.write_at.new.self standing was.listed was.most was.is_taken was.steps.faults in
    let within = subst (λ (f : FileMedium). c.args.at ≤ length f.medium.image) (sym c.self.view_is) (c.requires.there _ refl) in
    let piece = take c.min-n.result c.args.octets.now in
    file_widens view c.args.self.now new c.self.view_is refl c.args.at piece within c.in_ok-write_at.ensures.done

pub returns-clause-time : goal.returns-clause-time
returns-clause-time c =
    let was = c.self.inside in
    let standing : Standing = record { is_open = was.is_open; is_locked = was.is_locked; is_listed = was.is_listed; is_sound = was.is_sound } in
    let view = file_of was.disk standing was.listed was.most was.is_taken was.steps.faults in
    let new = file_of c.write_at.new.self standing was.listed was.most was.is_taken was.steps.faults in
    file_goes_on view c.args.self.now new c.self.view_is refl refl c.self.invariant.1 c.write_at.ensures.time
