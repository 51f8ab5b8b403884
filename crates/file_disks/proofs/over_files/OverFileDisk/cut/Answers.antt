use Rattle.std.proofs.Common.{◌∙◌, ap, subst}
use Rattle.folder_files.specs.Calls.{octets_of}
use Rattle.file_disks.specs.Views.{View}
use Rattle.file_disks.proofs.over_files.OverFileDisk.cut.Goals as goal

pub returns-clause-crash : goal.returns-clause-crash
returns-clause-crash g c file is k left =
    let same = ap (λ (view : View g.row.F.Denot). view.file) c.self.view_is in
    let was = c.cut-answer.ensures.step.crash file (ap (octets_of g.F.FolderFile) same ∙ is) k left in
    (was.0, subst (λ (old : g.row.F.Denot). g.F.FolderFile.may_leave old was.0) same was.1, was.2)
