use Rattle.std.proofs.Common.{◌∙◌, sym, take}
use Rattle.gd_disk.specs.Disks.{Cut}
use Rattle.folder_files.proofs.CallLemmas.{IsStep-after}
use Rattle.folder_files.proofs.calls.cut.Goals as goal

pub returns-in_err-set_len-clause-step : goal.returns-in_err-set_len-clause-step
returns-in_err-set_len-clause-step g c =
    IsStep-after g.F.FolderFile (Cut c.args.to) c.args.file.now c.hold.new.file c.set_len.new.self (g.met.F.FolderFile.counts_now c.args.file.now) c.hold.ensures.quiet
    (record { image = c.in_err-set_len.ensures.failed; crash = c.set_len.ensures.crash; time = c.set_len.ensures.time; stays = record { honest = c.set_len.ensures.honest; exposed = c.set_len.ensures.exposed } })

pub returns-clause-step : goal.returns-clause-step
returns-clause-step g c =
    IsStep-after g.F.FolderFile (Cut c.args.to) c.args.file.now c.hold.new.file c.set_len.new.self (g.met.F.FolderFile.counts_now c.args.file.now) c.hold.ensures.quiet
    (record {
      image = λ file is. (take c.args.to file, c.in_ok-set_len.ensures.image file is, c.a_crash_may_leave_nothing_or_all.ensures.all_cut c.args.to file (c.requires.there file (sym c.hold.ensures.quiet.image ∙ is)));
      crash = c.set_len.ensures.crash;
      time = c.set_len.ensures.time;
      stays = record { honest = c.set_len.ensures.honest; exposed = c.set_len.ensures.exposed };
    })
