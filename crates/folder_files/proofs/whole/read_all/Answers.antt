use Rattle.std.proofs.Common.{◌∙◌, ◌-◌, length, arith}
use Rattle.folder_files.proofs.CallLemmas.{IsQuiet-then, Rose-later, on_err}
use Rattle.folder_files.proofs.PieceLemmas.{read_more}
use Rattle.folder_files.proofs.whole.read_all.Goals as goal

pub loop-n-preserved : goal.loop-n-preserved
loop-n-preserved g c =
    let n = c.loop-n.n in
    let so_far = c.loop-n.invariant in
    record {
      standing = c.read_at.ensures.standing ∙ so_far.standing;
      counted = omega (arith, so_far.counted, c.read_at.ensures.counted);
      within = grind arith;
      octets = λ file is.
          let before = so_far.octets file is in
          let part = c.in_ok-moved.ensures.octets file (so_far.quiet.image ∙ is) in
          (omega (arith, before.0, part.count), read_more file c.loop-n.into c.read_at.new.into c.args.at n c.in_ok-moved.moved (length c.loop-n.into - n) so_far.within c.in_ok-moved.ensures.count before.1 part.octets);
      quiet = IsQuiet-then g.F.FolderFile c.args.file.now c.loop-n.file c.read_at.new.self so_far.quiet
          (record { image = c.read_at.ensures.image; crash = c.read_at.ensures.crash; time = c.read_at.ensures.time; stays = record { honest = c.read_at.ensures.honest; exposed = c.read_at.ensures.exposed } });
    }

pub returns-in_err-moved-clause-cause : goal.returns-in_err-moved-clause-cause
returns-in_err-moved-clause-cause g c =
    on_err c.from_residual.result _ (Rose-later (g.F.FolderFile.faults c.args.file.now) (g.F.FolderFile.faults c.loop-n.file) (g.F.FolderFile.faults c.read_at.new.self)
    c.loop-n.invariant.counted c.in_err-moved.ensures.cause)
