use Rattle.std.proofs.Common.{◌≡◌, List, ℕ, arith, sym, subst}
use Rattle.std.proofs.lemmas.Grind.{common_steps}
use Rattle.gd_disk.specs.Disks.{Torn}
use Rattle.gd_disk.specs.Private.Pieces.{laid}
use Rattle.gd_disk.proofs.TornLemmas.{Torn-laid}
use Rattle.gd_disk.proofs.octets.lay.Goals as goal

pub returns-clause-torn : goal.returns-clause-torn
returns-clause-torn c n few =
    let same : c.extend-3.new.self ≡ laid c.args.octets.now c.args.at c.args.piece.now = grind (arith, common_steps) in
    subst (λ (l : List ℕ). Torn c.args.at n c.args.octets.now l) (sym same) (Torn-laid c.args.at n c.args.octets.now c.args.piece.now few)
