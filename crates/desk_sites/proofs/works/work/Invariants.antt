use Rattle.std.proofs.Common.{◌≡◌, ◌≤◌, length}
use Rattle.desk_sites.proofs.works.work.Given as goal

abbrev pub invariant-loop-turn : goal.invariant-loop-turn
invariant-loop-turn g l = ((g.S.Site.held l.pass).desk ≡ (g.S.Site.told l.site).id) × (l.turn ≤ length (g.S.Site.held l.pass).mine)
