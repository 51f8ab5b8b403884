use Rattle.std.proofs.Common.{arith}
use Rattle.std.proofs.Math.Pow.{pow_mono}
use Rattle.key_tree.proofs.VacantLemmas.{none_lower, place_low}
use Rattle.key_tree.proofs.vacant.Vacant.next.Goals as goal

pub pass-requires-clause-lowest : goal.pass-requires-clause-lowest
pass-requires-clause-lowest c = none_lower c.args.self.now c.requires.vacant c.args.free.now.leaves c.in_ok-place.place c.in_ok-place.ensures

pub pass-requires-clause-few : goal.pass-requires-clause-few
pass-requires-clause-few c =
    place_low c.args.self.now c.requires.vacant c.args.free.now.leaves c.in_ok-place.place (omega (arith, c.requires.leaves, pow_mono {i = c.args.depth} {j = 9} c.requires.not_deep)) c.in_ok-place.ensures
