-- Behind the octets stand the zeros that they do not cover.
use Rattle.std.proofs.Common.{ℕ, length}
use Rattle.std.proofs.lemmas.List.{drop-replicate}
use Rattle.group_terms.proofs.ShortOctetsLemmas.{HoldsOctets-padded, take-padded}
use Rattle.group_terms.proofs.short_octets.ShortOctets.of.Goals as goal

pub invariant_of-result : goal.invariant_of-result
invariant_of-result g c =
    rw (c.copy_from_slice.ensures.after, drop-replicate {X = ℕ} (length c.args.octets.now) g.row.MOST 0) (HoldsOctets-padded g.row.MOST c.args.octets.now c.requires.fit)

pub returns : goal.returns
returns g c = rw (c.copy_from_slice.ensures.after, drop-replicate {X = ℕ} (length c.args.octets.now) g.row.MOST 0) (take-padded g.row.MOST c.args.octets.now)
