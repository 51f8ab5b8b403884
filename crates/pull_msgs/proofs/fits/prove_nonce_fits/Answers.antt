use Rattle.std.proofs.Common.{subst}
use Rattle.std.proofs.lemmas.Bool.{and_parts, leb-true}
use Rattle.group_terms.specs.Octets.{AreOctets}
use Rattle.pull_msgs.proofs.fits.prove_nonce_fits.Goals as goal

pub returns : goal.returns
returns c = record {
  least = leb-true _ _ (and_parts _ _ c.octets.ensures.nonce).0;
  most = leb-true _ _ (and_parts _ _ c.octets.ensures.nonce).1;
  octets = subst AreOctets c.octets.ensures.octets c.prove_are_octets.ensures;
}
