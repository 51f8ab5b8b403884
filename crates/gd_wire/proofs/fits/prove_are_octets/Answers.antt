use Rattle.std.proofs.lemmas.List.{get_or_default}
use Rattle.gd_wire.proofs.fits.prove_are_octets.Goals as goal

pub returns : goal.returns
returns c = λ k d within. rw (get_or_default c.args.octets.now k d 0 within) (c.type_inv.octets k).fits
