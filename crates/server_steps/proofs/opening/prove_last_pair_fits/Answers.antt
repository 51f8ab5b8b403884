use Rattle.std.proofs.Common.{◌<◌, ◌^◌, subst}
use Rattle.server_steps.proofs.PairLemmas.{standing_pair_fits}
use Rattle.server_steps.proofs.opening.prove_last_pair_fits.Goals as goal

pub returns : goal.returns
returns g c signer server spi pair stands made =
    standing_pair_fits g.G.Signer g.R.Draws c.args.core.now signer server spi pair (subst (λ n. n < 2 ^ 32) c.sequence.ensures c.sequence.type_inv) stands made
