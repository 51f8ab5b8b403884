use Rattle.std.proofs.Common.{◌∙◌, Some, ap}
use Rattle.server_steps.specs.Pulls.{spi_or_zeros}
use Rattle.group_server.proofs.messages.policy_of.Goals as goal

pub returns-clause-policy : goal.returns-clause-policy
returns-clause-policy g c server stands =
    let spi = c.spi_or_zeros.ensures ∙ ap spi_or_zeros (c.traffic.ensures ∙ stands.kept.traffic) in
    λ i. record {
      kek = Some (record { spi = c.spi.ensures i; sign = c.sign_kind.ensures i });
      tek = Some (record { spi = spi i });
    }
