-- The datagram of a push while it is written.
use Rattle.std.specs.Prelude.{◌≡◌, ℕ, List, length}
use Rattle.push_msg.specs.declared.writers.PushHead.{PushHead}
use Rattle.push_msg.specs.Texts.{Push}
use Rattle.sa_wire.specs.Texts.{PolicyFits}
use Rattle.sa_wire.specs.declared.policies.SaPolicy.{SaPolicy}

-- a push with this head and policy, whose key download has this size
pub record IsBegun (head : PushHead) (policy : SaPolicy) (size : ℕ) (push : Push) : Type 0 where
  pub spi : push.spi ≡ head.spi
  pub number : push.number ≡ head.sequence
  pub policy_is : push.policy ≡ policy
  pub fits : PolicyFits policy
  pub keys : length push.keys ≡ size
