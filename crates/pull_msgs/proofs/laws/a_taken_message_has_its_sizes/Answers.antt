-- A header has 28 octets, and among them the message id.
use Rattle.std.proofs.Common.{◌∙◌, Some, None, length, sym, ap, arith}
use Rattle.pull_msgs.specs.declared.messages.First.{First}
use Rattle.pull_msgs.specs.declared.messages.Third.{Third}
use Rattle.pull_msgs.specs.Pulls.{first_awaited, third_awaited}
use Rattle.pull_msgs.proofs.SentLemmas.{what_was_taken}
use Rattle.pull_msgs.proofs.SizeLemmas.{has_sizes, next_iv_size}
use Rattle.pull_msgs.proofs.laws.a_taken_message_has_its_sizes.Goals as goal

pub returns-clause-first : goal.returns-clause-first
returns-clause-first c phase datagram taken answered =
    let found = what_was_taken _ _ phase (first_awaited phase) datagram taken answered in
    let sizes = has_sizes phase None datagram found.head found.has in
    let least = sizes.least in (
      ap (λ (first : First). length first.message) found.gives ∙ sizes.message,
      ap (λ (first : First). length first.next_iv) found.gives ∙ next_iv_size datagram (omega (arith, least)),
    )

pub returns-clause-third : goal.returns-clause-third
returns-clause-third c phase message iv ni nr datagram taken answered =
    let found = what_was_taken _ _ phase (third_awaited message iv ni nr) datagram taken answered in
    let sizes = has_sizes phase (Some message) datagram found.head found.has in
    let least = sizes.least in (
      ap length (sym sizes.id) ∙ sizes.message,
      ap (λ (third : Third). length third.next_iv) found.gives ∙ next_iv_size datagram (omega (arith, least)),
    )
