use Rattle.std.proofs.Common.{subst}
use Rattle.gd_cipher.specs.Chains.{IsOpened}
use Rattle.pull_msgs.proofs.OpeningLemmas.{opened_in_place}
use Rattle.pull_msgs.proofs.opening.open.Goals as goal

pub returns-clause-opened : goal.returns-clause-opened
returns-clause-opened c =
    opened_in_place c.args.phase.now.key c.args.iv.now c.args.datagram.now c.in_ok-text.text c.cbc_open.new.text c.in_ok-text.ensures
    (subst (λ key. IsOpened key c.args.iv.now c.in_ok-text.text c.cbc_open.new.text) c.new.ensures
    (subst (λ sealed. IsOpened c.new.result c.args.iv.now sealed c.cbc_open.new.text) c.as_mut_slice.ensures.value c.cbc_open.ensures.opened))
