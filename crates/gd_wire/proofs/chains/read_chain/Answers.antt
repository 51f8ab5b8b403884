use Rattle.std.proofs.Common.{ap, ◌∙◌}
use Rattle.gd_wire.specs.Chains.{chain}
use Rattle.gd_wire.proofs.ChainReadings.{parts_lie}
use Rattle.gd_wire.proofs.chains.read_chain.Goals as goal

pub returns : goal.returns
returns c =
    let same = c.chain_of.ensures ∙ ap (chain c.args.first c.args.due.now) c.new.ensures in
    let lie = parts_lie c.args.text.now c.args.base c.args.first c.args.due.now c.chain_of.result same in
    record { answer = same; within = lie.0; before = lie.1 }
