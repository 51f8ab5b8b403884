use Rattle.gd_wire.specs.Chains.{payloads_text, payloads_at}
use Rattle.gd_wire.proofs.ChainReadings.{at_start}
use Rattle.gd_wire.proofs.ChainLaws.{chain_read, fills_block}
use Rattle.gd_wire.proofs.laws.a_chain_has_one_text.Goals as goal

pub returns-clause-kinds : goal.returns-clause-kinds
returns-clause-kinds c text due base first parts read = (chain_read text base due _ _ parts (at_start text base) read).kinds

pub returns-clause-text : goal.returns-clause-text
returns-clause-text c text due base first parts octets read = (chain_read text base due _ _ parts (at_start text base) read).text_is octets

pub returns-clause-blocks : goal.returns-clause-blocks
returns-clause-blocks c text due base first parts octets read whole =
    let found = (chain_read text base due _ _ parts (at_start text base) read).text_is octets in
    fills_block text (payloads_text (payloads_at text parts)) found.0 found.1 found.2 whole
