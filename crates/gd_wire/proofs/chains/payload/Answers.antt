use Rattle.gd_wire.proofs.ChainReadings.{payload_lies, payload_rises}
use Rattle.gd_wire.proofs.chains.payload.Goals as goal

pub returns-clause-lies : goal.returns-clause-lies
returns-clause-lies c text base through = payload_lies text base c.args.kind c.args.named c.args.reader.now c.next_payload.result c.next_payload.new.reader through c.next_payload.ensures

pub returns-clause-rises : goal.returns-clause-rises
returns-clause-rises c = payload_rises c.args.kind c.args.named c.args.reader.now c.next_payload.result c.next_payload.new.reader c.next_payload.ensures
