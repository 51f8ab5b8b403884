use Rattle.gd_wire.proofs.PartLemmas.{at_start}
use Rattle.pull_msgs.proofs.reading.read_first.Goals as goal

pub hash_payload-requires-clause-through : goal.hash_payload-requires-clause-through
hash_payload-requires-clause-through c = at_start c.args.text.now 28 c.new-payloads.result c.new-payloads.ensures
