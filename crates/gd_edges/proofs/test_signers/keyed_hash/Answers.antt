use Rattle.std.proofs.Common.{[]}
use Rattle.gd_edges.specs.Signatures.{test_key}
use Rattle.gd_edges.proofs.test_signers.keyed_hash.Goals as goal

pub returns : goal.returns
returns c = c.finish.ensures test_key c.args.digest.now (c.add.ensures test_key [] c.new-hash.ensures)
