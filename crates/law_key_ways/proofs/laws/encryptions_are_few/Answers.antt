use Rattle.law_key_ways.proofs.FewLemmas.{are_few}
use Rattle.law_key_ways.proofs.laws.encryptions_are_few.Goals as goal

pub returns : goal.returns
returns c depth epoch batches deep valid early = are_few c.laws_hold.ensures depth epoch batches valid early deep
