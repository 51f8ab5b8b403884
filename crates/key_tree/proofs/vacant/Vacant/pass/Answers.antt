use Rattle.std.proofs.Common.{◌∙◌, ap}
use Rattle.key_tree.specs.Private.Seats.{passed_by}
use Rattle.key_tree.proofs.VacantLemmas.{passes}
use Rattle.key_tree.proofs.vacant.Vacant.pass.Goals as goal

pub returns-clause-vacant : goal.returns-clause-vacant
returns-clause-vacant c =
    let vacant = c.args.self.now in
    passes vacant c.requires.vacant c.args.place c.requires.from c.requires.lowest c.passed_by-self.result
    (c.passed_by-self.ensures ∙ ap (λ l. passed_by l vacant.passed c.args.place) c.as_slice.ensures)
