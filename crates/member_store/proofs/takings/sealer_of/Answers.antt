use Rattle.std.proofs.Common.{◌∙◌, sym}
use Rattle.member_store.proofs.FindLemmas.{found_first, found_later}
use Rattle.member_store.proofs.takings.sealer_of.Goals as goal

pub returns-in-Some : goal.returns-in-Some
returns-in-Some c = sym (found_first _ c.args.taken.now c.args.path.now _ (sym c.called.ensures ∙ c.in-Some.is))

pub returns-in-None : goal.returns-in-None
returns-in-None c =
    c.called-in-None.ensures ∙ sym (found_later _ c.args.taken.now c.args.path.now (sym c.called.ensures ∙ c.in-None.is))
