use Rattle.std.proofs.Common.{◌∙◌, subst}
use Rattle.member_store.specs.Takings.{Takes, keys_given}
use Rattle.member_store.proofs.DueLemmas.{takes_of_dues}
use Rattle.member_store.proofs.takings.keys_taken.Goals as goal

pub returns-in-Some : goal.returns-in-Some
returns-in-Some c =
    subst (λ arrays. Takes c.args.path.now (keys_given arrays) c.dues_taken.result.items) c.arrays.ensures
    (takes_of_dues c.args.path.now (keys_given c.arrays.result) c.dues_taken.result.items
    (subst (λ due. Takes c.args.path.now due c.dues_taken.result.items) (c.as_slice.ensures.value ∙ c.in-Some.ensures) c.dues_taken.ensures))
