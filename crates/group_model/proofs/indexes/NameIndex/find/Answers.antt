use Rattle.std.proofs.Common.{◌∙◌, subst, IfSome}
use Rattle.std.specs.HashMap.{get}
use Rattle.group_terms.specs.Names.{same_name}
use Rattle.group_model.specs.Indexes.{IsIndex}
use Rattle.group_model.proofs.IndexLemmas.{found_by_name}
use Rattle.group_model.proofs.indexes.NameIndex.find.Goals as goal

pub returns-in-Some : goal.returns-in-Some
returns-in-Some c =
    c.copied.ensures ∙ c.get.ensures.value
    ∙ found_by_name c.args.holders.now (get same_name c.in-Some.places) c.args.member.now
    (subst (λ kept. IfSome kept (λ places. IsIndex c.args.holders.now (get same_name places))) c.in-Some.is c.requires)
