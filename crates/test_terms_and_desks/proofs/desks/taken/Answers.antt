use Rattle.std.proofs.Common.{◌≡◌, Some}
use Rattle.std.proofs.lemmas.List.Elements.{All-pop}
use Rattle.desk.specs.Views.{Holder}
use Rattle.test_terms_and_desks.proofs.desks.taken.Goals as goal

pub returns-in-Some-clause-pass : goal.returns-in-Some-clause-pass
returns-in-Some-clause-pass g c = (All-pop (λ (pass : Holder g.row.K-Entry.Denot g.row.K-Tag.Denot). pass.desk ≡ c.args.desk.now.id) c.args.passes.now c.pop.new.self (Some c.in-Some.pass) c.in-Some.ensures.last c.requires).1

pub returns-in-Some-clause-others : goal.returns-in-Some-clause-others
returns-in-Some-clause-others g c = (All-pop (λ (pass : Holder g.row.K-Entry.Denot g.row.K-Tag.Denot). pass.desk ≡ c.args.desk.now.id) c.args.passes.now c.pop.new.self (Some c.in-Some.pass) c.in-Some.ensures.last c.requires).0
