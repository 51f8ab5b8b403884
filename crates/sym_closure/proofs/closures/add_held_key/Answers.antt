use Rattle.std.proofs.Common.{◌∷◌, [], subst}
use Rattle.std.specs.Prelude.{Contains}
use Rattle.std.proofs.lemmas.Result.{on_ok_weaker}
use Rattle.sym_closure.specs.Private.Graphs.{key_at, keys_at}
use Rattle.sym_closure.proofs.ContainLemmas.{Contains-map}
use Rattle.sym_closure.proofs.FirstLemmas.{Gains-has, Contains-first}
use Rattle.sym_closure.proofs.closures.add_held_key.Goals as goal

pub returns-in-Some-clause-held : goal.returns-in-Some-clause-held
returns-in-Some-clause-held c =
    let keys = c.args.graph.now.keys in
    let number = c.in-Some.number in
    let old = c.args.reached.now.order in
    let new = c.add.new.self.order in
    on_ok_weaker c.add.result
    (λ gains _. subst (Contains (keys_at keys new)) c.in-Some.ensures.number.1
    (Contains-map (key_at keys) new number (Gains-has old (number ∷ []) new gains number (Contains-first number []))))
    c.add.ensures.gains
