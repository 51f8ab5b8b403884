use Rattle.std.specs.Prelude.{Contains, IfSome}
use Rattle.std.proofs.lemmas.Option.{IfSome_then}
use Rattle.std.proofs.lemmas.Result.{IfOk-weaker}
use Rattle.group_model.specs.declared.entries.Derivation.{Derivation}
use Rattle.group_model.specs.Derivations.{IsDerivation}
use Rattle.sym_closure.specs.Private.Graphs.{pairs_of}
use Rattle.sym_closure.proofs.DerivationLemmas.{CanDerive-among, IsDerivation-among}
use Rattle.sym_closure.proofs.closures.derive.Goals as goal

pub returns-clause-none : goal.returns-clause-none
returns-clause-none c none derivable =
    c.derive_in.ensures.none none
    (CanDerive-among c.args.have.now c.args.have.now c.args.pairs.now (pairs_of c.in_ok-graph.graph) c.args.goal.now (λ name c. c) c.in_ok-graph.ensures.same.0 derivable)

pub returns-clause-found : goal.returns-clause-found
returns-clause-found c =
    let have = c.args.have.now in
    let pairs = c.args.pairs.now in
    let all = pairs_of c.in_ok-graph.graph in
    let sought = c.args.goal.now in
    IfOk-weaker c.derive_in.result
    (λ found. IfSome found (λ (derivation : Derivation). IsDerivation have all derivation.names × Contains derivation.names sought))
    (λ found. IfSome found (λ (derivation : Derivation). IsDerivation have pairs derivation.names × Contains derivation.names sought))
    (λ found is. IfSome_then found is (λ derivation both.
    (IsDerivation-among have have all pairs derivation.names (λ name c. c) c.in_ok-graph.ensures.same.1 both.0, both.1)))
    c.derive_in.ensures.found
