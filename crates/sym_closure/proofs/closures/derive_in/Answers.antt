use Rattle.std.proofs.Common.{◌≡◌, refl, ap, sym, ◌∙◌, subst, inl, inr}
use Rattle.std.specs.Prelude.{Contains}
use Rattle.std.proofs.lemmas.Bool.{false≢true}
use Rattle.std.proofs.lemmas.List.Elements.{Contains-append_cases, All-contains}
use Rattle.group_model.specs.Derivations.{IsDerivation}
use Rattle.sym_closure.specs.Private.Graphs.{keys_at, pairs_of}
use Rattle.sym_closure.proofs.ClosureLemmas.{CanDerive-reached}
use Rattle.sym_closure.proofs.closures.derive_in.Goals as goal

pub returns-then-not-has-clause-none : goal.returns-then-not-has-clause-none
returns-then-not-has-clause-none c = λ none derivable.
    let have = c.args.have.now in
    let sought = c.args.goal.now in
    let graph = c.args.graph.now in
    let order = c.in_ok-reached.reached.order in
    let closure = c.in_ok-reached.ensures.closure in
    let there : Contains (keys_at graph.keys order) sought =
    elim (Contains-append_cases (keys_at graph.keys order) have sought (CanDerive-reached graph have order closure sought derivable)) [
      | inl reached ↦ reached
      | inr held ↦ closure.held sought held (All-contains (Contains graph.keys) have sought c.requires held)
    ] in
    false≢true (c.if-not-has.ensures.1 there)

pub returns-clause-found : goal.returns-clause-found
returns-clause-found c =
    let have = c.args.have.now in
    let sought = c.args.goal.now in
    let graph = c.args.graph.now in
    let order = c.in_ok-reached.reached.order in
    let names : c.in_ok-names.names ≡ keys_at graph.keys order = c.in_ok-names.ensures ∙ ap (keys_at graph.keys) c.order.ensures in (
      subst (IsDerivation have (pairs_of graph)) (sym names) c.in_ok-reached.ensures.closure.derivation,
      subst (λ all. Contains all sought) (sym names) (c.if-not-has.ensures.0 refl),
    )
