use Rattle.std.proofs.Common.{◌≡◌, ◌<◌, ◌∷◌, [], ◌++◌, List, ℕ, length, sym, ap, ◌∙◌, subst, arith}
use Rattle.std.specs.Prelude.{Contains}
use Rattle.std.proofs.lemmas.List.{length_push}
use Rattle.group_terms.specs.declared.keys.KeyName.{KeyName}
use Rattle.sym_closure.specs.Private.Graphs.{Graph, IsGraph, AddsKeys, key_at}
use Rattle.sym_closure.proofs.FirstLemmas.{Gains-one}
use Rattle.sym_closure.proofs.GraphLemmas.{with_key, key_last, AddsKeys-with_key, IsGraph-with_key}
use Rattle.sym_closure.proofs.graphs.KeyGraph.add_key.Goals as goal

-- the key is new, and so are its place and its list
new_key : (c : goal.In-Ok) → Contains c.self.inside.keys c.args.key.now → ⊥
new_key c there = (let P : Graph → Type 0 = λ graph. Contains graph.keys c.args.key.now in
    c.in_default.ensures.number (subst P c.self.view_is there))

keys : (c : goal.In-Ok) → c.add.new.self ≡ c.self.inside.keys ++ c.args.key.now ∷ []
keys c = Gains-one c.self.inside.keys c.add.new.self c.args.key.now (new_key c) c.in-Ok.ensures.gains

whole : (c : goal.In-Ok) → with_key (record { keys = c.self.inside.keys; given = c.self.inside.given.items }) c.args.key.now
    ≡ record { keys = c.add.new.self; given = c.push.new.self.items }
whole c =
    let given : c.push.new.self.items ≡ c.self.inside.given.items ++ [] ∷ [] = c.in_ok-push.ensures.items
    ∙ ap (λ (none : List ℕ). c.self.inside.given.items ++ none ∷ []) c.new.ensures in
    λ i. record { keys = sym (keys c) i; given = sym given i }

pub invariant_of-self-in-Ok : goal.invariant_of-self-in-Ok
invariant_of-self-in-Ok c =
    let graph : Graph = record { keys = c.self.inside.keys; given = c.self.inside.given.items } in
    subst IsGraph (whole c) (IsGraph-with_key graph c.self.invariant c.args.key.now (new_key c))

pub returns-in-Ok-clause-grown : goal.returns-in-Ok-clause-grown
returns-in-Ok-clause-grown c =
    let graph : Graph = record { keys = c.self.inside.keys; given = c.self.inside.given.items } in
    let P : Graph → Type 0 = λ old. AddsKeys old (record { keys = c.add.new.self; given = c.push.new.self.items }) in
    subst P c.self.view_is (subst (AddsKeys graph) (whole c) (AddsKeys-with_key graph c.self.invariant c.args.key.now))

pub returns-in-Ok-clause-number : goal.returns-in-Ok-clause-number
returns-in-Ok-clause-number c =
    let graph : Graph = record { keys = c.self.inside.keys; given = c.self.inside.given.items } in
    let at : length graph.given ≡ c.len-number.result = omega (arith, c.len-number.ensures, c.self.inside.given.ok.0) in
    let P : List KeyName → ℕ → Type 0 = λ all number. (number < length all) × (key_at all number ≡ c.args.key.now) in
    let low : length graph.given < length (graph.keys ++ c.args.key.now ∷ []) =
    omega (arith, length_push graph.keys c.args.key.now, c.self.invariant.sized) in
    subst (λ all. P all c.len-number.result) (sym (keys c))
    (subst (P (graph.keys ++ c.args.key.now ∷ [])) at (low, key_last graph c.self.invariant c.args.key.now))
