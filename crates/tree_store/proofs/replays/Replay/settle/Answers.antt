use Rattle.std.specs.Prelude.{IfSome, map}
use Rattle.std.proofs.Common.{◌∙◌, Option, Some, None, sym, subst}
use Rattle.tree_store.specs.declared.dues.Due.{Due}
use Rattle.tree_store.specs.Groups.{made_of}
use Rattle.tree_store.specs.Private.Dues.{IsInstallable}
use Rattle.tree_store.specs.Replays.{IsReplayOf, IsTreeOf}
use Rattle.tree_store.specs.Views.{ReadSoFar}
use Rattle.tree_store.proofs.ReplayLemmas.{tree_next, with_last}
use Rattle.tree_store.proofs.replays.Replay.settle.Goals as goal

pub install-requires : goal.install-requires
install-requires c =
    let last = sym c.take.ensures.value ∙ c.in-Some.is in
    let due : Due = c.in-Some.field-0 in
    let can : IsInstallable c.self.inside.tree due =
    subst (λ (found : Option Due). IfSome found (IsInstallable c.self.inside.tree)) last c.self.invariant in
    record { ready = can.ready; drawn = can.drawn }

pub returns-in-Some-clause-tree : goal.returns-in-Some-clause-tree
returns-in-Some-clause-tree c head list is =
    let due : Due = c.in-Some.field-0 in
    let replay : ReadSoFar = record { tree = c.self.inside.tree; last = c.self.inside.last } in
    let there = subst (λ (read : ReadSoFar). IsReplayOf head read list) (sym c.self.view_is) is in
    let (before, tree, last) = with_last head replay list (Some due) there (sym c.take.ensures.value ∙ c.in-Some.is) in
    subst (IsTreeOf head c.install.new.self) (sym last.1)
    (tree_next head c.self.inside.tree c.install.new.self before due tree last.0 (c.install.ensures.stands due.stored.batch head.limit last.0.marked) c.prove_room.ensures
    (c.install.ensures.last (map made_of before) due.stored.batch tree.keeps))

pub returns-in-None-clause-tree : goal.returns-in-None-clause-tree
returns-in-None-clause-tree c head list is =
    let replay : ReadSoFar = record { tree = c.self.inside.tree; last = c.self.inside.last } in
    let there = subst (λ (read : ReadSoFar). IsReplayOf head read list) (sym c.self.view_is) is in
    let (before, tree, last) = with_last head replay list None there (sym c.take.ensures.value ∙ c.in-None.is) in
    subst (IsTreeOf head c.self.inside.tree) (sym last) tree
