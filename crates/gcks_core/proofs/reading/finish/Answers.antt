use Rattle.std.proofs.Common.{◌≡◌, refl, sym, subst}
use Rattle.tree_store.specs.Views.{ReadSoFar}
use Rattle.gcks_core.specs.Private.Reads.{IsRead}
use Rattle.gcks_core.proofs.reading.finish.Goals as goal

pub last_pair-requires : goal.last_pair-requires
last_pair-requires g c =
    let parts : ReadSoFar = record { tree = c.into_parts-tree.result.0; last = c.into_parts-tree.result.1 } in
    let same : c.args.replay ≡ parts = λ i. record { tree = sym c.into_parts-tree.ensures.tree i; last = sym c.into_parts-tree.ensures.last i } in
    record { replay = (c.requires.replay.0, subst (λ (replay : ReadSoFar). IsRead c.args.head.now replay c.requires.replay.0) same c.requires.replay.1) }

pub returns : goal.returns
returns g c list read =
    let parts : ReadSoFar = record { tree = c.into_parts-tree.result.0; last = c.into_parts-tree.result.1 } in
    let same : c.args.replay ≡ parts = λ i. record { tree = sym c.into_parts-tree.ensures.tree i; last = sym c.into_parts-tree.ensures.last i } in
    let there = subst (λ (replay : ReadSoFar). IsRead c.args.head.now replay list) same read in
    (refl, c.in_ok-resent.ensures.group list there, c.in_ok-resent.ensures.pair list there)
