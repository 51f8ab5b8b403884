use Rattle.std.proofs.Common.{subst, ◌++◌, ◌∷◌, [], ℕ}
use Rattle.group_pushes.specs.Pairs.{IsPairIfStayed}
use Rattle.tree_store.specs.Groups.{made_of}
use Rattle.gcks_core.proofs.GroupLemmas.{drawn_next, taken_in_stored, values_there}
use Rattle.gcks_core.proofs.reading.pair_of.Goals as goal

pub write_pair-requires-clause-few : goal.write_pair-requires-clause-few
write_pair-requires-clause-few g c = c.prove_renews_few.ensures c.args.head.now.limit c.args.marked c.requires.marked

pub install-requires-clause-drawn : goal.install-requires-clause-drawn
install-requires-clause-drawn g c =
    let tree = c.args.tree.now in
    values_there c.args.head.now tree c.requires.due.0 c.requires.due.1 c.args.stored.now c.args.head.now.limit c.args.marked c.requires.due.2 c.requires.marked

pub returns-clause-group : goal.returns-clause-group
returns-clause-group g c before group due =
    let stored = c.args.stored.now in
    let tree = c.args.tree.now in
    taken_in_stored c.args.head.now tree before group stored due c.args.head.now.limit c.install.new.self
    (c.install.ensures.stands stored.batch c.args.head.now.limit c.requires.marked) c.prove_room.ensures (c.install.ensures.last before stored.batch group.keeps) c.prove_values_fit.ensures

pub returns-clause-pair : goal.returns-clause-pair
returns-clause-pair g c before group due =
    let head = c.args.head.now in
    let stored = c.args.stored.now in
    let tree = c.args.tree.now in
    subst (λ (depth : ℕ). IsPairIfStayed g.G.Signer c.args.signer.now depth head.spi (before ++ made_of stored ∷ []) c.in_ok-pair.pair) group.depth
    (c.in_ok-pair.ensures before stored.batch head.limit group.tree group.keeps (drawn_next head tree before group stored due) c.requires.marked)
