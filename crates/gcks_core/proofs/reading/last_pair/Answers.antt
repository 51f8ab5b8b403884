use Rattle.std.specs.Prelude.{IfOk, OnOk}
use Rattle.std.proofs.Common.{List, None, subst, sym}
use Rattle.group_values.specs.Values.{Made}
use Rattle.group_pushes.specs.Pairs.{IsPairIfStayed}
use Rattle.gcks_core.specs.Private.Cores.{IsGroupOf}
use Rattle.gcks_core.proofs.GroupLemmas.{no_pair}
use Rattle.gcks_core.proofs.ReplayLemmas.{read_last, read_nothing}
use Rattle.gcks_core.proofs.reading.last_pair.Goals as goal

pub pair_of-requires-clause-due : goal.pair_of-requires-clause-due
pair_of-requires-clause-due g c =
    let read = c.requires.replay.1 in
    let last = read_last c.args.head.now _ c.requires.replay.0 c.in-Some.field-0 read c.in-Some.is in
    (read.before, read.group, last.0)

pub pair_of-requires-clause-marked : goal.pair_of-requires-clause-marked
pair_of-requires-clause-marked g c =
    (read_last c.args.head.now _ c.requires.replay.0 c.in-Some.field-0 c.requires.replay.1 c.in-Some.is).1

pub returns-in-Some-clause-group : goal.returns-in-Some-clause-group
returns-in-Some-clause-group g c list read =
    let last = read_last c.args.head.now _ list c.in-Some.field-0 read c.in-Some.is in
    subst (λ (all : List Made). OnOk c.pair_of.result (IsGroupOf c.args.head.now c.pair_of.new.tree all)) (sym last.2)
    (c.pair_of.ensures.group read.before read.group last.0)

pub returns-in-Some-clause-pair : goal.returns-in-Some-clause-pair
returns-in-Some-clause-pair g c list read =
    let head = c.args.head.now in
    let last = read_last head _ list c.in-Some.field-0 read c.in-Some.is in
    subst (λ (all : List Made). IfOk c.pair_of.result (IsPairIfStayed g.G.Signer c.args.signer.now head.depth head.spi all)) (sym last.2)
    (c.pair_of.ensures.pair read.before read.group last.0)

pub returns-in-None-clause-group : goal.returns-in-None-clause-group
returns-in-None-clause-group g c list read =
    let none = read_nothing c.args.head.now _ list read c.in-None.is in
    subst (IsGroupOf c.args.head.now c.args.tree.now) none.1 read.group

pub returns-in-None-clause-pair : goal.returns-in-None-clause-pair
returns-in-None-clause-pair g c list read =
    let none = read_nothing c.args.head.now _ list read c.in-None.is in
    subst (λ (all : List Made). IsPairIfStayed g.G.Signer c.args.signer.now c.args.head.now.depth c.args.head.now.spi all None) (sym none.0)
    (no_pair g.G.Signer c.args.signer.now c.args.head.now.depth c.args.head.now.spi)
