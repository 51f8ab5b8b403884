use Rattle.std.proofs.Common.{[], sym, ◌∙◌, subst}
use Rattle.std.proofs.lemmas.List.{take_all}
use Rattle.sym_closure.specs.Firsts.{HasSame}
use Rattle.sym_closure.specs.Private.Gains.{Gains}
use Rattle.group_model.specs.declared.entries.Entry.{Entry}
use Rattle.group_model.specs.Derivations.{pairs_in, pairs_sent}
use Rattle.sym_closure.proofs.FirstLemmas.{Gains-next, HasSame-gained}
use Rattle.sym_closure.proofs.histories.sent_pairs.Goals as goal

pub loop-entry-preserved : goal.loop-entry-preserved
loop-entry-preserved c =
    let before = c.loop-entry.pairs in
    let after = c.add_all.new.self in
    let entry = c.entry-item.result in
    let sent : Gains before (pairs_in entry.answer) after =
    subst (λ items. Gains before items after) (c.as_slice.ensures ∙ c.in_ok-pairs_in.ensures) c.in_ok-add_all.ensures in
    Gains-next (λ (entry : Entry). pairs_in entry.answer) [] before after [] c.args.history.now c.loop-entry.entry-index entry
    c.loop-entry-test.true c.entry-item.is c.loop-entry.invariant sent

pub returns-clause-same : goal.returns-clause-same
returns-clause-same c =
    let pairs = c.loop-entry.pairs in
    subst (HasSame (pairs_sent c.args.history.now)) (sym c.into_list.ensures)
    (HasSame-gained (pairs_sent c.args.history.now) pairs (subst (λ history. Gains [] (pairs_sent history) pairs) (take_all c.loop-entry.entry-index c.args.history.now c.loop-entry-test.false) c.loop-entry.invariant))
