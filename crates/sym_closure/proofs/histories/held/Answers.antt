use Rattle.std.proofs.Common.{[], map, sym, subst}
use Rattle.std.proofs.lemmas.List.{take_all}
use Rattle.group_terms.specs.declared.keys.KeyName.TheVariants.{Phase}
use Rattle.group_model.specs.declared.entries.Entry.{Entry}
use Rattle.group_model.specs.Derivations.{names_to, replies_in, held_names}
use Rattle.std.specs.List.{flat_map}
use Rattle.sym_closure.specs.Firsts.{HasSame}
use Rattle.sym_closure.specs.Private.Gains.{Gains}
use Rattle.sym_closure.proofs.FirstLemmas.{Gains-next, Gains-next_one, HasSame-gained}
use Rattle.sym_closure.proofs.histories.held.Goals as goal

pub loop-member-preserved : goal.loop-member-preserved
loop-member-preserved c =
    Gains-next_one Phase [] c.loop-member.names c.add.new.self c.args.members.now c.loop-member.member-index c.member-item.result
    c.loop-member-test.true c.member-item.is c.loop-member.invariant c.in_ok-add.ensures.gains

pub loop-entry-preserved : goal.loop-entry-preserved
loop-entry-preserved c =
    let members = c.args.members.now in
    Gains-next (λ (entry : Entry). flat_map (names_to members) (replies_in entry.answer)) [] c.loop-entry.names c.add_told.new.names (map Phase members) c.args.history.now c.loop-entry.entry-index c.entry-item.result
    c.loop-entry-test.true c.entry-item.is c.loop-entry.invariant c.in_ok-add_told.ensures

pub returns-clause-same : goal.returns-clause-same
returns-clause-same c =
    let members = c.args.members.now in
    let names = c.loop-entry.names in
    subst (HasSame (held_names c.args.history.now members)) (sym c.into_list.ensures)
    (HasSame-gained (held_names c.args.history.now members) names (subst (λ history. Gains [] (held_names history members) names) (take_all c.loop-entry.entry-index c.args.history.now c.loop-entry-test.false) c.loop-entry.invariant))
