use Rattle.tree_store.proofs.GroupLemmas.{Laws}
use Rattle.tree_store.proofs.OneGroup.{one_group, not_none, one_place}
use Rattle.tree_store.proofs.laws.a_file_has_one_group.Goals as goal

pub returns-clause-one : goal.returns-clause-one
returns-clause-one c = one_group

pub returns-clause-or_none : goal.returns-clause-or_none
returns-clause-or_none c =
    let laws : Laws = record {
      next = c.a_record_is_the_next_one.ensures;
      all = c.records_are_the_next_ones.ensures;
      breaks = c.a_journal_breaks_off_further_on.ensures;
    } in
    not_none laws

pub returns-clause-place : goal.returns-clause-place
returns-clause-place c =
    let laws : Laws = record {
      next = c.a_record_is_the_next_one.ensures;
      all = c.records_are_the_next_ones.ensures;
      breaks = c.a_journal_breaks_off_further_on.ensures;
    } in
    one_place laws
