use Rattle.group_model.proofs.laws.laws_hold.Goals as goal

pub returns : goal.returns
returns c = record {
  each_leaf = c.each_leaf_has_its_place.ensures;
  holders_stay = c.first_epochs_stay.ensures.holders;
  last_changes_stay = c.first_epochs_stay.ensures.last_changes;
  places_held = c.places_are_held.ensures;
  no_leaf_shared = c.members_never_share_a_leaf.ensures;
  no_two_leaves = c.no_name_has_two_leaves.ensures;
  places_stay = c.places_stay_while_members_stay.ensures;
  who_is_member = c.a_batch_says_who_is_a_member.ensures;
  two_numbers = c.a_batch_that_wraps_uses_two_numbers.ensures;
  drawn_rise = c.drawn_positions_rise.ensures;
  no_change_fits = c.a_batch_that_fits_has_few_changes.ensures.none;
  leavers_few = c.a_batch_that_fits_has_few_changes.ensures.leavers;
  changes_few = c.a_batch_that_fits_has_few_changes.ensures.changes;
  joins_fit = c.granted_changes_fit.ensures.joins;
  leaves_fit = c.granted_changes_fit.ensures.leaves;
}
