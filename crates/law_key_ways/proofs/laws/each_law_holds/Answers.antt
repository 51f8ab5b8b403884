use Rattle.law_key_ways.proofs.laws.each_law_holds.Goals as goal

pub returns : goal.returns
returns c = record {
  go_up = c.an_encryption_goes_one_step_up.ensures;
  are_few = c.encryptions_are_few.ensures;
  root_given = c.the_root_is_given.ensures;
  leaves = c.a_place_is_a_leaf.ensures;
  has_place = c.each_member_has_a_place.ensures;
  at_root = c.a_way_leads_up_to_the_root.ensures.root;
  parent_above = c.a_way_leads_up_to_the_root.ensures.parent;
  leaf_kept = c.who_stays_keeps_its_leaf.ensures;
  way_given = c.who_stays_is_given_its_way.ensures;
  way_new = c.who_leaves_has_a_new_way.ensures;
  kept_below = c.holders_stay_below_what_is_kept.ensures;
}
