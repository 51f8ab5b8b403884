-- How many keys batches encrypt in trees of depth 1 and 2: a definition that counts otherwise does not check here.
use Rattle.std.proofs.Common.{◌≡◌, List, [], ◌∷◌, length, refl, arith}
use Rattle.std.specs.Prelude.{codes}
use Rattle.group_terms.specs.declared.changes.Change.{Change}
use Rattle.group_terms.specs.declared.changes.Change.TheVariants.{Out, In}
use Rattle.group_model.specs.Places.{Fits, holders_after, no_holders}
use Rattle.rekey_plan.specs.WrapCounts.{IsRemovalFromFull, most_wraps}
use Rattle.group_model.specs.Wraps.{node_wraps, wraps_at}

abbrev two_come : List Change
two_come = In (codes "a") ∷ In (codes "b") ∷ []

abbrev four_come : List Change
four_come = In (codes "a") ∷ In (codes "b") ∷ In (codes "c") ∷ In (codes "d") ∷ []

one_goes_of_two : length (node_wraps 1 (two_come ∷ (Out (codes "b") ∷ []) ∷ []) 2) ≡ 1
unfolding holders_after
one_goes_of_two = refl

one_goes_of_four : length (node_wraps 2 (four_come ∷ (Out (codes "b") ∷ []) ∷ []) 2) ≡ 3
unfolding holders_after
one_goes_of_four = refl

with_the_traffic_key : length (wraps_at 2 (four_come ∷ (Out (codes "d") ∷ []) ∷ []) 2) ≡ 4
unfolding holders_after wraps_at
with_the_traffic_key = refl

-- two from different halves, then two of one half
two_go_of_four : length (wraps_at 2 (four_come ∷ (Out (codes "a") ∷ Out (codes "c") ∷ []) ∷ []) 2) ≡ 5
unfolding holders_after wraps_at
two_go_of_four = refl

half_goes : length (wraps_at 2 (four_come ∷ (Out (codes "a") ∷ Out (codes "b") ∷ []) ∷ []) 2) ≡ 2
unfolding holders_after wraps_at
half_goes = refl

-- a batch without a change sends as many as are allowed to it
no_change : length (wraps_at 2 (four_come ∷ [] ∷ []) 2) ≡ most_wraps 2 0
unfolding holders_after wraps_at
no_change = refl

none_comes_first : length (wraps_at 2 (four_come ∷ []) 1) ≡ 0
unfolding holders_after wraps_at
none_comes_first = refl

four_fit : Fits (no_holders 2) four_come
four_fit = record { from_members = refl; from_strangers = refl; once = refl; room = omega arith }

-- the premise of the law on removals can be met
can_be_met : IsRemovalFromFull 2 (four_come ∷ []) (codes "c")
unfolding holders_after
can_be_met = record { some = omega arith; valid = (four_fit, tt); full = refl; member = refl }
