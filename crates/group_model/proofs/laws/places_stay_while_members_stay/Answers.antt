use Rattle.std.proofs.Common.{◌≡◌, add-one, sym, subst, true}
use Rattle.group_model.specs.Places.{holders_at, place_in}
use Rattle.group_model.specs.Stayed.{has_stayed}
use Rattle.group_model.proofs.PlaceLemmas.{stays_at}
use Rattle.group_model.proofs.laws.places_stay_while_members_stay.Goals as goal

pub returns : goal.returns
returns c depth epoch batches m valid early stayed =
    subst (λ next. place_in depth (holders_at depth batches next) m ≡ place_in depth (holders_at depth batches epoch) m) (sym (add-one epoch))
    (stays_at depth epoch batches m valid early (subst (λ next. has_stayed (holders_at depth batches epoch) (holders_at depth batches next) m ≡ true) (add-one epoch) stayed))
