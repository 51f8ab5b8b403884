use Rattle.group_model.proofs.PlaceLemmas.{place_found}
use Rattle.group_model.proofs.laws.places_are_held.Goals as goal

pub returns : goal.returns
returns c = place_found
