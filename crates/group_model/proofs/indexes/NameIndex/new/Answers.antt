use Rattle.std.proofs.Common.{ap}
use Rattle.std.specs.HashMap.{get}
use Rattle.std.specs.Map.{lookup}
use Rattle.group_terms.specs.Names.{same_name}
use Rattle.group_model.proofs.IndexLemmas.{nobody_found}
use Rattle.group_model.proofs.indexes.NameIndex.new.Goals as goal

pub returns : goal.returns
returns c n = nobody_found n (get same_name c.in_ok-places.places) (λ m. ap (lookup (same_name m)) c.in_ok-places.ensures.empty)
