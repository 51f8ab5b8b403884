-- Leaves whose holder did not change. In a valid list these are the leaves of those who stayed.
use Rattle.std.specs.Prelude.{◌&&◌, Bool, List, map, is_some}
use Rattle.std.specs.List.{zip}
use Rattle.tree_leaves.specs.Places.{Holders}
use Rattle.tree_leaves.specs.Fresh.{is_same_holder}

-- for each leaf, whether somebody has it who had it before
abbrev pub unchanged_holders : Holders → Holders → List Bool
unchanged_holders before after = map (λ holder. is_some holder.1 && is_same_holder holder.0 holder.1) (zip before after)
