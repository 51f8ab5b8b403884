-- Lists that grow by what they did not have.
use Rattle.std.specs.Prelude.{◌≡◌, List, ◌++◌}
use Rattle.sym_closure.specs.Firsts.{AreFirsts}

-- a list grew by those of the items that it did not have
abbrev pub Gains : {X : Type 0} → List X → List X → List X → Type 0
Gains {X} old items new = (firsts : List X) × (new ≡ old ++ firsts) × AreFirsts old items firsts

-- a list grew by items of which this holds
abbrev pub GrowsBy : {X : Type 0} → (List X → Type 0) → List X → List X → Type 0
GrowsBy {X} P old new = (more : List X) × (new ≡ old ++ more) × P more
