-- Lists in which nothing stands twice, and lists whose items are in others.
use Rattle.std.specs.Prelude.{◌≡◌, ◌⊎◌, List, [], ◌∷◌, ◌++◌, Contains}

-- the items of a list that are not among those seen, each once, in the order in which they come first
abbrev pub AreFirsts : {X : Type 0} → List X → List X → List X → Type 0
AreFirsts seen [] firsts = firsts ≡ []
AreFirsts {X} seen (item ∷ items) firsts =
    (Contains seen item × AreFirsts seen items firsts)
    ⊎ ((Contains seen item → ⊥) × ((others : List X) × (firsts ≡ item ∷ others) × AreFirsts (seen ++ item ∷ []) items others))

-- each item of a list is in another one
abbrev pub AreAmong : {X : Type 0} → List X → List X → Type 0
AreAmong {X} items others = (item : X) → Contains items item → Contains others item

-- two lists have the same items
abbrev pub HasSame : {X : Type 0} → List X → List X → Type 0
HasSame items others = AreAmong items others × AreAmong others items
