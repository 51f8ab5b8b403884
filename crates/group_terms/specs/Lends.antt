-- What a list ends as, where a `&mut` to its items is returned.
use Rattle.std.specs.Prelude.{List as Items, ◌++◌, length, take, drop}
use Rattle.std.specs.Borrow.{Lends, Fml, RattleType, MutBor, Array}
use Rattle.group_terms.specs.contracts.lists.List.{the_row}

-- the items with others written over them from the front; a slice keeps its length, and so these are the others
abbrev pub overwritten : {A : Type 0} → Items A → Items A → Items A
overwritten old new = take (length old) (new ++ drop (length new) old)

-- once the borrow r ends, the items are those that r shows last
abbrev pub lends_items : (T : RattleType) → MutBor (Items T.Denot) → MutBor (Items T.Denot) → Fml
lends_items T list r = Lends (the_row T) (Array T 0) list r (overwritten list.now)
