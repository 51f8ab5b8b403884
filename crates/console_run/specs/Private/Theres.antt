-- Values that are there.
use Rattle.std.specs.Prelude.{◌≡◌, true, Option, None, Some, is_some}
use Rattle.std.proofs.lemmas.Bool.{false≢true}

-- the one that is
abbrev pub the : {X : Type 0} (found : Option X) → is_some found ≡ true → X
the (Some x) there = x
the None there = absurd (false≢true there)
