-- A text of octets, cut into lines octet by octet.
use Rattle.std.specs.Prelude.{ℕ, List, [], ◌∷◌, ◌++◌, if◌then◌else◌}
use Rattle.std.specs.List.{fold}
use Rattle.console_run.specs.Scripts.{ends_line}

-- octets so far: the lines that ended, and what has come of the next
pub record Cut : Type 0 where
  pub lines : List (List ℕ)
  pub rest : List ℕ

abbrev pub cut_more : Cut → ℕ → Cut
cut_more cut octet =
    if ends_line octet
    then record { lines = cut.lines ++ cut.rest ∷ []; rest = [] }
    else record { lines = cut.lines; rest = cut.rest ++ octet ∷ [] }

abbrev pub cut_of : List ℕ → Cut
cut_of octets = fold cut_more (record { lines = []; rest = [] }) octets
