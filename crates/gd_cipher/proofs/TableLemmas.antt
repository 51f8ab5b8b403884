-- Tables of 256 entries, each the value of one function at its place.
-- The first table is compared with the rule, and the others with the first one turned, so the rule is computed once (`tables_are`).
use Rattle.std.proofs.Common.{◌≡◌, ◌<◌, ◌∙◌, ℕ, List, ap}
use Rattle.gd_cipher.specs.Private.Tables.{AreTables, table, tables_from}

-- Where the others are the first one turned, only the first has to be that of the rule.
pub tables_are : (rule : ℕ → ℕ) (p q r s : ℕ) (tables : List (List ℕ)) (first : List ℕ) → ((byte : ℕ) → byte < 256 → rule byte < 256)
    → tables ≡ tables_from first → first ≡ table rule p q r s → AreTables rule p q r s tables
tables_are rule p q r s tables first small turned is = record { small = small; are = turned ∙ ap tables_from is }
