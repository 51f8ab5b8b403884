-- How the report of what a line gave breaks off.
use Rattle.std.specs.Prelude.{◌≡◌, ◌⊎◌, ℕ, List, [], ◌∷◌, ◌++◌}
use Rattle.gd_edges.specs.Shown.{Shown}
use Rattle.group_model.specs.declared.entries.Asked.TheVariants.{Together}
use Rattle.group_model.specs.declared.entries.Entry.{Entry}
use Rattle.run_report.specs.Reports.{ReportBreaksOff}
use Rattle.run_report.specs.declared.endings.Ending.{Ending}

-- entries that a block gave: the first one is its mark
pub record AreOfBlock (entries : List Entry) : Type 0 where
  pub first : Entry
  pub others : List Entry
  pub parts : entries ≡ first ∷ others
  pub lines : ℕ
  pub asked : first.asked ≡ Together lines

-- The report broke off in the last of these entries, and nothing was asked after it. The entries of a block were reported once it was done or had stopped short, so
-- that it may have broken off in any of them.
pub record LineBreaksOff (ending : Ending) (was now : Shown) (entries : List Entry) : Type 0 where
  pub told : List Entry
  pub untold : List Entry
  pub parts : entries ≡ told ++ untold
  pub breaks : ReportBreaksOff ending was now told
  pub block : (untold ≡ []) ⊎ AreOfBlock entries
