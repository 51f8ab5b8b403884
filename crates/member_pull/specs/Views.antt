-- A member's pull as its callers see it.
use Rattle.std.specs.Prelude.{ℕ, List}
use Rattle.group_terms.specs.declared.phases.Phase1.{Phase1}
use Rattle.member_pull.specs.declared.pulls.Step.{Step}

-- the phase 1 SA, the message id, the member's nonce, and what is awaited
pub record Pull : Type 0 where
  pub phase : Phase1
  pub message : List ℕ
  pub ni : List ℕ
  pub step : Step
