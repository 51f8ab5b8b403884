-- What the values of a pull fit.
use Rattle.std.specs.Prelude.{◌≡◌, length}
use Rattle.pull_msgs.specs.Fits.{PhaseFits}
use Rattle.member_pull.specs.declared.pulls.Step.{Step}
use Rattle.member_pull.specs.declared.pulls.Step.TheVariants as steps
use Rattle.member_pull.specs.Views.{Pull}

-- the IV of the message that is awaited has one block
abbrev pub IvFits : Step → Type 0
IvFits (steps.Second iv) = length iv ≡ 16
IvFits (steps.Fourth iv nr spi) = length iv ≡ 16
IvFits steps.Ended = Unit {0}

-- a pull can write and read messages: its cookies, its key, its message id and its IV have as many octets as are due
pub record PullFits (pull : Pull) : Type 0 where
  pub phase : PhaseFits pull.phase
  pub message : length pull.message ≡ 4
  pub iv : IvFits pull.step
