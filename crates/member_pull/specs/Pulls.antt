-- What each step of a member's pull does (RFC 6407 section 3.2).
-- A step is a definition by the step that was (`AtSecond`, `AtFourth`), with a record for each way on, and refusals for the rest; so the search proves the
-- methods.
use Rattle.std.specs.Prelude.{◌≡◌, ◌⊎◌, ℕ, List, [], Option, Some, None, Result, Ok, Err}
use Rattle.group_terms.specs.declared.paths.Keyed.{Keyed}
use Rattle.group_terms.specs.declared.phases.Phase1.{Phase1}
use Rattle.pull_msgs.specs.declared.faults.PullFault.{PullFault}
use Rattle.pull_msgs.specs.declared.faults.PullFault.TheVariants as faults
use Rattle.pull_msgs.specs.declared.messages.Second.{Second}
use Rattle.pull_msgs.specs.Pulls.{IsAnswer, second_awaited, fourth_awaited}
use Rattle.pull_msgs.specs.Texts.{IsPullText, first_iv, next_iv, first_message, third_message}
use Rattle.sa_wire.specs.declared.policies.KekPolicy.{KekPolicy}
use Rattle.sa_wire.specs.declared.policies.SaPolicy.{SaPolicy}
use Rattle.member_pull.specs.declared.pulls.Step.{Step}
use Rattle.member_pull.specs.declared.pulls.Step.TheVariants as steps
use Rattle.member_pull.specs.declared.refusals.PullRefusal.{PullRefusal}
use Rattle.member_pull.specs.declared.refusals.PullRefusal.TheVariants as refusals
use Rattle.member_pull.specs.Views.{Pull}

-- a pull at another step
abbrev pub at_step : Pull → Step → Pull
at_step pull step = record { phase = pull.phase; message = pull.message; ni = pull.ni; step = step }

-- it begins with the first message, and waits for the answer
pub record IsBegun (phase : Phase1) (message ni group : List ℕ) (pull : Pull) (datagram : List ℕ) : Type 0 where
  pub is_text : IsPullText phase (first_iv phase message) (first_message message ni group) datagram
  pub waits : pull ≡ record { phase = phase; message = message; ni = ni; step = steps.Second (next_iv datagram) }

-- why a message is refused: a fault is told by its place alone
abbrev pub refusal_of : PullFault → PullRefusal
refusal_of (faults.Malformed fault) = refusals.Malformed fault.at
refusal_of (faults.BadHash carried expected) = refusals.BadHash carried expected
refusal_of faults.NoMemory = refusals.NoMemory

-- a refusal leaves the pull as it was
pub record IsRefused (A : Type 0) (old : Pull) (why : PullRefusal) (result : Result A PullRefusal) (new : Pull) : Type 0 where
  pub is : result ≡ Err why
  pub stays : new ≡ old

-- the SPI of the policy of a KEK; no octets where there is no policy
abbrev pub spi_of_kek : Option KekPolicy → List ℕ
spi_of_kek (Some kek) = kek.spi
spi_of_kek None = []

-- the SPI of the Rekey SA, by the policies that the answer of a server has
abbrev pub spi_of : SaPolicy → List ℕ
spi_of policy = spi_of_kek policy.kek

-- after an answer that is taken the member agrees, and waits for the keys of the Rekey SA that the answer named
pub record Agrees (old : Pull) (second : Second) (result : Result (List ℕ) PullRefusal) (new : Pull) : Type 0 where
  pub third : List ℕ
  pub gives : result ≡ Ok third
  pub is_text : IsPullText old.phase second.next_iv (third_message old.message old.ni second.nr) third
  pub waits : new ≡ at_step old (steps.Fourth (next_iv third) second.nr (spi_of second.policy))

-- after reading the server's answer the member agrees, unless memory runs out; a message with a fault is refused for it
abbrev pub AfterSecond : Pull → Result Second PullFault → Result (List ℕ) PullRefusal → Pull → Type 0
AfterSecond old (Ok second) result new = IsRefused (List ℕ) old refusals.NoMemory result new ⊎ Agrees old second result new
AfterSecond old (Err fault) result new = IsRefused (List ℕ) old (refusal_of fault) result new

-- the answer is read as its reader does
pub record TakesSecond (old : Pull) (iv datagram : List ℕ) (result : Result (List ℕ) PullRefusal) (new : Pull) : Type 0 where
  pub answer : Result Second PullFault
  pub is_answer : IsAnswer old.phase (second_awaited old.message iv old.ni) datagram answer
  pub after : AfterSecond old answer result new

-- it is taken where it is awaited, and else is a wrong step
abbrev pub AtSecond : Step → Pull → List ℕ → Result (List ℕ) PullRefusal → Pull → Type 0
AtSecond (steps.Second iv) old datagram result new = TakesSecond old iv datagram result new
AtSecond (steps.Fourth iv nr spi) old datagram result new = IsRefused (List ℕ) old refusals.WrongStep result new
AtSecond steps.Ended old datagram result new = IsRefused (List ℕ) old refusals.WrongStep result new

-- what a pull does with a datagram that is given to it as the server's answer, by the step at which the pull is
abbrev pub IsSecond : Pull → List ℕ → Result (List ℕ) PullRefusal → Pull → Type 0
IsSecond old datagram result new = AtSecond old.step old datagram result new

-- with its keys a member's pull has ended
pub record Ends (old : Pull) (keyed : Keyed) (result : Result Keyed PullRefusal) (new : Pull) : Type 0 where
  pub gives : result ≡ Ok keyed
  pub ended : new ≡ at_step old steps.Ended

-- after reading the server's keys the pull has ended; a message with a fault is refused for it
abbrev pub AfterFourth : Pull → Result Keyed PullFault → Result Keyed PullRefusal → Pull → Type 0
AfterFourth old (Ok keyed) result new = Ends old keyed result new
AfterFourth old (Err fault) result new = IsRefused Keyed old (refusal_of fault) result new

-- the keys are read as their reader does
pub record TakesFourth (old : Pull) (iv nr spi datagram : List ℕ) (result : Result Keyed PullRefusal) (new : Pull) : Type 0 where
  pub answer : Result Keyed PullFault
  pub is_answer : IsAnswer old.phase (fourth_awaited old.message iv old.ni nr spi) datagram answer
  pub after : AfterFourth old answer result new

-- they are taken where they are awaited, and else are a wrong step
abbrev pub AtFourth : Step → Pull → List ℕ → Result Keyed PullRefusal → Pull → Type 0
AtFourth (steps.Fourth iv nr spi) old datagram result new = TakesFourth old iv nr spi datagram result new
AtFourth (steps.Second iv) old datagram result new = IsRefused Keyed old refusals.WrongStep result new
AtFourth steps.Ended old datagram result new = IsRefused Keyed old refusals.WrongStep result new

-- what a pull does with a datagram that is given to it as the server's keys, by the step at which the pull is
abbrev pub IsFourth : Pull → List ℕ → Result Keyed PullRefusal → Pull → Type 0
IsFourth old datagram result new = AtFourth old.step old datagram result new
