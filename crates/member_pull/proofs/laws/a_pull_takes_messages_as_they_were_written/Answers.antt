-- What was taken is the answer of the reader for the step at which the pull was.
use Rattle.std.proofs.Common.{◌≡◌, ℕ, List, Result, Ok, Err, inl, inr, length, subst}
use Rattle.pull_msgs.specs.declared.faults.PullFault.{PullFault}
use Rattle.pull_msgs.specs.declared.messages.Second.{Second}
use Rattle.pull_msgs.specs.Pulls.{IsAnswer, second_awaited}
use Rattle.member_pull.specs.declared.pulls.Step.{Step}
use Rattle.member_pull.specs.declared.pulls.Step.TheVariants as steps
use Rattle.member_pull.specs.Fits.{IvFits}
use Rattle.member_pull.specs.Pulls.{AfterSecond, Agrees, AtSecond}
use Rattle.member_pull.specs.Views.{Pull}
use Rattle.member_pull.proofs.FourthLemmas.{reads_fourth}
use Rattle.member_pull.proofs.laws.a_pull_takes_messages_as_they_were_written.Goals as goal

-- the reader's answer for a second message that was taken, by which the pull agreed
record ReadsSecond (old : Pull) (datagram third : List ℕ) (new : Pull) : Type 0 where
  iv : List ℕ
  second : Second
  long : length iv ≡ 16
  answer : IsAnswer old.phase (second_awaited old.message iv old.ni) datagram (Ok second)
  agrees : Agrees old second (Ok third) new

module _ (old new : Pull) (datagram third : List ℕ) where
  reads_answer : (iv : List ℕ) (answer : Result Second PullFault) → length iv ≡ 16
      → IsAnswer old.phase (second_awaited old.message iv old.ni) datagram answer → AfterSecond old answer (Ok third) new → ReadsSecond old datagram third new
  reads_answer iv (Ok second) long answer after =
      elim after [
        | inl refused ↦ let refusal = refused.is in absurd (cc)
        | inr agrees ↦ record { iv = iv; second = second; long = long; answer = answer; agrees = agrees }
      ]
  reads_answer iv (Err fault) long answer after = let refusal = after.is in absurd (cc)

  reads_second : (step : Step) → IvFits step → AtSecond step old datagram (Ok third) new → ReadsSecond old datagram third new
  reads_second (steps.Second iv) long is = reads_answer iv is.answer long is.is_answer is.after
  reads_second (steps.Fourth iv nr spi) long is = let refusal = is.is in absurd (cc)
  reads_second steps.Ended long is = let refusal = is.is in absurd (cc)

pub returns-clause-second : goal.returns-clause-second
returns-clause-second c old new nr datagram third policy fits sent is =
    let read = reads_second old new datagram third old.step fits.iv is in
    let same = c.a_message_is_taken_as_it_was_written.ensures.second old.phase old.message read.iv old.ni nr datagram policy read.second fits.phase read.long
    sent read.answer in
    subst (λ second. Agrees old second (Ok third) new) same read.agrees

pub returns-clause-fourth : goal.returns-clause-fourth
returns-clause-fourth c old new datagram keyed taken fits sent is =
    let read = reads_fourth old new datagram taken is in
    let long = subst IvFits read.at fits.iv in
    c.a_message_is_taken_as_it_was_written.ensures.fourth old.phase old.message read.iv old.ni read.nr read.spi datagram keyed taken fits.phase long sent
    read.answer

pub returns-clause-second_as_fourth : goal.returns-clause-second_as_fourth
returns-clause-second_as_fourth c old new nr datagram policy taken fits sent is =
    let read = reads_fourth old new datagram taken is in
    let long = subst IvFits read.at fits.iv in
    c.a_message_is_taken_as_it_was_written.ensures.second_as_fourth old.phase old.message read.iv old.ni read.nr read.spi nr datagram policy taken fits.phase
    long sent read.answer

pub returns-clause-fourth_as_second : goal.returns-clause-fourth_as_second
returns-clause-fourth_as_second c old new datagram third keyed fits sent is =
    let read = reads_second old new datagram third old.step fits.iv is in
    c.a_message_is_taken_as_it_was_written.ensures.fourth_as_second old.phase old.message read.iv old.ni datagram keyed read.second fits.phase read.long sent
    read.answer
