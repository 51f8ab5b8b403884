-- The IV of a message is the last block of the one before it, which has a block at least.
use Rattle.std.proofs.Common.{◌≡◌, ◌≤◌, ◌-◌, ℕ, List, Result, Ok, Err, inl, inr, length, length-drop, sym, subst, arith}
use Rattle.group_terms.specs.declared.paths.Keyed.{Keyed}
use Rattle.group_terms.specs.declared.phases.Phase1.{Phase1}
use Rattle.pull_msgs.specs.declared.faults.PullFault.{PullFault}
use Rattle.pull_msgs.specs.declared.messages.Second.{Second}
use Rattle.pull_msgs.specs.Fits.{PhaseFits}
use Rattle.pull_msgs.specs.Texts.{IsPullText, next_iv, third_message}
use Rattle.member_pull.specs.declared.pulls.Step.{Step}
use Rattle.member_pull.specs.declared.pulls.Step.TheVariants as steps
use Rattle.member_pull.specs.declared.refusals.PullRefusal.{PullRefusal}
use Rattle.member_pull.specs.Fits.{PullFits}
use Rattle.member_pull.specs.Pulls.{AfterFourth, AfterSecond, AtFourth, AtSecond, IsRefused}
use Rattle.member_pull.specs.Views.{Pull}
use Rattle.member_pull.proofs.laws.a_pull_always_fits.Goals as goal

next_iv_long : (datagram : List ℕ) → 16 ≤ length datagram → length (next_iv datagram) ≡ 16
next_iv_long datagram enough = omega (arith, length-drop (length datagram - 16) datagram)

pub returns-clause-begun : goal.returns-clause-begun
returns-clause-begun c phase message ni group datagram pull phase_fits message_long is =
    let long = c.written_messages_have_their_size.ensures.first phase message _ ni group datagram phase_fits message_long is.is_text in
    subst PullFits (sym is.waits) (record { phase = phase_fits; message = message_long; iv = next_iv_long datagram (omega (arith, long)) })

-- a refusal leaves the pull as it was
stays : (A : Type 0) (old new : Pull) (why : PullRefusal) (result : Result A PullRefusal) → PullFits old → IsRefused A old why result new → PullFits new
stays A old new why result fits refused = subst PullFits (sym refused.stays) fits

-- a third message has a block
abbrev HasBlock : Type 0
HasBlock = (phase : Phase1) (message iv ni nr datagram : List ℕ) → PhaseFits phase → length message ≡ 4
    → IsPullText phase iv (third_message message ni nr) datagram → length datagram ≡ 76

module _ (sized : HasBlock) (old new : Pull) (result : Result (List ℕ) PullRefusal) (fits : PullFits old) where
  after_second : (answer : Result Second PullFault) → AfterSecond old answer result new → PullFits new
  after_second (Ok second) after =
      elim after [
        | inl refused ↦ stays _ old new _ result fits refused
        | inr agrees ↦
            let long = sized old.phase old.message second.next_iv old.ni second.nr agrees.third fits.phase fits.message agrees.is_text in
            subst PullFits (sym agrees.waits)
            (record { phase = fits.phase; message = fits.message; iv = next_iv_long agrees.third (omega (arith, long)) })
      ]
  after_second (Err fault) after = stays _ old new _ result fits after

  at_second : (datagram : List ℕ) (step : Step) → AtSecond step old datagram result new → PullFits new
  at_second datagram (steps.Second iv) is = after_second is.answer is.after
  at_second datagram (steps.Fourth iv nr spi) is = stays _ old new _ result fits is
  at_second datagram steps.Ended is = stays _ old new _ result fits is

pub returns-clause-second : goal.returns-clause-second
returns-clause-second c old new datagram result fits is =
    at_second c.written_messages_have_their_size.ensures.third old new result fits datagram old.step is

module _ (old new : Pull) (result : Result Keyed PullRefusal) (fits : PullFits old) where
  after_fourth : (answer : Result Keyed PullFault) → AfterFourth old answer result new → PullFits new
  after_fourth (Ok keyed) after = subst PullFits (sym after.ended) (record { phase = fits.phase; message = fits.message; iv = tt })
  after_fourth (Err fault) after = stays _ old new _ result fits after

  at_fourth : (datagram : List ℕ) (step : Step) → AtFourth step old datagram result new → PullFits new
  at_fourth datagram (steps.Second iv) is = stays _ old new _ result fits is
  at_fourth datagram (steps.Fourth iv nr spi) is = after_fourth is.answer is.after
  at_fourth datagram steps.Ended is = stays _ old new _ result fits is

pub returns-clause-fourth : goal.returns-clause-fourth
returns-clause-fourth c old new datagram result fits is = at_fourth old new result fits datagram old.step is
