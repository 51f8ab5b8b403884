use Rattle.std.proofs.Common.{◌≡◌, ◌⊎◌, List, ℕ, Ok, inl, inr, refl, subst, sym}
use Rattle.member_pull.specs.Pulls.{AtSecond, AtFourth, AfterSecond, AfterFourth, at_step}
use Rattle.member_pull.specs.declared.pulls.Step.TheVariants.{Ended}
use Rattle.member_pull.proofs.laws.a_pull_gives_the_keys.Goals as goal

pub returns-clause-second : goal.returns-clause-second
returns-clause-second c old new iv nr datagram policy result phase message iv_fits nr_fits policies step is taken =
    let takes = subst (λ step. AtSecond step old datagram result new) step taken in
    elim (c.a_written_message_is_read.ensures.second old.phase old.message iv old.ni nr datagram policy takes.answer phase message iv_fits nr_fits policies is
    takes.is_answer) [
      | inl none ↦ inl (subst (λ answer. AfterSecond old answer result new) none takes.after)
      | inr read ↦ subst (λ answer. AfterSecond old answer result new) read takes.after
    ]

pub returns-clause-fourth : goal.returns-clause-fourth
returns-clause-fourth c old new iv nr datagram keyed result phase message iv_fits keyed_fits step is taken =
    let takes = subst (λ step. AtFourth step old datagram result new) step taken in
    elim (c.a_written_message_is_read.ensures.fourth old.phase old.message iv old.ni nr datagram keyed takes.answer phase message iv_fits keyed_fits is
    takes.is_answer) [
      | inl none ↦ inl (subst (λ answer. AfterFourth old answer result new) none takes.after)
      | inr read ↦ inr (subst (λ answer. AfterFourth old answer result new) read takes.after)
    ]

pub returns-clause-ends : goal.returns-clause-ends
returns-clause-ends c old iv nr datagram keyed phase message iv_fits keyed_fits step is =
    subst (λ step. AtFourth step old datagram (Ok keyed) (at_step old Ended)) (sym step) (record {
      answer = Ok keyed;
      is_answer = c.a_written_message_is_read.ensures.keys old.phase old.message iv old.ni nr datagram keyed phase message iv_fits keyed_fits is;
      after = record { gives = refl; ended = refl };
    })
