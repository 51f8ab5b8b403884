-- The keys that a pull took are the answer of the reader, where the pull awaited a fourth message.
use Rattle.std.proofs.Common.{◌≡◌, ℕ, List, Result, Ok, Err, refl, ap, sym, subst}
use Rattle.group_terms.specs.declared.paths.Keyed.{Keyed}
use Rattle.pull_msgs.specs.declared.faults.PullFault.{PullFault}
use Rattle.pull_msgs.specs.Pulls.{IsAnswer, fourth_awaited}
use Rattle.member_pull.specs.declared.pulls.Step.{Step}
use Rattle.member_pull.specs.declared.pulls.Step.TheVariants as steps
use Rattle.member_pull.specs.declared.refusals.PullRefusal.{PullRefusal}
use Rattle.member_pull.specs.Pulls.{AfterFourth, AtFourth, IsFourth}
use Rattle.member_pull.specs.Views.{Pull}

-- the step at which the pull was, and the reader's answer for keys that were taken
pub record ReadsFourth (pull : Pull) (datagram : List ℕ) (taken : Keyed) : Type 0 where
  pub iv : List ℕ
  pub nr : List ℕ
  pub spi : List ℕ
  pub at : pull.step ≡ steps.Fourth iv nr spi
  pub answer : IsAnswer pull.phase (fourth_awaited pull.message iv pull.ni nr spi) datagram (Ok taken)

given : (one other : Keyed) → (let result : Result Keyed PullRefusal = Ok one in result ≡ Ok other) → one ≡ other
given one other is = cc

module _ (old new : Pull) (datagram : List ℕ) (taken : Keyed) where
  same_keys : (answer : Result Keyed PullFault) → AfterFourth old answer (Ok taken) new → answer ≡ Ok taken
  same_keys (Ok keyed) after = ap Ok (sym (given taken keyed after.gives))
  same_keys (Err fault) after = let refusal = after.is in absurd (cc)

  at_step : (step : Step) → old.step ≡ step → AtFourth step old datagram (Ok taken) new → ReadsFourth old datagram taken
  at_step (steps.Second iv) at is = let refusal = is.is in absurd (cc)
  at_step (steps.Fourth iv nr spi) at is = record {
    iv = iv;
    nr = nr;
    spi = spi;
    at = at;
    answer = subst (IsAnswer old.phase (fourth_awaited old.message iv old.ni nr spi) datagram) (same_keys is.answer is.after) is.is_answer;
  }
  at_step steps.Ended at is = let refusal = is.is in absurd (cc)

  pub reads_fourth : IsFourth old datagram (Ok taken) new → ReadsFourth old datagram taken
  reads_fourth is = at_step old.step refl is
