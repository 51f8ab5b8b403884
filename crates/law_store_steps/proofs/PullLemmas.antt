-- After each history each peer's pull fits, and is one under the peer's SA.
use Rattle.std.proofs.Common.{◌≡◌, ◌∙◌, ap, subst, sym, inl, inr, ℕ, List, [], length, Option, Some}
use Rattle.std.specs.Prelude.{IfSome, Result, Ok, Err}
use Rattle.std.specs.List.{All}
use Rattle.std.proofs.lemmas.List.Elements.{All-nil}
use Rattle.group_terms.specs.declared.paths.Keyed.{Keyed}
use Rattle.group_terms.specs.declared.phases.Phase1.{Phase1}
use Rattle.group_model.specs.declared.entries.Entry.{Entry}
use Rattle.group_peers.specs.Pulls as pulls
use Rattle.group_peers.specs.declared.members.Peer.{Peer}
use Rattle.pull_msgs.specs.Fits.{PhaseFits}
use Rattle.pull_msgs.specs.declared.faults.PullFault.{PullFault}
use Rattle.pull_msgs.specs.declared.messages.Second.{Second}
use Rattle.member_pull.specs.Fits.{PullFits}
use Rattle.member_pull.specs.Pulls.{AfterFourth, AfterSecond, AtFourth, AtSecond, IsBegun, IsFourth, IsSecond}
use Rattle.member_pull.specs.Views.{Pull}
use Rattle.member_pull.specs.declared.pulls.Step.{Step}
use Rattle.member_pull.specs.declared.pulls.Step.TheVariants as steps
use Rattle.member_pull.specs.declared.refusals.PullRefusal.{PullRefusal}
use Rattle.member_store.specs.Stores.{Store, store_of as store_made}
use Rattle.group_steps.specs.ChainLaws.{along_keeps}
use Rattle.group_steps.specs.Devices.{Devices, Keying}
use Rattle.group_steps.specs.Runs.{Outset, Run, no_run, with_members}
use Rattle.group_steps.specs.Steps.{IsHistory, IsRunStep}
use Rattle.law_store_steps.proofs.ActLemmas.{IsKept, all_after}
use Rattle.law_store_steps.proofs.WalkLemmas.{all_answered, all_delivered, all_kept}

-- ---- the SA of a pull

module _ (old : Pull) where
  phase_second : (read : Result Second PullFault) (result : Result (List ℕ) PullRefusal) (new : Pull) → AfterSecond old read result new
      → new.phase ≡ old.phase
  phase_second (Ok second) result new (inl refused) = ap (λ (pull : Pull). pull.phase) refused.stays
  phase_second (Ok second) result new (inr agrees) = ap (λ (pull : Pull). pull.phase) agrees.waits
  phase_second (Err fault) result new refused = ap (λ (pull : Pull). pull.phase) refused.stays

  phase_at_second : (step : Step) (datagram : List ℕ) (result : Result (List ℕ) PullRefusal) (new : Pull) → AtSecond step old datagram result new
      → new.phase ≡ old.phase
  phase_at_second (steps.Second iv) datagram result new takes = phase_second takes.answer result new takes.after
  phase_at_second (steps.Fourth iv nr spi) datagram result new refused = ap (λ (pull : Pull). pull.phase) refused.stays
  phase_at_second steps.Ended datagram result new refused = ap (λ (pull : Pull). pull.phase) refused.stays

  phase_fourth : (read : Result Keyed PullFault) (result : Result Keyed PullRefusal) (new : Pull) → AfterFourth old read result new
      → new.phase ≡ old.phase
  phase_fourth (Ok keyed) result new ends = ap (λ (pull : Pull). pull.phase) ends.ended
  phase_fourth (Err fault) result new refused = ap (λ (pull : Pull). pull.phase) refused.stays

  phase_at_fourth : (step : Step) (datagram : List ℕ) (result : Result Keyed PullRefusal) (new : Pull) → AtFourth step old datagram result new
      → new.phase ≡ old.phase
  phase_at_fourth (steps.Fourth iv nr spi) datagram result new takes = phase_fourth takes.answer result new takes.after
  phase_at_fourth (steps.Second iv) datagram result new refused = ap (λ (pull : Pull). pull.phase) refused.stays
  phase_at_fourth steps.Ended datagram result new refused = ap (λ (pull : Pull). pull.phase) refused.stays

-- ---- a peer that fits

-- a pull fits, and is one under this SA
pub record FitsUnder (phase : Phase1) (pull : Pull) : Type 0 where
  pub fits : PullFits pull
  pub under : pull.phase ≡ phase

-- a peer's SA fits, and so does its pull, if it began one
pub record IsFit (peer : Peer) : Type 0 where
  pub phase : PhaseFits peer.phase
  pub pull : IfSome peer.pull (FitsUnder peer.phase)

-- what is known of pulls
pub record PullsFit : Type 0 where
  pub begun : (phase : Phase1) (message ni group datagram : List ℕ) (pull : Pull) → PhaseFits phase → length message ≡ 4
      → IsBegun phase message ni group pull datagram → PullFits pull
  pub second : (old new : Pull) (datagram : List ℕ) (result : Result (List ℕ) PullRefusal) → PullFits old → IsSecond old datagram result new
      → PullFits new
  pub fourth : (old new : Pull) (datagram : List ℕ) (result : Result Keyed PullRefusal) → PullFits old → IsFourth old datagram result new
      → PullFits new

-- the pull that a peer has
pub fit_pull : (peer : Peer) (pull : Pull) → IsFit peer → peer.pull ≡ Some pull → FitsUnder peer.phase pull
fit_pull peer pull fit has = subst (λ (had : Option Pull). IfSome had (FitsUnder peer.phase)) has fit.pull

module _ (laws : PullsFit) where
  fit_agreed : (second third : List ℕ) (peer after : Peer) → pulls.Agrees second third peer after → IsFit peer → IsFit after
  fit_agreed second third peer after agrees fit =
      let had = fit_pull peer agrees.pull fit agrees.has in
      subst IsFit (sym agrees.now) (record {
        phase = fit.phase;
        pull = record {
          fits = laws.second agrees.pull agrees.after second (Ok third) had.fits agrees.takes;
          under = phase_at_second agrees.pull agrees.pull.step second (Ok third) agrees.after agrees.takes ∙ had.under;
        };
      })

  fit_told : (datagram : List ℕ) (keyed : Keyed) (peer after : Peer) → pulls.IsTold datagram keyed peer after → IsFit peer → IsFit after
  fit_told datagram keyed peer after told fit =
      let had = fit_pull peer told.pull fit told.has in
      subst IsFit (sym told.now) (record {
        phase = fit.phase;
        pull = record {
          fits = laws.fourth told.pull told.ended datagram (Ok keyed) had.fits told.takes;
          under = phase_at_fourth told.pull told.pull.step datagram (Ok keyed) told.ended told.takes ∙ had.under;
        };
      })

  pub fit_kept : IsKept IsFit
  fit_kept = record {
    fresh = λ phase fits. record { phase = fits; pull = tt };
    introduced = λ peer fit. record { phase = fit.phase; pull = fit.pull };
    losing = λ peer loses fit. record { phase = fit.phase; pull = fit.pull };
    begun = λ message ni group peer after message_fits begun fit.
        subst IsFit (sym begun.now) (record {
          phase = fit.phase;
          pull = record {
            fits = laws.begun peer.phase message ni group begun.datagram begun.pull fit.phase message_fits.size begun.begins;
            under = ap (λ (pull : Pull). pull.phase) begun.begins.waits;
          };
        });
    agreed = fit_agreed;
    told = fit_told;
  }

-- ---- after each history

-- what each peer keeps, whatever store it has
module _ (Q : Peer → Type 0) (kept : IsKept Q) (any_store : (peer : Peer) (store : Store) → Q peer → Q (record peer { store = Some store })) where
  module _ {D G V : Type 0} (on : Devices D G V) (by : Keying G) where
    abbrev AreSo : List Entry → Run D → Type 0
    AreSo before run = All Q run.members.all

    step_keeps : (before : List Entry) (run : Run D) (entry : Entry) (next : Run D) → AreSo before run → IsRunStep on by before run entry next
        → AreSo before next
    step_keeps before run entry next so step =
        all_answered Q kept on by before (with_members run step.acted) entry.answer entry.outside next
        (λ m all keeping. all_kept Q kept m step.acted entry.answer next.members all (λ fourth peer named so. any_store peer (store_made fourth.keyed) so)
        keeping)
        (λ m number all given. all_delivered Q kept on.verifiers on.verifier m step.acted entry.answer next.members _ _ all
        (λ store push now result had is accepts peer named so. any_store peer now so) given)
        (all_after Q kept by.members_block by.group run.members step.acted so step.acts) entry.asked step.answered.answered

    pub each_after : (outset : Outset D) (entries : List Entry) (after : Run D) → IsHistory on by (no_run outset) entries after → All Q after.members.all
    each_after outset entries after history =
        along_keeps (IsRunStep on by) AreSo (λ before run entry next so step. step_keeps before run entry next so step) [] (no_run outset) entries after
        (All-nil Q) history.steps

module _ (laws : PullsFit) {D G V : Type 0} (on : Devices D G V) (by : Keying G) where
  pub fit_after : (outset : Outset D) (entries : List Entry) (after : Run D) → IsHistory on by (no_run outset) entries after
      → All IsFit after.members.all
  fit_after = each_after IsFit (fit_kept laws) (λ peer store fit. record { phase = fit.phase; pull = fit.pull }) on by
