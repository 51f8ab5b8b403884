-- After each history each peer's pull can read the message that it awaits: its message id is one of a pull, and the IV of a fourth message has octets.
use Rattle.std.proofs.Common.{◌≡◌, arith, refl, subst, sym, inl, inr, ℕ, ◌%◌, ◌≤◌, List, [], ◌∷◌, length, Option, Some}
use Rattle.std.specs.Prelude.{IfSome, Result, Ok, Err}
use Rattle.gd_cipher.specs.Bytes.{AreBytes}
use Rattle.group_terms.specs.declared.paths.Keyed.{Keyed}
use Rattle.group_peers.specs.Pulls as pulls
use Rattle.group_peers.specs.declared.members.Peer.{Peer}
use Rattle.pull_msgs.specs.Fits.{MessageFits, PhaseFits}
use Rattle.pull_msgs.specs.Texts.{IsPullText, Message, head_text, next_iv, plain_text, third_message}
use Rattle.pull_msgs.specs.declared.faults.PullFault.{PullFault}
use Rattle.pull_msgs.specs.declared.messages.Second.{Second}
use Rattle.member_pull.specs.Pulls.{AfterFourth, AfterSecond, AtFourth, AtSecond}
use Rattle.member_pull.specs.Views.{Pull}
use Rattle.member_pull.specs.declared.pulls.Step.{Step}
use Rattle.member_pull.specs.declared.pulls.Step.TheVariants as steps
use Rattle.member_store.specs.Stores.{Store}
use Rattle.law_store_steps.proofs.ActLemmas.{IsKept}
use Rattle.law_store_steps.proofs.OctetLemmas.{last_bytes}
use Rattle.law_store_steps.proofs.PullLemmas.{IsFit, fit_pull}

-- ---- the IV after a message

some_blocks : (text : List ℕ) → (text ≡ [] → ⊥) → length text % 16 ≡ 0 → 16 ≤ length text
some_blocks [] some whole = absurd (some refl)
some_blocks (first ∷ rest) some whole = omega (arith, whole)

iv_bytes : (pull : Pull) (iv datagram : List ℕ) (said : Message) → PhaseFits pull.phase → IsPullText pull.phase iv said datagram
    → AreBytes 16 (next_iv datagram)
iv_bytes pull iv datagram said fits is =
    subst (λ (datagram : List ℕ). AreBytes 16 (next_iv datagram)) (sym is.is_text)
    (last_bytes pull.phase.key fits.key (head_text pull.phase said) iv (plain_text pull.phase said) is.sealed
    (some_blocks (plain_text pull.phase said) (λ empty. cc empty) is.is_sealed.whole) is.is_sealed)

-- ---- a pull that can read

abbrev pub IvReads : Step → Type 0
IvReads (steps.Second iv) = Unit {0}
IvReads (steps.Fourth iv nr spi) = AreBytes 16 iv
IvReads steps.Ended = Unit {0}

pub record Reads (pull : Pull) : Type 0 where
  pub message : MessageFits pull.message
  pub iv : IvReads pull.step

reads_second : (old : Pull) (read : Result Second PullFault) (third : List ℕ) (new : Pull) → PhaseFits old.phase → Reads old
    → AfterSecond old read (Ok third) new → Reads new
reads_second old (Ok second) third new fits reads (inl refused) = absurd (cc (refused.is))
reads_second old (Ok second) third new fits reads (inr agrees) =
    subst Reads (sym agrees.waits) (record {
      message = reads.message;
      iv = iv_bytes old second.next_iv agrees.third (third_message old.message old.ni second.nr) fits agrees.is_text;
    })
reads_second old (Err fault) third new fits reads refused = absurd (cc (refused.is))

reads_agreed : (step : Step) (old : Pull) (datagram third : List ℕ) (new : Pull) → PhaseFits old.phase → Reads old
    → AtSecond step old datagram (Ok third) new → Reads new
reads_agreed (steps.Second iv) old datagram third new fits reads takes = reads_second old takes.answer third new fits reads takes.after
reads_agreed (steps.Fourth iv nr spi) old datagram third new fits reads refused = absurd (cc (refused.is))
reads_agreed steps.Ended old datagram third new fits reads refused = absurd (cc (refused.is))

reads_keys : (old : Pull) (read : Result Keyed PullFault) (keyed : Keyed) (new : Pull) → Reads old → AfterFourth old read (Ok keyed) new → Reads new
reads_keys old (Ok given) keyed new reads ends = subst Reads (sym ends.ended) (record { message = reads.message; iv = tt })
reads_keys old (Err fault) keyed new reads refused = absurd (cc (refused.is))

reads_ended : (step : Step) (old : Pull) (datagram : List ℕ) (keyed : Keyed) (new : Pull) → Reads old → AtFourth step old datagram (Ok keyed) new → Reads new
reads_ended (steps.Second iv) old datagram keyed new reads refused = absurd (cc (refused.is))
reads_ended (steps.Fourth iv nr spi) old datagram keyed new reads takes = reads_keys old takes.answer keyed new reads takes.after
reads_ended steps.Ended old datagram keyed new reads refused = absurd (cc (refused.is))

-- ---- a peer that is ready

pub record IsReady (peer : Peer) : Type 0 where
  pub fit : IsFit peer
  pub reads : IfSome peer.pull Reads

pub pull_reads : (peer : Peer) (pull : Pull) → IsReady peer → peer.pull ≡ Some pull → Reads pull
pull_reads peer pull ready has = subst (λ (had : Option Pull). IfSome had Reads) has ready.reads

module _ (fit_kept : IsKept IsFit) where
  ready_agreed : (second third : List ℕ) (peer after : Peer) → pulls.Agrees second third peer after → IsReady peer → IsReady after
  ready_agreed second third peer after agrees ready =
      let had = fit_pull peer agrees.pull ready.fit agrees.has in
      let fits = subst PhaseFits (sym had.under) ready.fit.phase in
      record {
        fit = fit_kept.agreed second third peer after agrees ready.fit;
        reads = subst (λ (one : Peer). IfSome one.pull Reads) (sym agrees.now)
            (reads_agreed agrees.pull.step agrees.pull second third agrees.after fits (pull_reads peer agrees.pull ready agrees.has) agrees.takes);
      }

  ready_told : (datagram : List ℕ) (keyed : Keyed) (peer after : Peer) → pulls.IsTold datagram keyed peer after → IsReady peer → IsReady after
  ready_told datagram keyed peer after told ready = record {
    fit = fit_kept.told datagram keyed peer after told ready.fit;
    reads = subst (λ (one : Peer). IfSome one.pull Reads) (sym told.now)
        (reads_ended told.pull.step told.pull datagram keyed told.ended (pull_reads peer told.pull ready told.has) told.takes);
  }

  pub ready_kept : IsKept IsReady
  ready_kept = record {
    fresh = λ phase fits. record { fit = fit_kept.fresh phase fits; reads = tt };
    introduced = λ peer ready. record { fit = fit_kept.introduced peer ready.fit; reads = ready.reads };
    losing = λ peer loses ready. record { fit = fit_kept.losing peer loses ready.fit; reads = ready.reads };
    begun = λ message ni group peer after message_fits begun ready. record {
      fit = fit_kept.begun message ni group peer after message_fits begun ready.fit;
      reads = subst (λ (one : Peer). IfSome one.pull Reads) (sym begun.now)
          (subst Reads (sym begun.begins.waits) (record { message = message_fits; iv = tt }));
    };
    agreed = ready_agreed;
    told = ready_told;
  }

pub any_store : (peer : Peer) (store : Store) → IsReady peer → IsReady (record peer { store = Some store })
any_store peer store ready = record { fit = record { phase = ready.fit.phase; pull = ready.fit.pull }; reads = ready.reads }
