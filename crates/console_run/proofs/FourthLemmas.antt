-- Members that read what is on its way do not pass over a fourth message whose pull is in step with the session that keeps it.
use Rattle.std.proofs.Common.{◌≡◌, ◌∙◌, ap, inl, inr, refl, subst, sym, ℕ, zero, suc, true, false, Bool, List, Option, None, Some}
use Rattle.std.specs.Prelude.{MatchBool}
use Rattle.group_terms.specs.Names.{Name}
use Rattle.group_model.specs.declared.entries.Answer.{Answer}
use Rattle.group_model.specs.declared.entries.Asked.TheVariants.{Keep}
use Rattle.group_model.specs.declared.entries.Entry.{Entry}
use Rattle.group_model.specs.declared.entries.SymReply.{SymReply}
use Rattle.group_peers.specs.declared.members.Peer.{Peer}
use Rattle.group_run.specs.Reads.{Ask, AsksAt, AsksBy, AsksFor, AsksOf, ReadsMail}
use Rattle.group_steps.specs.Devices.{Devices, Keying}
use Rattle.group_steps.specs.Moments.{MomentsEndHistories}
use Rattle.group_steps.specs.Runs.{Outset, Run, no_run}
use Rattle.group_steps.specs.Steps.{IsHistory}
use Rattle.member_pull.specs.Views.{Pull}
use Rattle.member_pull.specs.declared.pulls.Step.{Step}
use Rattle.member_pull.specs.declared.pulls.Step.TheVariants as steps
use Rattle.member_steps.specs.Acts.{Ignore, IsIgnoring}
use Rattle.member_steps.specs.Members.{Mail, Members}
use Rattle.member_steps.specs.Steps.{IsKeeping}
use Rattle.law_store_steps.specs.Fourths.{GetsOwnFourth, OwnFourthsAreTaken}
use Rattle.console_run.specs.OwnFourths.{TakesOwnFourths}

only : {X : Type 0} {a b : X} → Some a ≡ Some b → a ≡ b
only e = cc

either_way : (b : Bool) (P Q R : Type 0) → MatchBool b P Q → (P → R) → (Q → R) → R
either_way true P Q R given first second = first given
either_way false P Q R given first second = second given

module _ {D : Type 0} (mid : Run D) (acted : Members) (m : Name) (says : SymReply) (gets : GetsOwnFourth mid acted m says)
    (not_ignored : (other : Members) → IsIgnoring acted other → ⊥) where
  none_ignored : (n : ℕ) (read : Members) → Ignore n acted read → read ≡ acted
  none_ignored zero read is = is
  none_ignored (suc n) read is = absurd (not_ignored is.0 is.1)

  by_step : (step : Step) (next : Option Ask) → step ≡ steps.Fourth gets.session.iv gets.session.nr mid.host.head.spi → AsksAt step m acted next
      → next ≡ Some (Keep m, acted)
  by_step (steps.Second iv) next is asks = absurd (cc (is))
  by_step (steps.Fourth iv nr spi) next is asks = asks.3
  by_step steps.Ended next is asks = absurd asks

  by_pull : (pull : Option Pull) (next : Option Ask) → pull ≡ Some gets.pull → AsksBy pull m acted next → next ≡ Some (Keep m, acted)
  by_pull None next is asks = absurd asks
  by_pull (Some pull) next is asks = by_step pull.step next (ap (λ (pull : Pull). pull.step) (only is) ∙ gets.in_step.awaits) asks

  by_peer : (next : Option Ask) → AsksFor m acted next → next ≡ Some (Keep m, acted)
  by_peer next asks =
      let same : asks.peer ≡ gets.peer = only (sym asks.is_there ∙ gets.is_there) in
      either_way asks.peer.loses (next ≡ Some (Keep m, acted)) (AsksBy asks.peer.pull m acted next) (next ≡ Some (Keep m, acted)) asks.is (λ asked. asked)
      (by_pull asks.peer.pull next (ap (λ (peer : Peer). peer.pull) same ∙ gets.pulls))

  keeps_next : (next : Option Ask) → ReadsMail acted next → next ≡ Some (Keep m, acted)
  keeps_next next reads =
      let same : reads.0 ≡ acted = none_ignored reads.1.0 reads.0 reads.1.1 in
      by_peer next (subst (λ mail. AsksOf mail acted next) gets.is_first (subst (λ (read : Members). AsksOf read.mail read next) same reads.2))

  -- that the member is asked to keep it
  abbrev keeping : Option Ask
  keeping = Some (Keep m, acted)

  -- by whether it goes missing
  abbrev Asks : Bool → Type 0
  Asks loses = MatchBool loses (keeping ≡ Some (Keep m, acted)) (AsksBy gets.peer.pull m acted keeping)

  -- it is read where it can be kept
  reads_it : (answer : Answer) (after : Members) → IsKeeping m acted answer after → ReadsMail acted (Some (Keep m, acted))
  reads_it answer after keeps =
      let asks : AsksFor m acted keeping = record { peer = gets.peer; is_there = gets.is_there; is = by_kind keeps } in
      (acted, (zero, refl), subst (λ (mail : List Mail). AsksOf mail acted keeping) (sym gets.is_first) asks)
    where
      by_kind : IsKeeping m acted answer after → Asks gets.peer.loses
      by_kind (inl goes) =
          subst Asks (sym (ap (λ (peer : Peer). peer.loses) (only (sym gets.is_there ∙ goes.is_there)) ∙ goes.loses)) refl
      by_kind (inr fourth) =
          subst Asks (sym (ap (λ (peer : Peer). peer.loses) (only (sym gets.is_there ∙ fourth.gets.is_there)) ∙ fourth.gets.comes))
          (subst (λ (pull : Option Pull). AsksBy pull m acted keeping) (sym gets.pulls)
          (subst (λ (step : Step). AsksAt step m acted keeping) (sym gets.in_step.awaits) (answer, after, fourth, refl)))

module _ {D G V : Type 0} (on : Devices D G V) (by : Keying G) (ends : MomentsEndHistories on by) (outset : Outset D) (entries : List Entry) (after : Run D)
    (history : IsHistory on by (no_run outset) entries after) where
  pub takes_own_fourths : OwnFourthsAreTaken on by → TakesOwnFourths on by (no_run outset) entries after
  takes_own_fourths law front mid acted m says gets moment acts =
      let takes = law outset front mid acted m says gets (ends (no_run outset) entries after front mid history moment) acts in
      let kept = takes.can_be_kept in
      (reads_it mid acted m says gets takes.not_ignored kept.0 kept.1 kept.2, keeps_next mid acted m says gets takes.not_ignored, takes)
