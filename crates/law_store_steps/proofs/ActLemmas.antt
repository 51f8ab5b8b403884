-- What members keep where they act, and where they are told or given something: their SAs, their stores, and what is on its way to them.
use Rattle.std.proofs.Common.{◌≡◌, ◌∙◌, ap, arith, inl, inr, refl, subst, sym, ℕ, zero, suc, true, false, Bool, List, ◌∷◌, ◌++◌, Option, Some}
use Rattle.std.specs.Prelude.{MatchBool, option_and_then}
use Rattle.std.specs.List.{All, Contains}
use Rattle.std.specs.Option.{option_map}
use Rattle.std.proofs.lemmas.List.Elements.{All-contains, All-contains_itself, All-push}
use Rattle.group_terms.specs.Names.{Name}
use Rattle.group_terms.specs.declared.paths.Keyed.{Keyed}
use Rattle.group_terms.specs.declared.phases.Phase1.{Phase1}
use Rattle.group_model.specs.declared.entries.Answer.{Answer}
use Rattle.group_model.specs.declared.entries.Answer.TheVariants.{Done}
use Rattle.group_model.specs.declared.entries.Asked.{Asked}
use Rattle.group_model.specs.declared.entries.Asked.TheVariants.{Introduce}
use Rattle.group_peers.specs.Peers.{new_peer, peer_of, phase_of, put, store_of, was_introduced, with_loss}
use Rattle.group_peers.specs.Pulls as pulls
use Rattle.group_peers.specs.Pulls.{Begun, IsTold}
use Rattle.group_peers.specs.declared.members.Peer.{Peer}
use Rattle.member_store.specs.Stores.{Store}
use Rattle.member_steps.specs.Acts.{Acts, AreActs, IsAct}
use Rattle.member_steps.specs.Members.{Mail, Members}
use Rattle.member_steps.specs.Steps.{GoesMissing, IsLosing}
use Rattle.pull_msgs.specs.Fits.{MessageFits, PhaseFits}
use Rattle.group_steps.specs.Gets.{get, introduced_by}
use Rattle.group_steps.proofs.ActLemmas.{overtaken}
use Rattle.law_store_steps.proofs.PeerLemmas.{all_changed, all_put, seen_changed, seen_new, seen_put, still_phase, there}

-- one of two, by a test
pub either_case : (b : Bool) (P Q R : Type 0) → MatchBool b P Q → (P → R) → (Q → R) → R
either_case true P Q R given first second = first given
either_case false P Q R given first second = second given

-- ---- what stays where members act

-- who is a peer keeps its SA
abbrev pub KeepPhases : List Peer → List Peer → Type 0
KeepPhases old new = (m : Name) (phase : Phase1) → phase_of old m ≡ Some phase → phase_of new m ≡ Some phase

-- each store is what it was, and so is each SA; nothing more is on its way
pub record Stay (old new : Members) : Type 0 where
  pub stores : (m : Name) → store_of new.all m ≡ store_of old.all m
  pub phases : KeepPhases old.all new.all
  pub mail : (mail : Mail) → Contains new.mail mail → Contains old.mail mail

-- what comes after the first one is among all
one_less : (first : Mail) (later : List Mail) (mail : Mail) → Contains later mail → Contains (first ∷ later) mail
one_less first later mail is = (suc is.0, omega (arith, is.1), is.2)

pub mail_less : (all : List Mail) (first : Mail) (later : List Mail) → all ≡ first ∷ later → (mail : Mail) → Contains later mail → Contains all mail
mail_less all first later is mail has = subst (λ all. Contains all mail) (sym is) (one_less first later mail has)

abbrev store_in : Option Peer → Option Store
store_in found = option_and_then (λ (peer : Peer). peer.store) found

abbrev phase_in : Option Peer → Option Phase1
phase_in found = option_map (λ (peer : Peer). peer.phase) found

-- a peer that is put in place of who is found, with its SA and its store
pub put_stores : (peers : List Peer) (name : Name) (peer after : Peer) → peer_of peers name ≡ Some peer → after.phase ≡ peer.phase
    → after.store ≡ peer.store → (m : Name) → store_of (put peers after) m ≡ store_of peers m
put_stores peers name peer after is phase store m = seen_put store_in peers name peer after is phase store m

pub put_phases : (peers : List Peer) (name : Name) (peer after : Peer) → peer_of peers name ≡ Some peer → after.phase ≡ peer.phase
    → KeepPhases peers (put peers after)
put_phases peers name peer after is phase m had has =
    seen_put phase_in peers name peer after is phase (ap (λ (phase : Phase1). Some phase) phase) m ∙ has

-- stores do not depend on which datagrams are to go missing
pub loss_stores : (peers : List Peer) (name : Name) (loses : Bool) (m : Name) → store_of (with_loss peers name loses) m ≡ store_of peers m
loss_stores peers name loses m =
    seen_changed store_in (λ (peer : Peer). record peer { loses = loses })
    (λ peer. refl) (λ peer. refl) peers name m

loss_phases : (peers : List Peer) (name : Name) (loses : Bool) → KeepPhases peers (with_loss peers name loses)
loss_phases peers name loses m phase is =
    seen_changed phase_in (λ (peer : Peer). record peer { loses = loses }) (λ peer. refl) (λ peer. refl) peers name m ∙ is

same_stay : (old made new : Members) → new ≡ made → Stay old made → Stay old new
same_stay old made new is stay = subst (λ (given : Members). Stay old given) (sym is) stay

stay_on : (old mid new : Members) → Stay old mid → Stay mid new → Stay old new
stay_on old mid new first then = record {
  stores = λ m. then.stores m ∙ first.stores m;
  phases = λ m phase is. then.phases m phase (first.phases m phase is);
  mail = λ mail is. first.mail mail (then.mail mail is);
}

stay_none : (members : Members) → Stay members members
stay_none members = record { stores = λ m. refl; phases = λ m phase is. is; mail = λ mail is. is }

module _ (block : ℕ → List ℕ) (group : Name) where
  stay_act : (old new : Members) → IsAct block group old new → Stay old new
  stay_act old new (inl ignores) =
      same_stay old _ new ignores.now
      (record { stores = λ m. refl; phases = λ m phase is. is; mail = mail_less old.mail (ignores.m, ignores.datagram) ignores.later ignores.gets.is_first })
  stay_act old new (inr (inl agrees)) =
      let m = agrees.0 in
      let act = agrees.2 in
      let phase = ap (λ (peer : Peer). peer.phase) act.agrees.now in
      let store = ap (λ (peer : Peer). peer.store) act.agrees.now in
      same_stay old _ new act.now (record {
        stores = put_stores old.all m act.peer act.after act.gets.is_there phase store;
        phases = put_phases old.all m act.peer act.after act.gets.is_there phase;
        mail = mail_less old.mail (m, act.second) act.later act.gets.is_first;
      })
  stay_act old new (inr (inr (inl uses))) =
      same_stay old _ new uses.1.now (record {
        stores = seen_new store_in _ refl old.all;
        phases = λ m phase is. still_phase old.all _ m phase is;
        mail = λ mail is. is;
      })
  stay_act old new (inr (inr (inr (inl begins)))) =
      let m = begins.0 in
      let act = begins.1.begins in
      let phase = ap (λ (peer : Peer). peer.phase) act.begun.now in
      let store = ap (λ (peer : Peer). peer.store) act.begun.now in
      same_stay old _ new begins.1.now (record {
        stores = λ name. ap (λ peers. store_of peers name) act.now ∙ put_stores old.all m act.peer act.after act.is_there phase store name;
        phases = λ name had is. ap (λ peers. phase_of peers name) act.now ∙ put_phases old.all m act.peer act.after act.is_there phase name had is;
        mail = λ mail is. is;
      })
  stay_act old new (inr (inr (inr (inr (inl overtakes))))) =
      let were = overtaken (Contains old.mail) overtakes.passed overtakes.later overtakes.mail
      (subst (All (Contains old.mail)) overtakes.were (All-contains_itself old.mail)) in
      same_stay old _ new overtakes.now (record {
        stores = λ m. refl;
        phases = λ m phase is. is;
        mail = λ mail is. All-contains (Contains old.mail) (overtakes.mail ∷ (overtakes.passed ++ overtakes.later)) mail were is;
      })
  stay_act old new (inr (inr (inr (inr (inr changes))))) =
      same_stay old _ new changes.now (record {
        stores = loss_stores old.all changes.m changes.loses;
        phases = loss_phases old.all changes.m changes.loses;
        mail = λ mail is. is;
      })

  stay_acts : (n : ℕ) (old new : Members) → AreActs block group n old new → Stay old new
  stay_acts zero old new same = same_stay old old new same (stay_none old)
  stay_acts (suc n) old new acts = stay_on old acts.0 new (stay_act old acts.0 acts.1) (stay_acts n acts.0 new acts.2)

  pub stay : (old new : Members) → Acts block group old new → Stay old new
  stay old new acts = stay_acts acts.0 old new acts.1

-- ---- what holds of each peer

-- What holds of a new peer, and goes on to hold where a peer is introduced, is to lose a datagram or no longer is, or pulls. Stores are no part of it.
pub record IsKept (Q : Peer → Type 0) : Type 0 where
  pub fresh : (phase : Phase1) → PhaseFits phase → Q (new_peer phase)
  pub introduced : (peer : Peer) → Q peer → Q (record peer { introduced = true })
  pub losing : (peer : Peer) (loses : Bool) → Q peer → Q (record peer { loses = loses })
  pub begun : (message ni group : List ℕ) (peer after : Peer) → MessageFits message → Begun message ni group peer after → Q peer → Q after
  pub agreed : (second third : List ℕ) (peer after : Peer) → pulls.Agrees second third peer after → Q peer → Q after
  pub told : (datagram : List ℕ) (keyed : Keyed) (peer after : Peer) → IsTold datagram keyed peer after → Q peer → Q after

module _ (Q : Peer → Type 0) (kept : IsKept Q) where
  abbrev pub AllOf : Members → Type 0
  AllOf members = All Q members.all

  pub same_all : (next made : Members) → next ≡ made → AllOf made → AllOf next
  same_all next made is all = subst (λ (given : Members). AllOf given) (sym is) all

  all_act : (block : ℕ → List ℕ) (group : Name) (old new : Members) → AllOf old → IsAct block group old new → AllOf new
  all_act block group old new all (inl ignores) = same_all new _ ignores.now all
  all_act block group old new all (inr (inl agrees)) =
      let act = agrees.2 in
      same_all new _ act.now (all_put Q old.all act.after
      (kept.agreed act.second agrees.1 act.peer act.after act.agrees (there Q old.all agrees.0 act.peer all act.gets.is_there)) all)
  all_act block group old new all (inr (inr (inl uses))) =
      same_all new _ uses.1.now (All-push Q old.all _ all (kept.fresh _ uses.1.fits))
  all_act block group old new all (inr (inr (inr (inl begins)))) =
      let act = begins.1.begins in
      same_all new _ begins.1.now (subst (All Q) (sym act.now) (all_put Q old.all act.after
      (kept.begun _ _ group act.peer act.after begins.1.message_fits act.begun (there Q old.all begins.0 act.peer all act.is_there)) all))
  all_act block group old new all (inr (inr (inr (inr (inl overtakes))))) = same_all new _ overtakes.now all
  all_act block group old new all (inr (inr (inr (inr (inr changes))))) =
      same_all new _ changes.now (all_changed Q _ old.all changes.m (λ peer named holds. kept.losing peer changes.loses holds) all)

  all_acts : (block : ℕ → List ℕ) (group : Name) (n : ℕ) (old new : Members) → AllOf old → AreActs block group n old new → AllOf new
  all_acts block group zero old new all same = same_all new old same all
  all_acts block group (suc n) old new all acts = all_acts block group n acts.0 new (all_act block group old acts.0 all acts.1) acts.2

  pub all_after : (block : ℕ → List ℕ) (group : Name) (old new : Members) → AllOf old → Acts block group old new → AllOf new
  all_after block group old new all acts = all_acts block group acts.0 old new all acts.1

  -- ---- what they get from their server

  all_introduced : (answer : Answer) (m : Name) (members : Members) → AllOf members → AllOf (introduced_by answer m members)
  all_introduced Done m members all = all_changed Q _ members.all m (λ peer named holds. kept.introduced peer holds) all
  all_introduced answer m members all = all

  pub all_get : (asked : Asked) (answer : Answer) (members : Members) → AllOf members → AllOf (get asked answer members)
  all_get (Introduce phase) answer members all = all_introduced answer phase.member members all
  all_get asked answer members all = all

  -- ---- what goes missing

  all_loss : (loses : Bool) (m : Name) (members : Members) → AllOf members → All Q (with_loss members.all m loses)
  all_loss loses m members all = all_changed Q _ members.all m (λ peer named holds. kept.losing peer loses holds) all

  pub all_missing : (m : Name) (members : Members) (answer : Answer) (next : Members) → AllOf members → GoesMissing m members answer next → AllOf next
  all_missing m members answer next all missing = same_all next _ missing.now (all_loss _ m members all)

  pub all_losing : (m : Name) (members : Members) (answer : Answer) (next : Members) → AllOf members → IsLosing m members answer next → AllOf next
  all_losing m members answer next all losing =
      either_case (was_introduced members.all m) _ _ (AllOf next) losing (λ lost. same_all next _ lost.1 (all_loss true m members all))
      (λ none. same_all next members none.1 all)
