-- What goes on to hold of each peer, whatever is asked.
use Rattle.std.proofs.Common.{◌≡◌, refl, subst, sym, inl, inr, ℕ, List, Option, None, Some}
use Rattle.std.specs.Prelude.{Result}
use Rattle.std.specs.List.{All}
use Rattle.gd_edges.specs.declared.verifiers.Verifier.{Ghosts as VerifierGhosts}
use Rattle.group_terms.specs.Names.{Name}
use Rattle.group_terms.specs.declared.paths.Keyed.{Keyed}
use Rattle.group_terms.specs.declared.pushes.PushRefusal.{PushRefusal}
use Rattle.group_model.specs.declared.entries.Answer.{Answer}
use Rattle.group_model.specs.declared.entries.Asked.{Asked}
use Rattle.group_model.specs.declared.entries.Asked.TheVariants.{Again, Begin, Create, Deliver, Derive, Keep, Key, Lose, Now, Together, Together2}
use Rattle.group_model.specs.declared.entries.Entry.{Entry}
use Rattle.group_model.specs.declared.entries.Outside.{Outside}
use Rattle.group_peers.specs.declared.members.Peer.{Peer}
use Rattle.member_store.specs.declared.answers.Taken.{Taken}
use Rattle.member_store.specs.Steps.{IsAcceptance}
use Rattle.member_store.specs.Stores.{Store, is_older, store_of as store_made}
use Rattle.server_steps.specs.Sent.{SentPush}
use Rattle.member_steps.specs.Members.{Members}
use Rattle.member_steps.specs.Steps.{Gets, Gives, IsDelivery, IsKeeping, IsOld, TakesFourth, TakesReply}
use Rattle.group_steps.specs.Devices.{Devices, Keying}
use Rattle.group_steps.specs.Runs.{Run}
use Rattle.group_steps.specs.Steps.{IsAnswered, push_sent}
use Rattle.law_store_steps.proofs.ActLemmas.{IsKept, all_get, all_losing, all_missing, either_case, same_all}
use Rattle.law_store_steps.proofs.PeerLemmas.{all_changed, all_put, there}
use Rattle.law_store_steps.proofs.SentLemmas.{datagram_in}

module _ (Q : Peer → Type 0) (kept : IsKept Q) where
  -- ---- what a member is told

  module _ (m : Name) (keyed : Keyed) (members : Members) (answer : Answer) (next : Members) (all : All Q members.all)
      (has : (peer : Peer) → m ≡ peer.phase.member → Q peer → Q (record peer { store = Some (store_made keyed) })) where
    all_gets : Gets m keyed members answer next → All Q next.all
    all_gets gets = same_all Q kept next _ gets.now (all_changed Q _ members.all m has all)

    all_reply : (had : Option Store) → TakesReply had m keyed members answer next → All Q next.all
    all_reply None takes = all_gets takes
    all_reply (Some store) takes =
        either_case (is_older store keyed) (IsOld store keyed members answer next) (Gets m keyed members answer next) (All Q next.all) takes
        (λ old. same_all Q kept next members old.stays all) all_gets

  pub all_kept : (m : Name) (members : Members) (answer : Answer) (next : Members) → All Q members.all
      → ((fourth : TakesFourth m members answer next) (peer : Peer) → m ≡ peer.phase.member → Q peer
      → Q (record peer { store = Some (store_made fourth.keyed) }))
      → IsKeeping m members answer next → All Q next.all
  all_kept m members answer next all has (inl missing) = all_missing Q kept m members answer next all missing
  all_kept m members answer next all has (inr fourth) =
      let after = kept.told fourth.datagram fourth.keyed fourth.peer fourth.after fourth.told (there Q members.all m fourth.peer all fourth.gets.is_there) in
      all_reply m fourth.keyed _ answer next (all_put Q members.all fourth.after after all) (has fourth) fourth.peer.store fourth.takes

  -- ---- what it is given

  module _ {V : Type 0} (v : VerifierGhosts V) (verifier : V) (m : Name) (members : Members) (answer : Answer) (next : Members) where
    pub all_delivered : (had : Option Store) (push : Option SentPush) → All Q members.all
        → ((store : Store) (push_given : SentPush) (now : Store) (result : Result Taken PushRefusal) → had ≡ Some store → push ≡ Some push_given
        → IsAcceptance v verifier store push_given.datagram result now → (peer : Peer) → m ≡ peer.phase.member → Q peer
        → Q (record peer { store = Some now }))
        → Gives v verifier had (datagram_in push) m members answer next → All Q next.all
    all_delivered (Some store) (Some push) all has given =
        same_all Q kept next _ given.after (all_changed Q _ members.all m (has store push given.now given.result refl refl given.accepts) all)
    all_delivered (Some store) None all has given = same_all Q kept next members given.1 all
    all_delivered None push all has given = same_all Q kept next members given.1 all

  -- ---- whatever is asked

  module _ {D G V : Type 0} (on : Devices D G V) (by : Keying G) (before : List Entry) (run : Run D) (answer : Answer) (outside : Outside) (next : Run D)
      (told : (m : Name) → All Q run.members.all → IsKeeping m run.members answer next.members → All Q next.members.all)
      (given : (m : Name) (number : ℕ) → All Q run.members.all
      → IsDelivery on.verifiers on.verifier m (push_sent before number) run.members answer next.members → All Q next.members.all)
      (all : All Q run.members.all) where
    pub all_answered : (asked : Asked) → IsAnswered on by before asked run answer outside next → All Q next.members.all
    all_answered (Create depth) step = same_all Q kept next.members run.members step.stay all
    all_answered Begin step = same_all Q kept next.members run.members step.stay all
    all_answered (Lose m) step = all_losing Q kept m run.members answer next.members all step.acted
    all_answered (Again m) step = same_all Q kept next.members run.members step.acted.stays all
    all_answered (Keep m) step = told m all step.acted
    all_answered (Deliver m number) step = given m number all step.acted
    all_answered (Key m) step = same_all Q kept next.members run.members step.acted.1 all
    all_answered (Derive epoch members) step = subst (λ (given : Run D). All Q given.members.all) (sym step.stays) all
    all_answered Now step = subst (λ (given : Run D). All Q given.members.all) (sym step.stays) all
    all_answered (Together lines) step = subst (λ (given : Run D). All Q given.members.all) (sym step.stays) all
    all_answered Together2 step = subst (λ (given : Run D). All Q given.members.all) (sym step.stays) all
    all_answered asked step = same_all Q kept next.members _ step.gets (all_get Q kept asked answer run.members all)
