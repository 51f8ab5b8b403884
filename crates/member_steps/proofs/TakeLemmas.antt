-- A member takes the keys of its fourth message.
use Rattle.std.proofs.Common.{◌≡◌, ◌∙◌, ℕ, true, false, List, ◌∷◌, Some, Ok, ap, inr, refl, subst}
use Rattle.std.specs.Prelude.{option_and_then}
use Rattle.group_terms.specs.Names.{Name}
use Rattle.group_terms.specs.declared.paths.Keyed.{Keyed}
use Rattle.group_model.specs.declared.entries.Answer.{Answer}
use Rattle.group_peers.specs.declared.members.Peer.{Peer}
use Rattle.group_peers.specs.declared.pulled.Pulled.TheVariants.{Told}
use Rattle.group_peers.specs.Peers.{is_peer, loses, peer_of, store_of}
use Rattle.group_peers.specs.Pulls.{Takes}
use Rattle.member_steps.specs.Members.{Mail}
use Rattle.member_steps.specs.Steps.{IsKeeping, TakesReply}
use Rattle.member_steps.specs.Views.{View, members_with}
use Rattle.member_steps.proofs.PeerLemmas.{found_is_peer, peer_put, unflagged}

module _ (all next : List Peer) (m : Name) (datagram : List ℕ) (keyed : Keyed) (takes : Takes all m datagram (Ok (Told keyed)) next) where
  -- the peer is there, with its pull ended
  still_there : peer_of next m ≡ Some takes.after
  still_there =
      ap (λ peers. peer_of peers m) takes.now
      ∙ peer_put all m takes.after takes.peer takes.is_there (ap (λ (peer : Peer). peer.phase) takes.takes.now)

  pub still_peer : is_peer next m ≡ true
  still_peer = found_is_peer next m takes.after still_there

  -- and has the store that it had
  same_store : store_of next m ≡ takes.peer.store
  same_store = ap (option_and_then (λ (peer : Peer). peer.store)) still_there ∙ ap (λ (peer : Peer). peer.store) takes.takes.now

-- it comes, and the member takes the keys
pub takes_keys : (old mid new : View) (m : Name) (datagram : List ℕ) (keyed : Keyed) (answer : Answer) → loses old.all m ≡ false → mid.place ≡ old.place
    → Takes old.all m datagram (Ok (Told keyed)) mid.all
    → ((mail : List Mail) → TakesReply (store_of mid.all m) m keyed (members_with mid mail) answer (members_with new mail))
    → (later : List Mail) → IsKeeping m (members_with old ((m, datagram) ∷ later)) answer (members_with new later)
takes_keys old mid new m datagram keyed answer comes place takes reply later = inr (record {
  datagram = datagram;
  later = later;
  peer = takes.peer;
  gets = record {
    is_first = refl;
    is_there = takes.is_there;
    comes = unflagged (λ (peer : Peer). peer.loses) (peer_of old.all m) takes.peer false takes.is_there comes;
  };
  keyed = keyed;
  after = takes.after;
  told = takes.takes;
  takes = subst (λ members. TakesReply takes.peer.store m keyed members answer (members_with new later))
      (λ j. record { all = takes.now j; mail = later; place = place j })
      (subst (λ store. TakesReply store m keyed (members_with mid later) answer (members_with new later))
      (same_store old.all mid.all m datagram keyed takes) (reply later));
})
