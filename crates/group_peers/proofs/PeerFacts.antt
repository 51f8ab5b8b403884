-- What the definitions of peers tell apart: a store that is put at another peer, a loss that stays due, a third message that is not the one that is sent, and
-- something lent that does not come back.
use Rattle.std.proofs.Common.{◌≡◌, true, false, Bool, ℕ, List, [], ◌∷◌, Some, ap, refl, sym}
use Rattle.std.specs.Prelude.{codes}
use Rattle.member_store.specs.Stores.{Store}
use Rattle.group_peers.specs.Lent.{after_lending, with_back}
use Rattle.group_peers.specs.Peers.{loses, new_peer, with_loss, with_store}
use Rattle.group_peers.specs.Pulls.{Agrees}
use Rattle.group_peers.specs.declared.lent.Lent.{Lent}
use Rattle.group_peers.specs.declared.members.Peer.{Peer}

-- two peers: what is due of a loss, and the store of the second one
abbrev peer_of_name : List ℕ → Bool → Peer
peer_of_name name due = record (new_peer (record { member = name; cookies = []; skeyid_a = []; key = []; last = [] })) { loses = due }

abbrev two : Bool → Bool → List Peer
two first second = peer_of_name (codes "a") first ∷ peer_of_name (codes "b") second ∷ []

store_of_the_second : (store : Store)
    → with_store (two false false) (codes "b") store ≡ peer_of_name (codes "a") false ∷ record (peer_of_name (codes "b") false) { store = Some store } ∷ []
store_of_the_second store = refl

loss_is_over : loses (with_loss (two true true) (codes "b") false) (codes "b") ≡ false
loss_is_over = refl

loss_of_the_other_stays : loses (with_loss (two true true) (codes "b") false) (codes "a") ≡ true
loss_of_the_other_stays = refl

third_message_is_sent : (datagram third : List ℕ) (peer next : Peer) → Agrees datagram third peer next → next.sent ≡ Some third
third_message_is_sent datagram third peer next agrees = ap (λ (it : Peer). it.sent) agrees.now

what_was_lent_comes_back : (peer : Peer) (lent : Lent) → peer.pull ≡ Some lent.pull → peer.sent ≡ Some lent.sent → lent.loses ≡ peer.loses
    → with_back lent (after_lending peer) ≡ peer
what_was_lent_comes_back peer lent pull sent loss = λ i. record peer { pull = sym pull i; sent = sym sent i; loses = loss i }
