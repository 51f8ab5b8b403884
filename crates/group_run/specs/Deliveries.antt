-- Which push (RFC 6407 section 4) is given to which member next, where all members are given what they missed: the members in the order in which they
-- were first used, and to each of them the pushes by rising number.
use Rattle.std.specs.Prelude.{◌≡◌, ◌⊎◌, ◌<◌, true, List, Option, None, Some, slice_get}
use Rattle.group_model.specs.Places.{Holders, is_member}
use Rattle.group_model.specs.declared.entries.Entry.{Entry}
use Rattle.group_peers.specs.declared.members.Peer.{Peer}
use Rattle.server_steps.specs.Sent.{SentPush, last_push}
use Rattle.member_store.specs.Stores.{Store}
use Rattle.group_run.specs.declared.deliveries.Delivery.{Delivery}

-- by the places of the members, and then by the numbers of the pushes
abbrev pub IsBefore : Delivery → Delivery → Type 0
IsBefore first second = (first.place < second.place) ⊎ ((first.place ≡ second.place) × (first.number < second.number))

-- after the last one, if there was one
abbrev pub ComesAfter : Option Delivery → Delivery → Type 0
ComesAfter None delivery = Unit {0}
ComesAfter (Some last) delivery = IsBefore last delivery

module _ (holders : Holders) (peers : List Peer) (before : List Entry) where
  -- A present member that has a store missed a push that was sent, whose number is greater than that of the store.
  pub record IsDue (delivery : Delivery) : Type 0 where
    pub peer : Peer
    pub is_there : slice_get peers delivery.place ≡ Some peer
    pub named : delivery.member ≡ peer.phase.member
    pub member : is_member holders peer.phase.member ≡ true
    pub store : Store
    pub has : peer.store ≡ Some store
    pub push : SentPush
    pub sent : last_push before delivery.number ≡ Some push
    pub greater : store.sequence < delivery.number

  -- the first that is due after the last one
  pub record IsFirstDue (last : Option Delivery) (delivery : Delivery) : Type 0 where
    pub due : IsDue delivery
    pub after : ComesAfter last delivery
    pub first : (other : Delivery) → IsDue other → ComesAfter last other → (delivery ≡ other) ⊎ IsBefore delivery other

  -- nothing is due any more after the last one
  abbrev pub NoneIsDue : Option Delivery → Type 0
  NoneIsDue last = (other : Delivery) → IsDue other → ComesAfter last other → ⊥
