-- The pushes that are due, by the notes of the pushes that were sent.
use Rattle.std.specs.Prelude.{◌≡◌, ◌⊎◌, ℕ, ◌<◌, true, List, Some, slice_get}
use Rattle.std.specs.List.{Contains}
use Rattle.group_terms.specs.Names.{Name}
use Rattle.group_model.specs.Places.{Holders, is_member}
use Rattle.group_peers.specs.declared.members.Peer.{Peer}
use Rattle.member_store.specs.Stores.{Store}
use Rattle.sent_pushes.specs.Notes.{numbers_of}
use Rattle.sent_pushes.specs.declared.notes.Note.{Note}
use Rattle.group_run.specs.Deliveries.{IsBefore}
use Rattle.group_run.specs.declared.deliveries.Delivery.{Delivery}

-- after a place, or at it and after a number
abbrev pub IsAfter : ℕ → ℕ → Delivery → Type 0
IsAfter place number delivery = (place < delivery.place) ⊎ ((place ≡ delivery.place) × (number < delivery.number))

module _ (holders : Holders) (peers : List Peer) where
  -- at a place is a present member that has a store, with the number of the last push that this accepted
  pub record IsWaiting (place : ℕ) (m : Name) (last : ℕ) : Type 0 where
    pub peer : Peer
    pub is_there : slice_get peers place ≡ Some peer
    pub named : m ≡ peer.phase.member
    pub member : is_member holders peer.phase.member ≡ true
    pub store : Store
    pub has : peer.store ≡ Some store
    pub accepted : last ≡ store.sequence

  -- there is none
  abbrev pub NobodyWaits : ℕ → Type 0
  NobodyWaits place = (m : Name) (last : ℕ) → IsWaiting place m last → ⊥

  module _ (notes : List Note) where
    -- a push of this number is noted, and due to that member
    pub record IsNotedDue (delivery : Delivery) : Type 0 where
      pub last : ℕ
      pub waiting : IsWaiting delivery.place delivery.member last
      pub has_note : Contains (numbers_of notes) delivery.number
      pub greater : last < delivery.number

    -- the first that is due at a place, after a number
    pub record IsFirstAt (place number : ℕ) (delivery : Delivery) : Type 0 where
      pub due : IsNotedDue delivery
      pub here : delivery.place ≡ place
      pub after : number < delivery.number
      pub first : (other : Delivery) → IsNotedDue other → other.place ≡ place → number < other.number → (delivery ≡ other) ⊎ (delivery.number < other.number)

    abbrev pub NoneIsAt : ℕ → ℕ → Type 0
    NoneIsAt place number = (other : Delivery) → IsNotedDue other → other.place ≡ place → number < other.number → ⊥

    -- the first that is due after a place and a number
    pub record IsFirstFrom (place number : ℕ) (delivery : Delivery) : Type 0 where
      pub due : IsNotedDue delivery
      pub after : IsAfter place number delivery
      pub first : (other : Delivery) → IsNotedDue other → IsAfter place number other → (delivery ≡ other) ⊎ IsBefore delivery other

    abbrev pub NoneIsFrom : ℕ → ℕ → Type 0
    NoneIsFrom place number = (other : Delivery) → IsNotedDue other → IsAfter place number other → ⊥
