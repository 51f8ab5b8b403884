-- How the stores of members follow what they are told and given (RFC 6407 section 4), at each moment of the console's history.
use Rattle.std.specs.Prelude.{◌≡◌, ℕ, ◌+◌, ◌<◌, ◌≤◌, true, false, List, Some, IsSome}
use Rattle.group_terms.specs.Names.{Name}
use Rattle.group_terms.specs.declared.pushes.PushRefusal.{PushRefusal}
use Rattle.group_model.specs.Places.{is_member}
use Rattle.group_model.specs.Stayed.{stayed_at}
use Rattle.group_model.specs.declared.entries.Answer.{Answer}
use Rattle.group_model.specs.declared.entries.Answer.TheVariants.{PushRefused, TookRoot, TookTraffic}
use Rattle.group_model.specs.declared.entries.Asked.TheVariants.{Deliver, Keep}
use Rattle.group_model.specs.declared.entries.Entry.{Entry}
use Rattle.group_model.specs.declared.entries.Outside.{Outside}
use Rattle.group_peers.specs.Peers.{store_of}
use Rattle.group_steps.specs.Devices.{Devices, Keying}
use Rattle.group_steps.specs.Moments.{IsMoment, IsTrueMoment}
use Rattle.group_steps.specs.Runs.{Run}
use Rattle.server_steps.specs.Sent.{last_push}
use Rattle.group_steps.specs.Steps.{IsRunStep}
use Rattle.group_steps.specs.TrueSteps.{batches_in}
use Rattle.member_store.specs.Stores.{Store, root_epoch}
use Rattle.law_store_steps.specs.Follow.{HasKeysThen, HasThen, IsOurs, IsTrafficPush, IsWhy, TakesOrLoses, holders_in, number_at}
use Rattle.law_store_steps.specs.Stores.{AreForOneRoot, AreStores}

module _ {D G V : Type 0} (on : Devices D G V) (by : Keying G) where
  -- Of no push that the group sends under the root of one epoch is a push read under that of another one: supposed of cipher and drawn keys.
  abbrev pub AreKeysApart : Run D → Type 0
  AreKeysApart mid = AreForOneRoot on.signers by.signer (on.verifiers.kind_of on.verifier) mid.host.server.depth mid.host.head.spi mid.host.server.list

  module _ (start : Run D) (entries : List Entry) (after : Run D) where
    -- A datagram that a member takes went missing, or is a fourth message: then the member has its keys, unless its store has later ones. Supposed is that
    -- it has no store yet, or one of the group.
    abbrev pub KeepsReplies : Type 0
    KeepsReplies =
        (front : List Entry) (mid : Run D) (m : Name) (answer : Answer) (outside : Outside) (next : Run D) → IsMoment on by start entries after front mid
        → ((store : Store) → store_of mid.members.all m ≡ Some store → IsOurs mid m store)
        → IsRunStep on by front mid (record { asked = Keep m; outside = outside; answer = answer }) next
        → TakesOrLoses (on.signers.kind_of by.signer) mid m answer next

    -- at a moment a member with a store of the group is given the last push of a number, of which one at least was sent
    pub record IsGivenAt (front : List Entry) (mid : Run D) (m : Name) (store : Store) (number : ℕ) (answer : Answer) (next : Run D) : Type 0 where
      pub moment : IsTrueMoment on by start entries after front mid
      pub had : store_of mid.members.all m ≡ Some store
      pub ours : IsOurs mid m store
      pub sent : IsSome (last_push front number)
      pub outside : Outside
      pub step : IsRunStep on by front mid (record { asked = Deliver m number; outside = outside; answer = answer }) next

    -- Said of moments up to which each opening again found the group that there was.
    pub record StoresFollow : Type 0 where
      -- The membership push of the epoch after that of its root, over which the member stays, is taken, and leads to the root of that next epoch.
      pub membership : (front : List Entry) (mid : Run D) (m : Name) (store : Store) (answer : Answer) (next : Run D)
          → IsGivenAt front mid m store (number_at mid (root_epoch store) + 1) answer next
          → is_member (holders_in mid (root_epoch store + 1)) m ≡ true
          → (answer ≡ TookRoot (root_epoch store + 1))
          × HasThen next m (λ (now : Store). IsOurs mid m now × (root_epoch now ≡ root_epoch store + 1))
      -- The traffic push of the epoch of its root is taken, if its number is greater than the store's, and leads to all keys of that epoch. Who came in with
      -- that epoch has them already, and that number.
      pub traffic : (front : List Entry) (mid : Run D) (m : Name) (store : Store) (answer : Answer) (next : Run D)
          → IsGivenAt front mid m store (number_at mid (root_epoch store)) answer next
          → stayed_at mid.host.server.depth (batches_in mid) (root_epoch store) ≡ true → store.sequence < number_at mid (root_epoch store)
          → (answer ≡ TookTraffic (root_epoch store)) × HasThen next m (HasKeysThen mid (root_epoch store) m)
      -- where keys are apart, any other push that was sent is refused, for the reason that there is, and the store stays
      pub refused : (front : List Entry) (mid : Run D) (m : Name) (store : Store) (number : ℕ) (answer : Answer) (next : Run D) → AreKeysApart mid
          → IsGivenAt front mid m store number answer next
          → (number ≡ number_at mid (root_epoch store) + 1 → is_member (holders_in mid (root_epoch store + 1)) m ≡ false)
          → (IsTrafficPush mid number (root_epoch store) → number ≤ store.sequence)
          → (why : PushRefusal) × (answer ≡ PushRefused why) × IsWhy mid store number why × HasThen next m (λ (now : Store). now ≡ store)
      -- where keys are apart, each store is one of the group, perhaps of an older epoch, whatever pushes came
      pub of_group : (front : List Entry) (mid : Run D) → IsTrueMoment on by start entries after front mid → AreKeysApart mid → AreStores mid
