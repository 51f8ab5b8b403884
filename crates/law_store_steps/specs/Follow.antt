-- What follows of the steps of a run for the stores of its members (RFC 6407 section 4), said of every history.
use Rattle.std.specs.Prelude.{◌≡◌, ◌≢◌, ◌⊎◌, ℕ, ◌+◌, ◌<◌, ◌≤◌, true, false, List, [], ◌∷◌, Contains, Some, IsSome}
use Rattle.group_terms.specs.Names.{Name}
use Rattle.group_terms.specs.declared.pushes.PushRefusal.{PushRefusal}
use Rattle.group_terms.specs.declared.pushes.PushRefusal.TheVariants.{Malformed, NoPath, Stale}
use Rattle.group_model.specs.Answers.{is_open}
use Rattle.group_model.specs.Places.{Holders, holders_at, is_member}
use Rattle.group_model.specs.Stayed.{sequence_at, stayed_at}
use Rattle.group_model.specs.declared.entries.Answer.{Answer}
use Rattle.group_model.specs.declared.entries.Answer.TheVariants.{Kept, Lost, Older, PushRefused, TookRoot, TookTraffic}
use Rattle.group_model.specs.declared.entries.Asked.TheVariants.{Deliver, Keep}
use Rattle.group_model.specs.declared.entries.Entry.{Entry}
use Rattle.group_model.specs.declared.entries.Outside.{Outside}
use Rattle.group_peers.specs.Peers.{store_of}
use Rattle.group_steps.specs.Devices.{Devices, Keying}
use Rattle.group_steps.specs.Runs.{Outset, Run, no_run}
use Rattle.server_steps.specs.Sent.{last_push}
use Rattle.group_steps.specs.Steps.{IsHistory, IsRunStep}
use Rattle.group_steps.specs.TrueSteps.{AreTrueSteps, batches_in}
use Rattle.law_member_roots.specs.Groups.{Checks, IsKeyedGroup}
use Rattle.law_member_roots.specs.Roots.{HasKeysOf, IsStoreOf}
use Rattle.member_store.specs.Stores.{Store, leaf_of, root_epoch}
use Rattle.law_store_steps.specs.Stores.{AreForOneRoot, AreStores}
use Rattle.group_terms.specs.declared.signatures.SignKind.{SignKind}
use Rattle.group_model.specs.declared.entries.SymReply.{SymReply}
use Rattle.group_steps.specs.Mails.{IsSentTo}

module _ {D : Type 0} where
  -- the number of the last push up to an epoch
  abbrev pub number_at : Run D → ℕ → ℕ
  number_at run epoch = sequence_at run.host.server.depth (batches_in run) epoch

  -- who has which leaf at an epoch
  abbrev pub holders_in : Run D → ℕ → Holders
  holders_in run epoch = holders_at run.host.server.depth (batches_in run) epoch

  -- a member has a store of which this holds
  abbrev pub HasThen : Run D → Name → (Store → Type 0) → Type 0
  HasThen run m P = (now : Store) × (store_of run.members.all m ≡ Some now) × P now

  -- a store is one that m may have in the group of a run, up to date or not
  abbrev pub IsOurs : Run D → Name → Store → Type 0
  IsOurs run m store = IsStoreOf run.host.server.depth run.host.head.spi run.host.server.list m store

  -- it has all keys that m has at an epoch
  abbrev pub HasKeysThen : Run D → ℕ → Name → Store → Type 0
  HasKeysThen run epoch m store = HasKeysOf run.host.server.depth run.host.head.spi run.host.server.list epoch m store

  -- ---- which push a number is that of

  -- the membership push of the epoch after this one, sent under the root of this one
  abbrev pub IsMembershipPush : Run D → ℕ → ℕ → Type 0
  IsMembershipPush run number root = (number ≡ number_at run root + 1) × (stayed_at run.host.server.depth (batches_in run) (root + 1) ≡ true)

  -- the traffic push of this epoch, sent under its root
  abbrev pub IsTrafficPush : Run D → ℕ → ℕ → Type 0
  IsTrafficPush run number root = (number ≡ number_at run root) × (stayed_at run.host.server.depth (batches_in run) root ≡ true)

  -- Why a store refuses a push: it leads past its member; its number is not greater than that of the store, which the last reply or push set; or it was sent
  -- under another root, and is malformed there at some place.
  abbrev pub IsWhy : Run D → Store → ℕ → PushRefusal → Type 0
  IsWhy run store number why =
      (IsMembershipPush run number (root_epoch store) × (why ≡ NoPath (leaf_of store.path)))
      ⊎ ((IsTrafficPush run number (root_epoch store) × (why ≡ Stale store.sequence number))
      ⊎ ((root : ℕ) × (root ≢ root_epoch store) × (IsMembershipPush run number root ⊎ IsTrafficPush run number root)
      × (at : ℕ) × (why ≡ Malformed at)))

-- ---- what a member is told

-- what is told is older than what a store has: by the last number, and then by the epoch of the root
abbrev pub IsOlder : Store → SymReply → Type 0
IsOlder store says = (says.sequence < store.sequence) ⊎ ((says.sequence ≡ store.sequence) × (says.keyed_epoch < root_epoch store))

module _ {D : Type 0} where
  -- the store of a member is what it was
  abbrev pub KeepsItsStore : Run D → Name → Run D → Type 0
  KeepsItsStore run m next = store_of next.members.all m ≡ store_of run.members.all m

  -- By the answer where a member is told the keys that it had at an epoch (RFC 6407 section 3.2): they are not older than what its store has, if it has one, and
  -- it has all of them then; or they are older, its store is at the root of a later epoch, and stays.
  abbrev pub IsKeptAt : Run D → SymReply → Name → Answer → Run D → Type 0
  IsKeptAt run says m answer next =
      ((answer ≡ Kept says.keyed_epoch) × (HasThen run m (λ (store : Store). IsOlder store says) → ⊥) × HasThen next m (HasKeysThen run says.keyed_epoch m))
      ⊎ (KeepsItsStore run m next
      × HasThen next m (λ (now : Store). (answer ≡ Older now.sequence says.sequence) × IsOlder now says × (says.keyed_epoch < root_epoch now)))

  -- a fourth message on its way to it tells it those of the epoch that this says
  pub record IsToldKeys (kind : SignKind) (run : Run D) (m : Name) (answer : Answer) (next : Run D) : Type 0 where
    pub octets : List ℕ
    pub says : SymReply
    pub on_its_way : Contains run.members.mail (m, octets)
    pub sent : IsSentTo kind run.host run.members.all m octets (Some says)
    pub kept : IsKeptAt run says m answer next

  -- or the datagram went missing, and its store stays
  abbrev pub TakesOrLoses : SignKind → Run D → Name → Answer → Run D → Type 0
  TakesOrLoses kind run m answer next = ((answer ≡ Lost) × KeepsItsStore run m next) ⊎ IsToldKeys kind run m answer next

module _ {D G V : Type 0} (on : Devices D G V) (by : Keying G) where
  -- Of no push that the group of a run sends under the root of one epoch is a push read under that of another one: supposed of cipher and drawn keys.
  abbrev pub AreApart : Run D → Type 0
  AreApart run = AreForOneRoot on.signers by.signer (on.verifiers.kind_of on.verifier) run.host.server.depth run.host.head.spi run.host.server.list

  -- a history of which each opening again found the group that there was
  pub record IsTrueHistory (entries : List Entry) (after : Run D) : Type 0 where
    pub outset : Outset D
    pub history : IsHistory on by (no_run outset) entries after
    pub reads : AreTrueSteps on by [] (no_run outset) entries after

  -- A group that was made or found has keys: values that fit, an SPI of 16 octets, and epochs and numbers of 32 bits.
  abbrev pub OpenedGroupsHaveKeys : Type 0
  OpenedGroupsHaveKeys =
      (outset : Outset D) (first : Entry) (later : List Entry) (after : Run D)
      → IsHistory on by (no_run outset) (first ∷ later) after → is_open first.answer ≡ true
      → IsKeyedGroup after.host.server.depth after.host.head.spi after.host.server.list

  -- Where keys are apart, each store is one of the group, whatever pushes came, in whatever order and how often.
  abbrev pub StoresAreOfTheGroup : Type 0
  StoresAreOfTheGroup =
      (entries : List Entry) (after : Run D) → IsTrueHistory entries after → Checks on.signers by.signer on.verifiers on.verifier → AreApart after
      → AreStores after

  -- What a member is told is kept, if it has no store yet or one of the group.
  abbrev pub RepliesAreKept : Type 0
  RepliesAreKept =
      (outset : Outset D) (before : List Entry) (run : Run D) (m : Name) (answer : Answer) (outside : Outside) (next : Run D)
      → IsHistory on by (no_run outset) before run → ((store : Store) → store_of run.members.all m ≡ Some store → IsOurs run m store)
      → IsRunStep on by before run (record { asked = Keep m; outside = outside; answer = answer }) next
      → TakesOrLoses (on.signers.kind_of by.signer) run m answer next

  -- a member with this store, which is one of the group, is given the last push of a number, of which one at least was sent
  pub record IsGivenPush (before : List Entry) (run : Run D) (m : Name) (store : Store) (number : ℕ) (answer : Answer) (next : Run D) : Type 0 where
    pub history : IsTrueHistory before run
    pub had : store_of run.members.all m ≡ Some store
    pub ours : IsOurs run m store
    pub sent : IsSome (last_push before number)
    pub outside : Outside
    pub step : IsRunStep on by before run (record { asked = Deliver m number; outside = outside; answer = answer }) next

  -- It takes the membership push of the epoch after that of its root, if it stays over that epoch, and is at that root then, whatever it missed before.
  abbrev pub MembershipPushesAreTaken : Type 0
  MembershipPushesAreTaken =
      (before : List Entry) (run : Run D) (m : Name) (store : Store) (answer : Answer) (next : Run D) → Checks on.signers by.signer on.verifiers on.verifier
      → IsGivenPush before run m store (number_at run (root_epoch store) + 1) answer next
      → is_member (holders_in run (root_epoch store + 1)) m ≡ true
      → (answer ≡ TookRoot (root_epoch store + 1))
      × HasThen next m (λ (now : Store). IsOurs run m now × (root_epoch now ≡ root_epoch store + 1))

  -- It takes the traffic push of the epoch of its root, if its number is greater than the store's, and has all keys of that epoch then.
  abbrev pub TrafficPushesAreTaken : Type 0
  TrafficPushesAreTaken =
      (before : List Entry) (run : Run D) (m : Name) (store : Store) (answer : Answer) (next : Run D) → Checks on.signers by.signer on.verifiers on.verifier
      → IsGivenPush before run m store (number_at run (root_epoch store)) answer next
      → stayed_at run.host.server.depth (batches_in run) (root_epoch store) ≡ true → store.sequence < number_at run (root_epoch store)
      → (answer ≡ TookTraffic (root_epoch store)) × HasThen next m (HasKeysThen run (root_epoch store) m)

  -- Where keys are apart, it refuses any other push that was sent, for the reason that there is, and its store stays.
  abbrev pub OthersAreRefused : Type 0
  OthersAreRefused =
      (before : List Entry) (run : Run D) (m : Name) (store : Store) (number : ℕ) (answer : Answer) (next : Run D)
      → Checks on.signers by.signer on.verifiers on.verifier → AreApart run → IsGivenPush before run m store number answer next
      → (number ≡ number_at run (root_epoch store) + 1 → is_member (holders_in run (root_epoch store + 1)) m ≡ false)
      → (IsTrafficPush run number (root_epoch store) → number ≤ store.sequence)
      → (why : PushRefusal) × (answer ≡ PushRefused why) × IsWhy run store number why × HasThen next m (λ (now : Store). now ≡ store)
