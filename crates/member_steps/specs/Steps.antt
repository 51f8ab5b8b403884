-- The steps of members: what they do with the fourth messages and the pushes that they get.
use Rattle.std.specs.Prelude.{◌≡◌, ◌⊎◌, ℕ, true, false, List, ◌∷◌, MatchBool, Option, None, Some, Result, Ok, Err}
use Rattle.gd_edges.specs.declared.verifiers.Verifier.{Ghosts as VerifierGhosts}
use Rattle.group_terms.specs.Names.{Name}
use Rattle.group_terms.specs.declared.paths.Keyed.{Keyed}
use Rattle.group_terms.specs.declared.pushes.PushRefusal.{PushRefusal}
use Rattle.group_model.specs.declared.entries.Answer.{Answer}
use Rattle.group_model.specs.declared.entries.Answer.TheVariants.{Done, Kept, Lost, Older, TookRoot, TookTraffic, PushRefused, Nothing}
use Rattle.group_model.specs.declared.entries.Asked.{Asked}
use Rattle.group_model.specs.declared.entries.Asked.TheVariants.{Again, Deliver, Keep, Key, Lose}
use Rattle.member_store.specs.declared.answers.Taken.{Taken}
use Rattle.member_store.specs.declared.answers.Taken.TheVariants as takes
use Rattle.member_store.specs.Steps.{IsAcceptance}
use Rattle.member_store.specs.Stores.{Store, is_older, store_of as store_made}
use Rattle.group_peers.specs.Peers.{peer_of, put, sent_by, store_of, was_introduced, with_loss, with_store}
use Rattle.group_peers.specs.Pulls.{IsTold}
use Rattle.group_peers.specs.declared.members.Peer.{Peer}
use Rattle.member_steps.specs.Acts.{Comes}
use Rattle.member_steps.specs.Keys.{key_of}
use Rattle.member_steps.specs.Members.{Mail, Members, with_all, with_mail_left}

-- ---- what a member is told (RFC 6407 section 3.2)

-- the member has the store of what it was told
pub record Gets (m : Name) (keyed : Keyed) (members : Members) (answer : Answer) (next : Members) : Type 0 where
  pub answers : answer ≡ Kept keyed.epoch
  pub now : next ≡ with_all members (with_store members.all m (store_made keyed))

-- that is older than what its store has
pub record IsOld (store : Store) (keyed : Keyed) (members : Members) (answer : Answer) (next : Members) : Type 0 where
  pub answers : answer ≡ Older store.sequence keyed.sequence
  pub stays : next ≡ members

-- by the store that it had
abbrev pub TakesReply : Option Store → Name → Keyed → Members → Answer → Members → Type 0
TakesReply None m keyed members answer next = Gets m keyed members answer next
TakesReply (Some store) m keyed members answer next =
    MatchBool (is_older store keyed) (IsOld store keyed members answer next) (Gets m keyed members answer next)

-- The first datagram on its way goes missing, whatever message it is, and the next one comes again.
pub record GoesMissing (m : Name) (members : Members) (answer : Answer) (next : Members) : Type 0 where
  pub datagram : List ℕ
  pub later : List Mail
  pub is_first : members.mail ≡ (m, datagram) ∷ later
  pub peer : Peer
  pub is_there : peer_of members.all m ≡ Some peer
  pub loses : peer.loses ≡ true
  pub answers : answer ≡ Lost
  pub now : next ≡ with_mail_left (with_all members (with_loss members.all m false)) later

-- It comes to this member, whose pull takes it as the fourth message, and which takes the keys.
pub record TakesFourth (m : Name) (members : Members) (answer : Answer) (next : Members) : Type 0 where
  pub datagram : List ℕ
  pub later : List Mail
  pub peer : Peer
  pub gets : Comes m datagram later peer members
  pub keyed : Keyed
  pub after : Peer
  pub told : IsTold datagram keyed peer after
  pub takes : TakesReply peer.store m keyed (with_mail_left (with_all members (put members.all after)) later) answer next

-- one of the two
abbrev pub IsKeeping : Name → Members → Answer → Members → Type 0
IsKeeping m members answer next = GoesMissing m members answer next ⊎ TakesFourth m members answer next

-- ---- what is asked of members alone

-- the next datagram to a member is to go missing; nothing, where it was not introduced
abbrev pub IsLosing : Name → Members → Answer → Members → Type 0
IsLosing m members answer next =
    MatchBool (was_introduced members.all m) ((answer ≡ Done) × (next ≡ with_all members (with_loss members.all m true)))
    ((answer ≡ Nothing) × (next ≡ members))

-- a member that has sent nothing has nothing to send again
pub record HasSentNothing (m : Name) (members : Members) (answer : Answer) (next : Members) : Type 0 where
  pub nothing : sent_by members.all m ≡ None
  pub answers : answer ≡ Nothing
  pub stays : next ≡ members

-- ---- what a member is given (RFC 6407 section 4)

-- what a store answered to a push
abbrev pub answer_of : Result Taken PushRefusal → Answer
answer_of (Ok (takes.Root epoch)) = TookRoot epoch
answer_of (Ok (takes.Traffic epoch)) = TookTraffic epoch
answer_of (Err why) = PushRefused why

module _ {V : Type 0} (v : VerifierGhosts V) (verifier : V) where
  -- a push is given to a store
  pub record IsGiven (m : Name) (store : Store) (datagram : List ℕ) (members : Members) (answer : Answer) (next : Members) : Type 0 where
    pub result : Result Taken PushRefusal
    pub now : Store
    pub accepts : IsAcceptance v verifier store datagram result now
    pub answers : answer ≡ answer_of result
    pub after : next ≡ with_all members (with_store members.all m now)

  -- where there is a store, and a push to give
  abbrev pub Gives : Option Store → Option (List ℕ) → Name → Members → Answer → Members → Type 0
  Gives (Some store) (Some datagram) m members answer next = IsGiven m store datagram members answer next
  Gives (Some store) None m members answer next = (answer ≡ Nothing) × (next ≡ members)
  Gives None push m members answer next = (answer ≡ Nothing) × (next ≡ members)

  -- a member is given this push, if there is one
  abbrev pub IsDelivery : Name → Option (List ℕ) → Members → Answer → Members → Type 0
  IsDelivery m push members answer next = Gives (store_of members.all m) push m members answer next

-- ---- which traffic key a member has

-- a member says which traffic key its store has, or nothing where it has no store; no member changes
abbrev pub IsShowingKey : Name → Members → Answer → Members → Type 0
IsShowingKey m members answer next = (answer ≡ key_of (store_of members.all m)) × (next ≡ members)

-- ---- all of them

-- What a member does when it is asked to do something, given the pushes that were sent so far, by their numbers. It looks at no server.
abbrev pub IsMemberStep : {V : Type 0} → VerifierGhosts V → V → (ℕ → Option (List ℕ)) → Asked → Members → Answer → Members → Type 0
IsMemberStep v verifier sent (Lose m) = IsLosing m
IsMemberStep v verifier sent (Again m) = HasSentNothing m
IsMemberStep v verifier sent (Keep m) = IsKeeping m
IsMemberStep v verifier sent (Deliver m number) = IsDelivery v verifier m (sent number)
IsMemberStep v verifier sent (Key m) = IsShowingKey m
IsMemberStep v verifier sent asked = λ members answer next. ⊥
