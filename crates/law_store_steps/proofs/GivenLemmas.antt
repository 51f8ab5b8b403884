-- What is known where a member is given a push after a history.
use Rattle.std.proofs.Common.{◌≡◌, ◌∙◌, ap, refl, subst, ℕ, List, Option, None, Some}
use Rattle.std.specs.Prelude.{IsSome}
use Rattle.std.proofs.lemmas.Bool.{false≢true}
use Rattle.gd_edges.specs.declared.signers.Signer.{Ghosts as SignerGhosts}
use Rattle.gd_edges.specs.declared.verifiers.Verifier.{Ghosts as VerifierGhosts}
use Rattle.group_terms.specs.Names.{Name}
use Rattle.group_model.specs.declared.entries.Answer.{Answer}
use Rattle.group_model.specs.declared.entries.Entry.{Entry}
use Rattle.group_peers.specs.Peers.{store_of}
use Rattle.server_steps.specs.Sent.{SentPush, last_push}
use Rattle.member_steps.specs.Members.{Members}
use Rattle.member_steps.specs.Steps.{Gives, IsGiven}
use Rattle.group_steps.specs.Devices.{Devices, Keying}
use Rattle.group_steps.specs.Kinds.{EachStepIsOfAKind}
use Rattle.group_steps.specs.Runs.{Run}
use Rattle.law_member_roots.specs.Groups.{IsKeyedGroup}
use Rattle.member_store.specs.Stores.{Store}
use Rattle.law_store_steps.specs.Follow.{HasThen, IsGivenPush, IsOurs, OpenedGroupsHaveKeys}
use Rattle.law_store_steps.proofs.ActLemmas.{stay}
use Rattle.law_store_steps.proofs.HistoryLemmas.{sent_after}
use Rattle.law_store_steps.proofs.OpenedLemmas.{keyed_with}
use Rattle.law_store_steps.proofs.PeerLemmas.{found_anew, has_peer}
use Rattle.law_store_steps.proofs.SentLemmas.{IsPushAt, datagram_in, last_at}

-- a push that is there
some_push : (push : Option SentPush) → IsSome push → (sent : SentPush) × (push ≡ Some sent)
some_push None some = absurd (false≢true some)
some_push (Some sent) some = (sent, refl)

-- where there are a store and a push, that is given to it
gave : {V : Type 0} (v : VerifierGhosts V) (verifier : V) (had : Option Store) (last : Option SentPush) (store : Store) (push : SentPush)
    (m : Name) (members : Members) (answer : Answer) (next : Members) → had ≡ Some store → last ≡ Some push
    → Gives v verifier had (datagram_in last) m members answer next → IsGiven v verifier m store push.datagram members answer next
gave v verifier had last store push m members answer next has is gives =
    subst (λ last. Gives v verifier (Some store) (datagram_in last) m members answer next) is
    (subst (λ had. Gives v verifier had (datagram_in last) m members answer next) has gives)

-- Members acted, and the store of this one stayed; the push, which is one of the group, with its number; the store, which is too; that the one was given to the
-- other; and that the group has keys.
pub record Known {D G V : Type 0} (g : SignerGhosts G) (signer : G) (v : VerifierGhosts V) (verifier : V) (run : Run D) (m : Name)
    (store : Store) (number : ℕ) (answer : Answer) (next : Run D) : Type 0 where
  pub acted : Members
  pub push : SentPush
  pub numbered : push.number ≡ number
  pub at : IsPushAt g signer run.host.server.depth run.host.head.spi run.host.server.list push
  pub had : store_of acted.all m ≡ Some store
  pub is : IsOurs run m store
  pub given : IsGiven v verifier m store push.datagram acted answer next.members
  pub group : IsKeyedGroup run.host.server.depth run.host.head.spi run.host.server.list

pub known : {D G V : Type 0} (on : Devices D G V) (by : Keying G) → EachStepIsOfAKind on by → OpenedGroupsHaveKeys on by → (before : List Entry)
    (run : Run D) (m : Name) (store : Store) (number : ℕ) (answer : Answer) (next : Run D) → IsGivenPush on by before run m store number answer next
    → Known on.signers by.signer on.verifiers on.verifier run m store number answer next
known on by kinds have before run m store number answer next due =
    let history = due.history in
    let acted = due.step.acted in
    let push = some_push (last_push before number) due.sent in
    let sent = sent_after on by kinds run before history in
    let last = last_at on.signers by.signer run.host.server.depth run.host.head.spi run.host.server.list before number push.0 sent push.1 in
    let had = (stay by.members_block by.group run.members acted due.step.acts).stores m ∙ due.had in
    record {
      acted = acted;
      push = push.0;
      numbered = last.1;
      at = last.0;
      had = had;
      is = due.ours;
      given =
          gave on.verifiers on.verifier (store_of acted.all m) (last_push before number) store push.0 m acted answer next.members had push.1
          due.step.answered.answered.acted;
      group = keyed_with on by have history.outset before run history.history m store due.had;
    }

-- the store that answered is found then
pub has_then : {D G V : Type 0} (g : SignerGhosts G) (signer : G) (v : VerifierGhosts V) (verifier : V) (run : Run D) (m : Name) (store : Store)
    (number : ℕ) (answer : Answer) (next : Run D) (known : Known g signer v verifier run m store number answer next) (P : Store → Type 0)
    → P known.given.now → HasThen next m P
has_then g signer v verifier run m store number answer next known P holds = (
  known.given.now,
  ap (λ (members : Members). store_of members.all m) known.given.after
      ∙ found_anew known.acted.all m known.given.now (has_peer known.acted.all m store known.had),
  holds,
)
