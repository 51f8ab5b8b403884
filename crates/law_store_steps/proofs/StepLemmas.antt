-- Each step of a run leaves stores of its group.
use Rattle.std.proofs.Common.{◌≡◌, arith, ℕ, ◌+◌, ◌≤◌, true, List, length, take, subst, inl, inr}
use Rattle.std.specs.Prelude.{Result}
use Rattle.std.specs.List.{All}
use Rattle.gd_edges.specs.declared.signers.Signer.{Ghosts as SignerGhosts}
use Rattle.gd_edges.specs.declared.verifiers.Verifier.{Ghosts as VerifierGhosts}
use Rattle.group_terms.specs.Names.{Name}
use Rattle.group_terms.specs.declared.paths.Keyed.{Keyed}
use Rattle.group_terms.specs.declared.pushes.PushRefusal.{PushRefusal}
use Rattle.group_terms.specs.declared.signatures.SignKind.{SignKind}
use Rattle.group_values.specs.Values.{Made, batches_made}
use Rattle.group_keys.specs.Replies.{IsKeyedOf}
use Rattle.group_model.specs.Places.{holders_at, is_member}
use Rattle.group_model.specs.declared.entries.Entry.{Entry}
use Rattle.group_model.specs.declared.entries.PushPair.{PushPair}
use Rattle.group_peers.specs.Peers.{store_of}
use Rattle.group_peers.specs.declared.members.Peer.{Peer}
use Rattle.member_store.specs.declared.answers.Taken.{Taken}
use Rattle.member_store.specs.Steps.{IsAcceptance}
use Rattle.member_store.specs.Stores.{Store, store_of as store_made}
use Rattle.law_member_roots.specs.Groups.{IsPairAt}
use Rattle.law_member_roots.specs.Roots.{IsStoreOf}
use Rattle.server_steps.specs.Hosts.{Host}
use Rattle.server_steps.specs.Sent.{SentPush, last_push}
use Rattle.member_steps.specs.Steps.{TakesFourth}
use Rattle.group_steps.specs.Devices.{Devices, Keying}
use Rattle.group_steps.specs.Runs.{Run, with_members}
use Rattle.group_steps.specs.Steps.{IsRunStep}
use Rattle.law_store_steps.specs.Stores.{IsPeerOf}
use Rattle.law_store_steps.proofs.ActLemmas.{IsKept, all_after}
use Rattle.law_store_steps.proofs.FrontLemmas.{early, keyed_early, member_early}
use Rattle.law_store_steps.proofs.GrowLemmas.{Grows, moved}
use Rattle.law_store_steps.proofs.MailLemmas.{Tells}
use Rattle.law_store_steps.proofs.PeerLemmas.{found}
use Rattle.law_store_steps.proofs.SentLemmas.{AreSent, IsPushAt, last_at}
use Rattle.law_store_steps.proofs.StoreLemmas.{stores_kept}
use Rattle.law_store_steps.proofs.WalkLemmas.{all_answered, all_delivered, all_kept}

-- what a member is told at an epoch makes a store of the group
abbrev pub RepliesMake : ℕ → List ℕ → List Made → Type 0
RepliesMake depth spi list =
    (epoch : ℕ) (m : Name) (keyed : Keyed) → epoch ≤ length list → is_member (holders_at depth (batches_made list) epoch) m ≡ true
    → IsKeyedOf depth spi (take epoch list) m keyed → IsStoreOf depth spi list m (store_made keyed)

module _ {G V : Type 0} (g : SignerGhosts G) (signer : G) (v : VerifierGhosts V) (verifier : V) (depth : ℕ) (spi : List ℕ) (list : List Made) where
  -- so do the pushes of the group
  abbrev pub PushesLeave : (PushPair → List ℕ) → Type 0
  PushesLeave datagram_of =
      (sent : ℕ) (m : Name) (pair : PushPair) (store next : Store) (result : Result Taken PushRefusal)
      → IsPairAt g signer depth spi list (sent + 1) pair → IsStoreOf depth spi list m store
      → IsAcceptance v verifier store (datagram_of pair) result next → IsStoreOf depth spi list m next

  -- what is known of replies and of pushes
  pub record Laws : Type 0 where
    pub reply : RepliesMake depth spi list
    pub membership : PushesLeave (λ (pair : PushPair). pair.membership)
    pub traffic : PushesLeave (λ (pair : PushPair). pair.traffic)

  pub given : Laws → (m : Name) (store : Store) (push : SentPush) (now : Store) (result : Result Taken PushRefusal)
      → IsPushAt g signer depth spi list push → IsStoreOf depth spi list m store → IsAcceptance v verifier store push.datagram result now
      → IsStoreOf depth spi list m now
  given laws m store push now result at is step = elim at.is [
    | inl same ↦ laws.membership at.sent m at.pair store now result at.at is
        (subst (λ datagram. IsAcceptance v verifier store datagram result now) same.1 step)
    | inr same ↦ laws.traffic at.sent m at.pair store now result at.at is
        (subst (λ datagram. IsAcceptance v verifier store datagram result now) same.1 step)
  ]

module _ {D G V : Type 0} (on : Devices D G V) (by : Keying G) (after : Host D)
    (laws : Laws on.signers by.signer on.verifiers on.verifier after.server.depth after.head.spi after.server.list) where
  -- stores of the group as it is at the end
  abbrev IsOurs : Name → Store → Type 0
  IsOurs = IsStoreOf after.server.depth after.head.spi after.server.list

  abbrev pub AreOurs : List Peer → Type 0
  AreOurs = All (IsPeerOf after.server.depth after.head.spi after.server.list)

  abbrev pub ours : IsKept (IsPeerOf after.server.depth after.head.spi after.server.list)
  ours = stores_kept IsOurs

  -- what a member is told by a group that grows to that at the end
  told : (kind : SignKind) (run : Run D) (m : Name) (octets : List ℕ) (keyed : Keyed) → Grows run.host after → Tells kind run m octets keyed
      → IsOurs m (store_made keyed)
  told kind run m octets keyed grows tells =
      let depth = run.host.server.depth in
      let list = run.host.server.list in
      let epoch = tells.says.keyed_epoch in
      let within : epoch ≤ length list = tells.early in
      moved (λ depth spi list. RepliesMake depth spi list → IsStoreOf depth spi list m (store_made keyed)) run.host after grows
      (λ reply. reply epoch m keyed (omega (arith, within, early depth list grows.later))
      (member_early depth list grows.later m epoch within tells.member)
      (keyed_early depth list grows.later run.host.head.spi m keyed epoch within tells.keys)) laws.reply

  -- a step of a run that grows to that at the end
  pub ours_step : (before : List Entry) (run : Run D) (entry : Entry) (next : Run D) → AreOurs run.members.all → AreSent on.signers by.signer after before
      → Grows run.host after → (step : IsRunStep on by before run entry next)
      → ((m : Name) (fourth : TakesFourth m step.acted entry.answer next.members)
      → Tells (on.signers.kind_of by.signer) run m fourth.datagram fourth.keyed)
      → AreOurs next.members.all
  ours_step before run entry next all sent grows step tells =
      let Q = IsPeerOf after.server.depth after.head.spi after.server.list in
      all_answered Q ours on by before (with_members run step.acted) entry.answer entry.outside next
      (λ m all keeping. all_kept Q ours m step.acted entry.answer next.members all
      (λ fourth peer named holds. subst (λ m. IsOurs m (store_made fourth.keyed)) named
      (told (on.signers.kind_of by.signer) run m fourth.datagram fourth.keyed grows (tells m fourth))) keeping)
      (λ m number all given_push. all_delivered Q ours on.verifiers on.verifier m step.acted entry.answer next.members (store_of step.acted.all m)
      (last_push before number) all
      (λ store push now result had is accepts peer named holds. subst (λ m. IsOurs m now) named
      (given on.signers by.signer on.verifiers on.verifier after.server.depth after.head.spi after.server.list laws m store push now result
      (last_at on.signers by.signer after.server.depth after.head.spi after.server.list before number push sent is).0
      (found IsOurs step.acted.all m store all had) accepts)) given_push)
      (all_after Q ours by.members_block by.group run.members step.acted all step.acts) entry.asked step.answered.answered
