-- The pair that an answer sends is that of the last batch of the group after it.
use Rattle.std.proofs.Common.{◌≡◌, ◌∙◌, ℕ, true, false, Bool, List, Option, None, Some, length, refl, sym, ap, subst, inl, inr}
use Rattle.std.specs.Prelude.{MatchBool}
use Rattle.std.proofs.lemmas.Bool.{false≢true}
use Rattle.std.proofs.lemmas.Option.{none-some}
use Rattle.gd_disk.specs.declared.disks.Disk.{Ghosts as DiskGhosts}
use Rattle.gd_edges.specs.declared.signers.Signer.{Ghosts as SignerGhosts}
use Rattle.group_values.specs.Values.{batches_made}
use Rattle.group_model.specs.Stayed.{stayed_at}
use Rattle.group_model.specs.declared.entries.Answer.{Answer}
use Rattle.group_model.specs.declared.entries.Answer.TheVariants.{Batched, Opened}
use Rattle.group_model.specs.declared.entries.Entry.{Entry}
use Rattle.group_model.specs.declared.entries.Outside.{Outside}
use Rattle.group_model.specs.declared.entries.PushPair.{PushPair}
use Rattle.group_pushes.specs.Pairs.{IsPairIfStayed, IsPairOf}
use Rattle.server_steps.specs.Batches.{IsStored}
use Rattle.server_steps.specs.Hosts.{Host}
use Rattle.server_steps.specs.Openings.{FindsGroup, Found, opened_host}
use Rattle.server_steps.specs.Sent.{pair_by}
use Rattle.group_steps.specs.Devices.{Devices, Keying}
use Rattle.group_steps.specs.Kinds.{IsOfAKind, speaks}
use Rattle.law_store_steps.proofs.FirstLemmas.{IsFirst}

-- an answer without a pair
abbrev IsSilent : Answer → Type 0
IsSilent answer = pair_by answer ≡ None

silent_pair : (answer : Answer) → speaks answer ≡ false → IsSilent answer
silent_pair (Batched output) silent = absurd (false≢true (sym silent))
silent_pair (Opened seen resent) silent = absurd (false≢true (sym silent))
silent_pair answer silent = refl

-- whether somebody stayed over the last batch
abbrev stayed_now : {D : Type 0} → Host D → Bool
stayed_now host = stayed_at host.server.depth (batches_made host.server.list) (length host.server.list)

module _ {D G : Type 0} (g : SignerGhosts G) (signer : G) where
  -- it is the pair of the last batch, over which somebody stayed
  pub record IsLast (host : Host D) (pair : PushPair) : Type 0 where
    pub stayed : stayed_now host ≡ true
    pub is_pair : IsPairOf g signer host.server.depth host.head.spi host.server.list pair

  -- the pair of an answer, if it sends one, is that
  abbrev pub Sends : Answer → Host D → Type 0
  Sends answer next = (pair : PushPair) → pair_by answer ≡ Some pair → IsLast next pair

  sends_none : (answer due : Answer) (next : Host D) → answer ≡ due → IsSilent due → Sends answer next
  sends_none answer due next is silent pair sent = absurd (none-some pair (sym (ap pair_by is ∙ silent) ∙ sent))

  -- the pair of the last batch, if there is one
  last_if : (next : Host D) (sent : Option PushPair) (stayed : Bool) → stayed_now next ≡ stayed
      → MatchBool stayed
      ((pair : PushPair) × (sent ≡ Some pair) × IsPairOf g signer next.server.depth next.head.spi next.server.list pair) (sent ≡ None)
      → (pair : PushPair) → sent ≡ Some pair → IsLast next pair
  last_if next sent true stayed made pair is =
      let same : made.0 ≡ pair = cc (made.1, is) in
      record {
        stayed = stayed;
        is_pair = subst (IsPairOf g signer next.server.depth next.head.spi next.server.list) same made.2;
      }
  last_if next sent false stayed none pair is = absurd (none-some pair (sym none ∙ is))

  sends_last : (answer : Answer) (next : Host D) (sent : Option PushPair) → pair_by answer ≡ sent
      → IsPairIfStayed g signer next.server.depth next.head.spi next.server.list sent → Sends answer next
  sends_last answer next sent same made pair is = last_if next sent (stayed_now next) refl made pair (sym same ∙ is)

  module _ (d : DiskGhosts D) (block : ℕ → List ℕ) (host : Host D) where
    sends_stored : (answer : Answer) (outside : Outside) (next : Host D) → IsStored d g signer block host answer outside next → Sends answer next
    sends_stored answer outside next stored =
        subst (Sends answer) (sym stored.now)
        (sends_last answer _ stored.output.pushes (ap pair_by stored.answers) stored.puts_out.pushes)

    sends_found : (found : Found) (answer : Answer) (outside : Outside) (next : Host D) → FindsGroup d g signer host found answer outside next
        → Sends answer next
    sends_found found answer outside next finds =
        subst (Sends answer) (sym finds.now)
        (sends_last answer (opened_host host found next.disk) finds.resent (ap pair_by finds.answers) finds.pair)

    pub sends_first : (answer : Answer) (outside : Outside) (next : Host D) → IsFirst d g signer block host answer outside next → Sends answer next
    sends_first answer outside next (inl made) = sends_none answer _ next made.1.answers refl
    sends_first answer outside next (inr (inl found)) = sends_found found.0 answer outside next found.1
    sends_first answer outside next (inr (inr refusal)) = sends_none answer _ next refusal.answers refl

-- whatever is asked
pub sends_kind : {D G V : Type 0} (on : Devices D G V) (by : Keying G) (host : Host D) (entry : Entry) (next : Host D) → IsOfAKind on by host entry next
    → Sends on.signers by.signer entry.answer next
sends_kind on by host entry next (inl quiet) = sends_none on.signers by.signer entry.answer entry.answer next refl (silent_pair entry.answer quiet.silent)
sends_kind on by host entry next (inr (inl stored)) =
    sends_stored on.signers by.signer on.disks by.block host entry.answer entry.outside next stored
sends_kind on by host entry next (inr (inr found)) =
    sends_found on.signers by.signer on.disks by.block host found.0 entry.answer entry.outside next found.2
