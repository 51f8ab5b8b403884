-- A sound server that keeps messages of its group goes on so, and sends no others.
use Rattle.std.proofs.Common.{◌≡◌, ℕ, List, refl, inl, inr}
use Rattle.gd_disk.specs.declared.disks.Disk.{Ghosts as DiskGhosts}
use Rattle.gd_edges.specs.declared.signers.Signer.{Ghosts as SignerGhosts}
use Rattle.group_model.specs.Servers.{after_draws, in_doubt}
use Rattle.group_model.specs.declared.entries.Answer.TheVariants.{Refused}
use Rattle.group_model.specs.declared.entries.Asked.{Asked}
use Rattle.group_model.specs.declared.entries.Asked.TheVariants.{AddRule, Batch, DeliverAll, Halt, Introduce, Leave, Reopen, Serve, Show}
use Rattle.group_model.specs.declared.entries.Entry.{Entry}
use Rattle.group_model.specs.declared.entries.Outside.{Outside}
use Rattle.group_model.specs.declared.entries.Refusal.TheVariants.{DiskFault, NeedsReopen, NoMemory}
use Rattle.server_steps.specs.Batches.{IsBatching, drawn_next, made_next}
use Rattle.server_steps.specs.Hosts.{Host, with_disk, with_server}
use Rattle.server_steps.specs.Messages.{MessagesAreOfTheGroup}
use Rattle.server_steps.specs.Steps.{IsServed}
use Rattle.server_steps.proofs.DatagramLemmas.{Needs, answering}
use Rattle.server_steps.proofs.GoesLemmas.{Goes, IsGood, adding, halting, introducing, leaving, opening, quiet, refused, same_sound, showing}
use Rattle.server_steps.proofs.GoesLemmas.{silent_refused}
use Rattle.server_steps.proofs.StoredLemmas.{storing}

module _ {D G : Type 0} (needs : Needs) (d : DiskGhosts D) (g : SignerGhosts G) (signer : G) (block : ℕ → List ℕ) {first : ℕ} {host : Host D} (entry : Entry)
    (good : IsGood (g.kind_of signer) first host) where
  abbrev GoesTo : Host D → Type 0
  GoesTo = Goes (g.kind_of signer) first host entry

  batching : (next : Host D) (outside : Outside) → IsBatching d g signer block host entry.answer outside next → GoesTo next
  batching next outside (inl stored) = storing needs d g signer block entry good next outside stored
  batching next outside (inr (inl doubt)) =
      let made : Host D = with_disk (with_server host (in_doubt (drawn_next d g signer block host) (made_next d g signer block host))) next.disk in
      quiet entry good next made (Refused DiskFault) doubt.now doubt.answers (silent_refused DiskFault) refl
      (same_sound entry good made refl refl refl refl) good.keeps
  batching next outside (inr (inr (inl fails))) = refused entry good next outside fails.why fails.says
  batching next outside (inr (inr (inr out))) =
      let made : Host D = with_server host (after_draws host.server out.n) in
      quiet entry good next made (Refused NoMemory) out.now out.answers (silent_refused NoMemory) refl
      (same_sound entry good made refl refl refl refl) good.keeps

  -- ---- all requests

  goes : (asked : Asked) (next : Host D) → entry.asked ≡ asked → IsServed d g signer block asked host entry.answer entry.outside next → GoesTo next
  goes (AddRule rule) next is step = adding entry good rule next entry.outside step
  goes (Introduce phase) next is step = introducing entry good phase next entry.outside step
  goes (Serve m datagram) next is step = answering needs g signer block entry good m datagram is next entry.outside step
  goes (Leave m) next is step = leaving entry good needs.laws m next entry.outside step
  goes Batch next is step = batching next entry.outside step
  goes Halt next is step = halting entry good next entry.outside step
  goes Reopen next is step = opening entry good d g signer needs.laws next entry.outside step
  goes Show next is step = showing entry good next entry.outside step
  goes DeliverAll next is step = refused entry good next entry.outside NeedsReopen step.says
  goes asked next is step = absurd step

module _ {D G : Type 0} (needs : Needs) (d : DiskGhosts D) (g : SignerGhosts G) (signer : G) (block : ℕ → List ℕ) where
  pub of_the_group : MessagesAreOfTheGroup d g signer block
  of_the_group first host entry next sound early keeps step =
      let all = goes needs d g signer block entry (record { sound = sound; early = early; keeps = keeps }) entry.asked next refl step.answered in
      (all.sound, all.keeps, all.renewed, all.sends)
