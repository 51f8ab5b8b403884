-- What waits becomes a batch.
use Rattle.std.specs.Prelude.{◌≡◌, ◌⊎◌, ℕ, ◌≤◌, List, [], ◌∷◌, ◌++◌, All, None, Some}
use Rattle.gd_disk.specs.declared.disks.Disk.{Ghosts as DiskGhosts}
use Rattle.gd_edges.specs.declared.signers.Signer.{Ghosts as SignerGhosts}
use Rattle.group_values.specs.Drawing.{blocks_for}
use Rattle.group_values.specs.Values.{Made, batches_made}
use Rattle.group_model.specs.Answers.{IsOutputOf}
use Rattle.group_model.specs.Servers.{Server, after_draws, blocks_to_draw, coming_batch, coming_positions, coming_values}
use Rattle.group_model.specs.Servers.{in_doubt, refusal_to_batch, with_batch}
use Rattle.group_model.specs.declared.entries.Answer.{Answer}
use Rattle.group_model.specs.declared.entries.Answer.TheVariants.{Batched, Refused}
use Rattle.group_model.specs.declared.entries.Output.{Output}
use Rattle.group_model.specs.declared.entries.Outside.{Outside}
use Rattle.group_model.specs.declared.entries.Refusal.{Refusal}
use Rattle.group_model.specs.declared.entries.Refusal.TheVariants.{DiskFault, NoMemory}
use Rattle.group_pushes.specs.Fits.{MadeFits}
use Rattle.group_pushes.specs.Pairs.{IsPairIfStayed}
use Rattle.server_steps.specs.Disks.{HasJournal, LeavesJournal}
use Rattle.server_steps.specs.Fourths.{IsFourthReply, settled}
use Rattle.server_steps.specs.Hosts.{Host, with_disk, with_server}
use Rattle.server_steps.specs.Outsides.{Says, failing, quiet}

module _ {D G : Type 0} (d : DiskGhosts D) (g : SignerGhosts G) (signer : G) (block : ℕ → List ℕ) (host : Host D) where
  -- what waits as a batch, with the values of the next blocks
  abbrev pub made_next : Made
  made_next = coming_batch host.server (coming_values host.server block)

  -- the batches of the server, and that one after them
  abbrev pub list_next : List Made
  list_next = host.server.list ++ made_next ∷ []

  -- the server once these blocks were drawn
  abbrev pub drawn_next : Server
  drawn_next = after_draws host.server (blocks_for (coming_positions host.server))

  -- What the batch puts out: what it encrypts, its two pushes octet for octet (RFC 6407 section 4), and its replies, each with its datagram.
  pub record PutsOut (output : Output) : Type 0 where
    pub says : IsOutputOf host.server.depth (batches_made list_next) host.server.queue output
    pub pushes : IsPairIfStayed g signer host.server.depth host.head.spi list_next output.pushes
    pub replies : All (IsFourthReply host.server.depth host.head.spi list_next host.sessions.sas) output.replies

  -- What waits becomes a batch, whose values are keys, and is stored: from then on a crash leaves it. Sessions that awaited it have their fourth messages.
  pub record IsStored (answer : Answer) (outside : Outside) (next : Host D) : Type 0 where
    pub granted : refusal_to_batch host.server ≡ None
    pub fit : MadeFits made_next
    pub output : Output
    pub puts_out : PutsOut output
    pub answers : answer ≡ Batched output
    pub beside : outside ≡ quiet host
    pub now : next ≡ record host {
      disk = next.disk;
      server = with_batch drawn_next made_next;
      sessions = settled host.sessions output.replies;
    }
    pub journal : HasJournal d next
    pub moments : LeavesJournal d host.disk host.head (in_doubt host.server made_next) next.disk

  -- the disk failed while it was stored, and it is in doubt
  pub record IsInDoubt (answer : Answer) (outside : Outside) (next : Host D) : Type 0 where
    pub granted : refusal_to_batch host.server ≡ None
    pub fit : MadeFits made_next
    pub answers : answer ≡ Refused DiskFault
    pub beside : outside ≡ failing host
    pub now : next ≡ with_disk (with_server host (in_doubt drawn_next made_next)) next.disk
    pub journal : HasJournal d next
    pub moments : LeavesJournal d host.disk host.head (in_doubt host.server made_next) next.disk

  -- it is refused, by the first reason that holds
  pub record IsRefusedBatch (answer : Answer) (outside : Outside) (next : Host D) : Type 0 where
    pub why : Refusal
    pub reason : refusal_to_batch host.server ≡ Some why
    pub says : Says (Refused why) host answer outside next

  -- out of memory, and some blocks were drawn, unless the batch would be refused
  pub record RunsOut (answer : Answer) (outside : Outside) (next : Host D) : Type 0 where
    pub answers : answer ≡ Refused NoMemory
    pub beside : outside ≡ quiet host
    pub n : ℕ
    pub few : n ≤ blocks_to_draw host.server
    pub now : next ≡ with_server host (after_draws host.server n)

  -- what waits is stored as a batch, or is in doubt since the disk failed, or is refused, or memory runs out
  abbrev pub IsBatching : Answer → Outside → Host D → Type 0
  IsBatching answer outside next =
      IsStored answer outside next ⊎ (IsInDoubt answer outside next ⊎ (IsRefusedBatch answer outside next ⊎ RunsOut answer outside next))
