-- Making a group, and opening one from its journal.
use Rattle.std.specs.Prelude.{◌≡◌, ◌⊎◌, ℕ, ◌≤◌, List, [], length, All, Option, None}
use Rattle.gd_disk.specs.Disks.{Knows, Only}
use Rattle.gd_disk.specs.Moments.{LeavesOnly, shown}
use Rattle.gd_disk.specs.declared.disks.Disk.{Ghosts as DiskGhosts}
use Rattle.gd_edges.specs.declared.signers.Signer.{Ghosts as SignerGhosts}
use Rattle.group_terms.specs.Octets.{AreOctets}
use Rattle.group_values.specs.Drawing.{next_place}
use Rattle.group_values.specs.Values.{Made, batches_made}
use Rattle.group_model.specs.Seen.{seen_group}
use Rattle.group_model.specs.Servers.{MayHave, after_draws, halted, opened_server}
use Rattle.group_model.specs.declared.entries.Answer.{Answer}
use Rattle.group_model.specs.declared.entries.Answer.TheVariants.{Opened, Refused}
use Rattle.group_model.specs.declared.entries.Outside.{Outside}
use Rattle.group_model.specs.declared.entries.PushPair.{PushPair}
use Rattle.group_model.specs.declared.entries.Refusal.{Refusal}
use Rattle.group_model.specs.declared.entries.Refusal.TheVariants.{DiskFault, NotAJournal, NoMemory}
use Rattle.group_pushes.specs.Fits.{MadeFits}
use Rattle.group_pushes.specs.Pairs.{IsPairIfStayed}
use Rattle.group_records.specs.Fits.{HeadFits}
use Rattle.group_records.specs.declared.heads.Head.{Head}
use Rattle.tree_store.specs.Groups.{IsGroup, IsNoGroup, MakesGroup}
use Rattle.gcks_core.specs.Stored.{AreDue, stored_list}
use Rattle.pull_sessions.specs.Sessions.{without_sessions}
use Rattle.server_steps.specs.Disks.{ComesToLast, HasJournal, LeavesJournal}
use Rattle.server_steps.specs.Outsides.{beside_refusal, finding}
use Rattle.server_steps.specs.Hosts.{Host, with_disk, with_server}

-- a head that a journal can have: a tree of depth 1 to 9, a name, a limit of 32 bits, and an SPI of 16 octets
pub record IsHead (head : Head) : Type 0 where
  pub fits : HeadFits head
  pub octets : AreOctets head.spi

-- ---- the making of a group

module _ {D : Type 0} (d : DiskGhosts D) (block : ℕ → List ℕ) where
  -- its head, with the next block as the SPI
  abbrev pub head_made : Host D → ℕ → Head
  head_made host depth = record host.head { depth = depth; spi = block host.server.place }

  -- a group is made, without a batch
  pub record Makes (depth : ℕ) (host : Host D) (answer : Answer) (outside : Outside) (next : Host D) : Type 0 where
    pub head : IsHead (head_made host depth)
    pub answers : answer ≡ Opened (seen_group depth []) None
    pub beside : outside ≡ finding host 0
    pub now : next ≡ record host {
      disk = next.disk;
      head = head_made host depth;
      server = opened_server depth host.head.limit [] (next_place host.server.place);
    }
    pub journal : HasJournal d next

  -- The disk failed, or out of memory; the SPI may be drawn. Out of memory, the disk is untouched.
  pub record FailsToMake (host : Host D) (answer : Answer) (outside : Outside) (next : Host D) : Type 0 where
    pub why : Refusal
    pub causes : (why ≡ DiskFault) ⊎ ((why ≡ NoMemory) × (next.disk ≡ host.disk))
    pub answers : answer ≡ Refused why
    pub beside : outside ≡ beside_refusal host why
    pub n : ℕ
    pub few : n ≤ 1
    pub now : next ≡ with_disk (with_server host (after_draws host.server n)) next.disk

  -- A group is made, or that fails. A crash meanwhile leaves the old file cut, or from some moment on no journal, one without a record, or the group.
  pub record IsCreation (depth : ℕ) (host : Host D) (answer : Answer) (outside : Outside) (next : Host D) : Type 0 where
    pub shallow : 1 ≤ depth
    pub deep : depth ≤ 9
    pub limited : 1 ≤ host.head.limit
    pub ends : Makes depth host answer outside next ⊎ FailsToMake host answer outside next
    pub moments : Knows (shown d host.disk) (λ file. MakesGroup d (head_made host depth) host.disk next.disk)

-- ---- what is found in a journal

-- what an opening found: the head of a group, and the batches that made its epochs, with the values of their keys
pub record Found : Type 0 where
  pub head : Head
  pub list : List Made

-- a group that a journal can have: a head, and batches of which each was due after those before it, with values that are keys
pub record IsGroupFound (found : Found) : Type 0 where
  pub head : IsHead found.head
  pub due : AreDue found.head.depth found.head.limit found.list
  pub fit : All MadeFits found.list

-- it is the group that a host has, with the batches that its journal may have
pub record IsSame {D : Type 0} (host : Host D) (found : Found) : Type 0 where
  pub head : found.head ≡ host.head
  pub batches : MayHave host.server found.list

-- A host that goes on with what was found. No change waits, all sessions have ended, and the place of the draws stays; so do rules and SAs.
abbrev pub opened_host : {D : Type 0} → Host D → Found → D → Host D
opened_host host found disk = record host {
  disk = disk;
  head = found.head;
  server = opened_server found.head.depth found.head.limit found.list host.server.place;
  sessions = without_sessions host.sessions;
}

module _ {D G : Type 0} (d : DiskGhosts D) (g : SignerGhosts G) (signer : G) where
  -- An opening found this: it shows the group as its batches made it, and the pair of the last one is sent again, if that sent one.
  pub record FindsGroup (host : Host D) (found : Found) (answer : Answer) (outside : Outside) (next : Host D) : Type 0 where
    pub group : IsGroupFound found
    pub was_there : Knows (shown d host.disk) (λ file. IsGroup file found.head (stored_list found.head.depth found.list))
    pub resent : Option PushPair
    pub pair : IsPairIfStayed g signer found.head.depth found.head.spi found.list resent
    pub answers : answer ≡ Opened (seen_group found.head.depth (batches_made found.list)) resent
    pub beside : outside ≡ finding host (length found.list)
    pub now : next ≡ opened_host host found next.disk
    pub journal : HasJournal d next

  -- ---- the first opening of a group

  -- a group is opened from its journal
  pub record Begins (host : Host D) (answer : Answer) (outside : Outside) (next : Host D) : Type 0 where
    pub found : Found
    pub finds : FindsGroup host found answer outside next
    pub lasts : Knows (shown d host.disk) (λ file. ComesToLast d file host.disk next.disk)

  -- the disk has the journal of no group, and that is what a crash leaves
  abbrev pub HasNoJournal : Host D → ℕ → Host D → Type 0
  HasNoJournal host at next = Knows (shown d host.disk) (λ file. IsNoGroup file at × Only file (d.may_leave next.disk) × ComesToLast d file host.disk next.disk)

  -- the disk failed, or out of memory, or there is no journal
  pub record FailsToBegin (host : Host D) (answer : Answer) (outside : Outside) (next : Host D) : Type 0 where
    pub why : Refusal
    pub causes : (why ≡ DiskFault) ⊎ ((why ≡ NoMemory) ⊎ ((at : ℕ) × (why ≡ NotAJournal at) × HasNoJournal host at next))
    pub answers : answer ≡ Refused why
    pub beside : outside ≡ beside_refusal host why
    pub now : next ≡ with_disk host next.disk

  -- A group is opened, or that fails. The file stays as it is, and a crash leaves what it might have left before.
  pub record IsBeginning (host : Host D) (answer : Answer) (outside : Outside) (next : Host D) : Type 0 where
    pub ends : Begins host answer outside next ⊎ FailsToBegin host answer outside next
    pub same_file : shown d next.disk ≡ shown d host.disk
    pub moments : Knows (shown d host.disk) (λ file. LeavesOnly d host.disk next.disk (d.may_leave host.disk))

  -- ---- opening it again

  -- It is opened from its journal again. Where the disk is honest and exposes its octets, it is the same group.
  pub record Reopens (host : Host D) (answer : Answer) (outside : Outside) (next : Host D) : Type 0 where
    pub found : Found
    pub finds : FindsGroup host found answer outside next
    pub same : Knows (shown d host.disk) (λ file. IsSame host found)

  -- The disk failed, or out of memory, or there is no journal, which never is so of an honest disk that exposes its octets.
  pub record FailsToReopen (host : Host D) (answer : Answer) (outside : Outside) (next : Host D) : Type 0 where
    pub why : Refusal
    pub causes : (why ≡ DiskFault) ⊎ ((why ≡ NoMemory) ⊎ ((at : ℕ) × (why ≡ NotAJournal at) × Knows (shown d host.disk) (λ file. ⊥)))
    pub answers : answer ≡ Refused why
    pub beside : outside ≡ beside_refusal host why
    pub now : next ≡ with_disk (with_server host (halted host.server)) next.disk
    pub journal : HasJournal d next

  -- it is opened again, or still has to be; the file stays as it is
  pub record IsOpeningAgain (host : Host D) (answer : Answer) (outside : Outside) (next : Host D) : Type 0 where
    pub ends : Reopens host answer outside next ⊎ FailsToReopen host answer outside next
    pub same_file : shown d next.disk ≡ shown d host.disk
    pub moments : LeavesJournal d host.disk host.head host.server next.disk
