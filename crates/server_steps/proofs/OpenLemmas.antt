-- What comes of opening a group from its journal.
use Rattle.std.proofs.Common.{◌≡◌, ◌∙◌, ◌⊎◌, inl, inr, ℕ, false, List, [], Option, Some, refl, sym, ap}
use Rattle.std.proofs.lemmas.List.{length-map}
use Rattle.gd_disk.specs.Disks.{Knows, Only}
use Rattle.gd_disk.specs.Moments.{Keeps, LeavesOnly, shown}
use Rattle.gd_disk.specs.declared.disks.Disk.{Ghosts as DiskGhosts}
use Rattle.gd_edges.specs.declared.draws.Draws.{Ghosts as DrawGhosts}
use Rattle.gd_edges.specs.declared.signers.Signer.{Ghosts as SignerGhosts}
use Rattle.group_terms.specs.Faults.{Rose}
use Rattle.group_terms.specs.Names.{Name}
use Rattle.group_values.specs.Values.{Made, batches_made}
use Rattle.group_model.specs.Seen.{seen_group}
use Rattle.group_model.specs.Servers.{opened_server}
use Rattle.group_model.specs.declared.entries.Answer.{Answer}
use Rattle.group_model.specs.declared.entries.Answer.TheVariants.{Opened}
use Rattle.group_model.specs.declared.entries.Asked.TheVariants.{Begin}
use Rattle.group_model.specs.declared.entries.PushPair.{PushPair}
use Rattle.group_model.specs.declared.entries.Refusal.{Refusal}
use Rattle.group_model.specs.declared.entries.Refusal.TheVariants.{DiskFault, NotAJournal, NoMemory}
use Rattle.group_pushes.specs.Pairs.{IsPairIfStayed}
use Rattle.tree_store.specs.Groups.{IsGroup, IsNoGroup}
use Rattle.gcks_core.specs.declared.outputs.Parts.{Parts}
use Rattle.gcks_core.specs.Stands.{Stands}
use Rattle.gcks_core.specs.Stored.{stored_list}
use Rattle.gcks_core.specs.Views.{View}
use Rattle.server_steps.specs.Disks.{ComesToLast}
use Rattle.server_steps.specs.Entries.{beside}
use Rattle.server_steps.specs.Hosts.{Host, no_host, no_sessions, with_disk}
use Rattle.server_steps.specs.Openings.{Found, FindsGroup, IsBeginning, IsHead, opened_host}
use Rattle.server_steps.specs.Opens.{FailsToOpen, Opens}
use Rattle.server_steps.specs.Views.{server_of}
use Rattle.server_steps.proofs.BesideLemmas.{beside_refused, counts_refused}
use Rattle.server_steps.proofs.JournalLemmas.{comes_to_last, has_read}

-- what an opening answers of the batches that it found
abbrev pub shown_open : ℕ → List Made → Option PushPair → Answer
shown_open depth list resent = Opened (seen_group depth (batches_made list)) resent

-- A core was opened from a disk, by a signer, where draws were at this place: what it found, and what became of the disk.
pub record IsOpened {D G R : Type 0} (d : DiskGhosts D) (g : SignerGhosts G) (draws : DrawGhosts R) (signer : G) (place : ℕ) (disk : D)
    (core : View D G R) (list : List Made) (resent : Option PushPair) : Type 0 where
  pub head : IsHead core.head
  pub stands : Stands draws core (opened_server core.head.depth core.head.limit list place)
  pub was_there : Knows (shown d disk) (λ file. IsGroup file core.head (stored_list core.head.depth list))
  pub pair : IsPairIfStayed g signer core.head.depth core.head.spi list resent
  pub only : Knows (shown d core.disk) (λ file. Only file (d.may_leave core.disk))
  pub moments : Knows (shown d disk) (λ _. LeavesOnly d disk core.disk (d.may_leave disk))
  pub same_file : shown d core.disk ≡ shown d disk
  pub unfaulted : d.faults core.disk ≡ d.faults disk
  pub keeps : Keeps d disk core.disk

module _ {D G R : Type 0} (d : DiskGhosts D) (g : SignerGhosts G) (draws : DrawGhosts R) where
  -- from the disk of a host, where draws are at its place
  module _ (signer : G) (host : Host D) (core : View D G R) (list : List Made) (resent : Option PushPair)
      (opened : IsOpened d g draws signer host.server.place host.disk core list resent) where
    -- what it found, and the host that goes on with it
    abbrev pub found_by : Found
    found_by = record { head = core.head; list = list }

    abbrev pub host_by : Host D
    host_by = opened_host host found_by core.disk

    pub finds : (place : ℕ) → place ≡ host.server.place
        → FindsGroup d g signer host found_by (shown_open core.head.depth list resent) (beside (shown_open core.head.depth list resent) place) host_by
    finds place same = record {
      group = record { head = opened.head; due = opened.stands.due; fit = opened.stands.fit };
      was_there = opened.was_there;
      resent = resent;
      pair = opened.pair;
      answers = refl;
      beside = λ i. record { disk_failed = false; found = Some (length-map list (λ (made : Made). made.changes) i); place = same i };
      now = refl;
      journal = has_read d host_by list (inl refl) (λ file is. opened.was_there file (sym opened.same_file ∙ is)) opened.only;
    }

  -- the first opening of a group
  module _ (parts : Parts D G R) (name : Name) (limit phases : ℕ) where
    abbrev start : Host D
    start = no_host parts.disk name limit (draws.place_of parts.draws) phases

    -- it begins
    pub begins : (core : View D G R) (list : List Made) (resent : Option PushPair)
        → ((c : List ℕ) → d.left_since core.disk (d.moment core.disk) c → d.may_leave core.disk c)
        → IsOpened d g draws parts.signer (draws.place_of parts.draws) parts.disk core list resent
        → core.signer ≡ parts.signer → ((k : ℕ) → draws.block_at core.draws k ≡ draws.block_at parts.draws k)
        → Opens d draws (IsBeginning d g parts.signer) Begin start parts (server_of core [] (no_sessions phases)) resent
    begins core list resent only_now opened signer blocks =
        let after = host_by parts.signer start core list resent opened in
        let found = finds parts.signer start core list resent opened (draws.place_of parts.draws) refl in
        record {
          next = after;
          stepped = record {
            answered = record {
              ends = inl (record {
                found = found_by parts.signer start core list resent opened;
                finds = found;
                lasts = λ file is. comes_to_last d parts.disk core.disk file only_now (opened.moments file is)
                    (opened.only file (opened.same_file ∙ is));
              });
              same_file = opened.same_file;
              moments = opened.moments;
            };
            keeps = opened.keeps;
            counts = opened.unfaulted;
          };
          server = record { disk = refl; head = refl; stands = opened.stands; journal = found.journal; rules = refl; sessions = refl };
          signer = signer;
          blocks = blocks;
        }

    -- it is refused, and these parts come back
    pub begins_not : (why : Refusal) (back : Parts D G R) → ((c : List ℕ) → d.left_since back.disk (d.moment back.disk) c → d.may_leave back.disk c)
        → (why ≡ DiskFault → Rose (d.faults parts.disk) (d.faults back.disk))
        → ((at : ℕ) → why ≡ NotAJournal at → Knows (shown d parts.disk) (λ file. IsNoGroup file at))
        → ((at : ℕ) → why ≡ NotAJournal at → Knows (shown d parts.disk) (λ file. Only file (d.may_leave back.disk)))
        → (why ≡ DiskFault) ⊎ ((why ≡ NoMemory) ⊎ ((at : ℕ) × (why ≡ NotAJournal at)))
        → ((why ≡ DiskFault → ⊥) → d.faults back.disk ≡ d.faults parts.disk)
        → Knows (shown d parts.disk) (λ _. LeavesOnly d parts.disk back.disk (d.may_leave parts.disk)) → shown d back.disk ≡ shown d parts.disk
        → Keeps d parts.disk back.disk → (back.signer ≡ parts.signer) × (back.draws ≡ parts.draws)
        → FailsToOpen d draws (IsBeginning d g parts.signer) Begin start parts why back
    begins_not why back only_now cause broken only no_other faultless moments same_file keeps same =
        record {
          next = with_disk start back.disk;
          stepped = record {
            answered = record {
              ends = inr (record {
                why = why;
                causes = causes no_other;
                answers = refl;
                beside = beside_refused start why (draws.place_of parts.draws) refl;
                now = refl;
              });
              same_file = same_file;
              moments = moments;
            };
            keeps = keeps;
            counts = counts_refused d why parts.disk back.disk cause faultless;
          };
          disk = refl;
          place = ap draws.place_of (sym same.1);
          signer = same.0;
          blocks = λ k. ap (λ at. draws.block_at at k) same.1;
        }
      where
        causes : (why ≡ DiskFault) ⊎ ((why ≡ NoMemory) ⊎ ((at : ℕ) × (why ≡ NotAJournal at))) → (why ≡ DiskFault)
            ⊎ ((why ≡ NoMemory) ⊎ ((at : ℕ) × (why ≡ NotAJournal at)
            × Knows (shown d parts.disk) (λ file. IsNoGroup file at × Only file (d.may_leave back.disk) × ComesToLast d file parts.disk back.disk)))
        causes (inl fault) = inl fault
        causes (inr (inl none)) = inr (inl none)
        causes (inr (inr (at, is))) =
            inr (inr (
              at,
              is,
              (λ file shows.
                  let stays = only at is file shows in
                  (broken at is file shows, stays, comes_to_last d parts.disk back.disk file only_now (moments file shows) stays)),
            ))
