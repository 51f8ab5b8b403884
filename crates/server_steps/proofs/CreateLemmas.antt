-- What comes of making a group.
use Rattle.std.proofs.Common.{◌≡◌, ◌⊎◌, inl, inr, ⊎_elim, ℕ, ◌≤◌, List, [], None, refl, sym, ap, subst, arith}
use Rattle.gd_disk.specs.Disks.{Knows}
use Rattle.gd_disk.specs.Moments.{Keeps, shown}
use Rattle.gd_disk.specs.declared.disks.Disk.{Ghosts as DiskGhosts}
use Rattle.gd_edges.specs.declared.draws.Draws.{Ghosts as DrawGhosts}
use Rattle.group_terms.specs.Faults.{Rose}
use Rattle.group_values.specs.Drawing.{next_place, place_after}
use Rattle.group_model.specs.Servers.{Server, after_draws, opened_server}
use Rattle.group_model.specs.declared.entries.Asked.TheVariants.{Create}
use Rattle.group_model.specs.declared.entries.Refusal.{Refusal}
use Rattle.group_model.specs.declared.entries.Refusal.TheVariants.{DiskFault, NoMemory}
use Rattle.group_records.specs.declared.heads.Head.{Head}
use Rattle.tree_store.specs.Groups.{HasGroup, IsGroup, MakesGroup}
use Rattle.gcks_core.specs.declared.outputs.NewGroup.{NewGroup}
use Rattle.gcks_core.specs.declared.outputs.Parts.{Parts}
use Rattle.gcks_core.specs.Openings.{head_of}
use Rattle.gcks_core.specs.Stands.{Stands}
use Rattle.gcks_core.specs.Views.{View}
use Rattle.server_steps.specs.Hosts.{Host, no_host, no_sessions, with_disk, with_server}
use Rattle.server_steps.specs.Openings.{IsCreation, IsHead}
use Rattle.server_steps.specs.Opens.{FailsToOpen, Opens}
use Rattle.server_steps.specs.Views.{server_of}
use Rattle.server_steps.proofs.BesideLemmas.{beside_refused, counts_refused}
use Rattle.server_steps.proofs.JournalLemmas.{has_made}

module _ {D G R : Type 0} (d : DiskGhosts D) (draws : DrawGhosts R) (parts : Parts D G R) (group : NewGroup)
    (shallow : 1 ≤ group.depth) (deep : group.depth ≤ 9) (limited : 1 ≤ group.limit) (phases : ℕ) where
  -- where draws are, and the head of the group that is made there
  abbrev place : ℕ
  place = draws.place_of parts.draws

  abbrev pub head_by : Head
  head_by = head_of group (draws.block_at parts.draws place)

  abbrev pub server_by : Server
  server_by = opened_server group.depth group.limit [] (next_place place)

  abbrev start : Host D
  start = no_host parts.disk group.name group.limit place phases

  -- the host after a group was made
  abbrev host_made : D → Host D
  host_made left = record { disk = left; head = head_by; server = server_by; rules = []; sessions = no_sessions phases }

  -- it is made
  pub creates : (core : View D G R) → core.head ≡ head_by → IsHead core.head → Stands draws core server_by
      → Knows (shown d parts.disk) (λ _. HasGroup (shown d core.disk) core.head [])
      → Knows (shown d parts.disk) (λ _. (c : List ℕ) → d.may_leave core.disk c → IsGroup c core.head [])
      → Knows (shown d parts.disk) (λ _. MakesGroup d head_by parts.disk core.disk) → d.faults core.disk ≡ d.faults parts.disk → Keeps d parts.disk core.disk
      → core.signer ≡ parts.signer → ((k : ℕ) → draws.block_at core.draws k ≡ draws.block_at parts.draws k)
      → Opens d draws (IsCreation d (draws.block_at parts.draws) group.depth) (Create group.depth) start parts
      (server_of core [] (no_sessions phases)) None
  creates core same_head is_head stands made durable moments unfaulted keeps signer blocks =
      let after = host_made core.disk in
      let journal = has_made d parts.disk after keeps (inl refl)
      (λ file is. subst (λ (h : Head). HasGroup (shown d core.disk) h []) same_head (made file is))
      (λ file is c left. subst (λ (h : Head). IsGroup c h []) same_head (durable file is c left)) in
      record {
        next = after;
        stepped = record {
          answered = record {
            shallow = shallow;
            deep = deep;
            limited = limited;
            ends = inl (record { head = subst IsHead same_head is_head; answers = refl; beside = refl; now = refl; journal = journal });
            moments = moments;
          };
          keeps = keeps;
          counts = unfaulted;
        };
        server = record { disk = refl; head = sym same_head; stands = stands; journal = journal; rules = refl; sessions = refl };
        signer = signer;
        blocks = blocks;
      }

  -- it is not, and these parts come back
  pub creates_not : (why : Refusal) (back : Parts D G R) → (why ≡ DiskFault → Rose (d.faults parts.disk) (d.faults back.disk))
      → (why ≡ DiskFault) ⊎ (why ≡ NoMemory)
      → (why ≡ NoMemory → back.disk ≡ parts.disk) → Knows (shown d parts.disk) (λ _. MakesGroup d head_by parts.disk back.disk) → Keeps d parts.disk back.disk
      → (back.signer ≡ parts.signer) × ((draws.place_of back.draws ≡ place) ⊎ (draws.place_of back.draws ≡ next_place place))
      × ((k : ℕ) → draws.block_at back.draws k ≡ draws.block_at parts.draws k)
      → FailsToOpen d draws (IsCreation d (draws.block_at parts.draws) group.depth) (Create group.depth) start parts why back
  creates_not why back cause no_other untouched moments keeps same =
      ⊎_elim (λ still. fails 0 (omega arith) (sym still)) (λ drawn. fails 1 (omega arith) (sym drawn)) same.1
    where
      causes : (why ≡ DiskFault) ⊎ (why ≡ NoMemory) → (why ≡ DiskFault) ⊎ ((why ≡ NoMemory) × (back.disk ≡ parts.disk))
      causes (inl fault) = inl fault
      causes (inr none) = inr (none, untouched none)

      unfaulted : (why ≡ DiskFault) ⊎ (why ≡ NoMemory) → (why ≡ DiskFault → ⊥) → d.faults back.disk ≡ d.faults parts.disk
      unfaulted (inl fault) other = absurd (other fault)
      unfaulted (inr none) other = ap d.faults (untouched none)

      -- this many blocks were drawn
      fails : (n : ℕ) → n ≤ 1 → place_after n place ≡ draws.place_of back.draws
          → FailsToOpen d draws (IsCreation d (draws.block_at parts.draws) group.depth) (Create group.depth) start parts why back
      fails n few at = record {
        next = with_disk (with_server start (after_draws start.server n)) back.disk;
        stepped = record {
          answered = record {
            shallow = shallow;
            deep = deep;
            limited = limited;
            ends = inr (record {
              why = why;
              causes = causes no_other;
              answers = refl;
              beside = beside_refused start why place refl;
              n = n;
              few = few;
              now = refl;
            });
            moments = moments;
          };
          keeps = keeps;
          counts = counts_refused d why parts.disk back.disk cause (unfaulted no_other);
        };
        disk = refl;
        place = at;
        signer = same.0;
        blocks = same.2;
      }
