-- What a crash leaves while workers run a block.
use Rattle.std.proofs.Common.{◌≡◌, ℕ, List, [], ◌∷◌, ◌++◌, Option, Some, refl, subst}
use Rattle.gd_disk.specs.declared.disks.Disk.{Ghosts as DiskGhosts}
use Rattle.gd_edges.specs.declared.draws.Draws.{Ghosts as DrawGhosts}
use Rattle.gd_edges.specs.declared.signers.Signer.{Ghosts as SignerGhosts}
use Rattle.group_model.specs.declared.entries.Entry.{Entry}
use Rattle.group_steps.specs.ServedCrashes.{CrashesLeaveServed}
use Rattle.server_steps.specs.Disks.{HasJournal}
use Rattle.server_steps.specs.Hosts.{Host}
use Rattle.server_steps.specs.Serves.{IsSince, Start}
use Rattle.server_steps.specs.Steps.{AreServed}
use Rattle.register_workers.specs.Blocks.{start_of}
use Rattle.register_workers.specs.Crashes.{SurvivesCrashes, SurvivesSince}
use Rattle.register_workers.specs.Private.Seats.{IsSinceIf}
use Rattle.register_workers.specs.Views.{View}

module _ {D G : Type 0} (d : DiskGhosts D) (g : SignerGhosts G) (signer : G) (block : ℕ → List ℕ) where
  abbrev Steps : Host D → List Entry → Host D → Type 0
  Steps = AreServed d g signer block

  -- steps lead to a host after some of them, and from there on
  parts : (host : Host D) (front later : List Entry) (after : Host D) → Steps host (front ++ later) after
      → (mid : Host D) × Steps host front mid × Steps mid later after
  parts host [] later after steps = (host, refl, steps)
  parts host (entry ∷ front) later after steps =
      let rest = parts steps.0 front later after steps.2 in (rest.0, (steps.0, steps.1, rest.1), rest.2)

  survives_since : CrashesLeaveServed d g signer block → (host : Host D) (news front later : List Entry) (after : Host D) → HasJournal d host
      → Steps host news after → news ≡ front ++ later → SurvivesSince d g signer block host front later after
  survives_since crashes host news front later after had steps are =
      let both = parts host front later after (subst (λ news. Steps host news after) are steps) in
      record {
        mid = both.0;
        so_far = both.1;
        goes_on = both.2;
        leaves = crashes both.0 later after both.2 (crashes host front both.0 both.1 had).journal;
      }

module _ {D G R : Type 0} (d : DiskGhosts D) (g : SignerGhosts G) (draws : DrawGhosts R) where
  -- where the entries since a block began are steps of its server
  pub survives : (start : Option (Start D G R)) (old new : View D G R) → start ≡ Some (start_of old)
      → CrashesLeaveServed d g old.server.core.signer (draws.block_at old.server.core.draws) → IsSinceIf d g draws start new.server new.entries
      → SurvivesCrashes d g draws old new
  survives start old new starts crashes since host is_on =
      let is_since : IsSince d g draws (start_of old) new.server new.entries
      = subst (λ start. IsSinceIf d g draws start new.server new.entries) starts since in
      let ends = is_since.each host is_on in
      record {
        news = is_since.news;
        history = is_since.history;
        after = ends.0;
        is_on = ends.2;
        since = λ front later are.
            survives_since d g old.server.core.signer (draws.block_at old.server.core.draws) crashes host is_since.news front later ends.0 is_on.journal
            ends.1 are;
      }
