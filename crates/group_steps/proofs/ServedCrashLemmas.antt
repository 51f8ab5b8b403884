-- What a crash leaves while a server serves requests.
use Rattle.std.proofs.Common.{◌≡◌, ◌∙◌, ◌⊎◌, ℕ, List, Some, is_some, [], ◌∷◌, ◌++◌, refl, sym, ap, subst, inl, inr}
use Rattle.std.proofs.lemmas.List.{append_assoc, append-nil}
use Rattle.gd_disk.specs.MomentLaws.{joined, started, weaker}
use Rattle.gd_disk.specs.Moments.{shown}
use Rattle.gd_disk.specs.declared.disks.Disk.{Ghosts as DiskGhosts}
use Rattle.gd_edges.specs.declared.signers.Signer.{Ghosts as SignerGhosts}
use Rattle.group_values.specs.Values.{Made}
use Rattle.group_model.specs.Servers.{Server, in_doubt}
use Rattle.group_model.specs.declared.entries.Asked.{Asked}
use Rattle.group_model.specs.declared.entries.Entry.{Entry}
use Rattle.group_records.specs.declared.heads.Head.{Head}
use Rattle.tree_store.specs.Groups.{IsGroup}
use Rattle.gcks_core.specs.Stored.{IsFileOf, stored_list}
use Rattle.server_steps.specs.Batches.{made_next}
use Rattle.server_steps.specs.Disks.{HasJournal}
use Rattle.server_steps.specs.Hosts.{Host}
use Rattle.server_steps.specs.Steps.{AreServed, IsServerStep}
use Rattle.group_steps.specs.ServedCrashes.{CrashesLeaveServed, HasAtLeast, IsServedMoment, IsToWrite, LeavesServed}
use Rattle.group_steps.proofs.JournalLemmas.{IsMeanwhile, StepLeaves, leaves_served, list_begins}
use Rattle.group_steps.proofs.SureLemmas.{shown_still, some_file}

-- a file of a server has the batches of each server whose batches were the front of its own
has_front : (head : Head) (server : Server) (list : List Made) (later : List Made) (c : List ℕ) → server.list ≡ list ++ later
    → IsFileOf head server c → (more : List Made) × IsGroup c head (stored_list head.depth (list ++ more))
has_front head server list later c is file =
    let begins = list_begins server file.0 file.1 in (
      later ++ begins.0,
      subst (λ (given : List Made). IsGroup c head (stored_list head.depth given))
          (begins.1 ∙ ap (λ given. given ++ begins.0) is ∙ append_assoc list later begins.0) file.2,
    )

-- a file of a host has its batches
pub has_now : {D : Type 0} (host : Host D) (c : List ℕ) → IsFileOf host.head host.server c → HasAtLeast host c
has_now host c file = has_front host.head host.server host.server.list [] c (sym (append-nil host.server.list)) file

-- so has what is left during a request
pub has_first : {D G : Type 0} (d : DiskGhosts D) (g : SignerGhosts G) (signer : G) (block : ℕ → List ℕ) (host : Host D) (asked : Asked) (c : List ℕ)
    → IsMeanwhile d g signer block host asked c → HasAtLeast host c
has_first d g signer block host asked c (inl file) = has_now host c file
has_first d g signer block host asked c (inr file) =
    has_front host.head (in_doubt host.server (made_next d g signer block host)) host.server.list [] c (sym (append-nil host.server.list)) file.1

-- and what has the batches of a later host
pub has_later : {D : Type 0} (host next : Host D) (c : List ℕ) → next.head ≡ host.head → (later : List Made) × (next.server.list ≡ host.server.list ++ later)
    → HasAtLeast next c → HasAtLeast host c
has_later host next c same more has = (
  more.0 ++ has.0,
  subst (λ (given : List Made). IsGroup c host.head (stored_list host.head.depth given))
      (ap (λ given. given ++ has.0) more.1 ∙ append_assoc host.server.list more.0 has.0)
      (subst (λ (head : Head). IsGroup c head (stored_list head.depth (next.server.list ++ has.0))) same has.1),
)

module _ {D G : Type 0} (d : DiskGhosts D) (g : SignerGhosts G) (signer : G) (block : ℕ → List ℕ)
    (only_now : (disk : D) (c : List ℕ) → d.left_since disk (d.moment disk) c → d.may_leave disk c) where
  abbrev Steps : Host D → List Entry → Host D → Type 0
  Steps = AreServed d g signer block

  abbrev Leaves : Host D → List Entry → Host D → Type 0
  Leaves = LeavesServed d g signer block

  abbrev Moment : Host D → List Entry → Host D → List ℕ → Type 0
  Moment = IsServedMoment d g signer block

  -- no entry
  leaves_none : (host : Host D) → HasJournal d host → Leaves host [] host
  leaves_none host had = record {
    journal = had;
    head = λ file shows. refl;
    moments = λ file shows. started d host.disk (Moment host [] host) (only_now host.disk) (λ c now. record {
      front = [];
      later = [];
      is = refl;
      mid = host;
      so_far = refl;
      goes_on = refl;
      image = inl (had.crash file shows c now);
    });
    kept = λ file shows. started d host.disk (HasAtLeast host) (only_now host.disk) (λ c now. has_now host c (had.crash file shows c now));
  }

  module _ (host : Host D) (entry : Entry) (entries : List Entry) (after next : Host D) (step : IsServerStep d g signer block host entry next)
      (rest : Steps next entries after) where
    -- what is left during the first entry
    at_first : (c : List ℕ) → IsMeanwhile d g signer block host entry.asked c → Moment host (entry ∷ entries) after c
    at_first c meanwhile = record {
      front = [];
      later = entry ∷ entries;
      is = refl;
      mid = host;
      so_far = refl;
      goes_on = (next, step, rest);
      image = meanwhile;
    }

    -- what is left during the others
    at_later : (c : List ℕ) → next.head ≡ host.head → Moment next entries after c → Moment host (entry ∷ entries) after c
    at_later c same moment = record {
      front = entry ∷ moment.front;
      later = moment.later;
      is = ap (λ given. entry ∷ given) moment.is;
      mid = moment.mid;
      so_far = (next, step, moment.so_far);
      goes_on = moment.goes_on;
      image = subst (λ (head : Head). IsFileOf head moment.mid.server c
          ⊎ (IsToWrite moment.mid moment.later × IsFileOf head (in_doubt moment.mid.server (made_next d g signer block moment.mid)) c)) same moment.image;
    }

    -- the first entry, and then the others
    leaves_more : StepLeaves d g signer block host entry.asked next → Leaves next entries after → Leaves host (entry ∷ entries) after
    leaves_more first later =
        let still : (file : List ℕ) → shown d host.disk ≡ Some file → (now : List ℕ) × (shown d next.disk ≡ Some now)
        = λ file shows. some_file (shown d next.disk) (shown_still d host.disk next.disk step.keeps (ap is_some shows)) in
        record {
          journal = later.journal;
          head = λ file shows. let now = still file shows in later.head now.0 now.1 ∙ first.head file shows;
          moments = λ file shows.
              let now = still file shows in
              joined d host.disk next.disk after.disk (Moment host (entry ∷ entries) after)
              (weaker d host.disk next.disk _ _ at_first (first.moments file shows))
              (weaker d next.disk after.disk _ _ (λ c. at_later c (first.head file shows)) (later.moments now.0 now.1));
          kept = λ file shows.
              let now = still file shows in
              joined d host.disk next.disk after.disk (HasAtLeast host)
              (weaker d host.disk next.disk _ _ (has_first d g signer block host entry.asked) (first.moments file shows))
              (weaker d next.disk after.disk _ _ (λ c. has_later host next c (first.head file shows) (first.list file shows)) (later.kept now.0 now.1));
        }

  pub crashes_leave_served : CrashesLeaveServed d g signer block
  crashes_leave_served host [] after same had = subst (λ (given : Host D). Leaves host [] given) (sym same) (leaves_none host had)
  crashes_leave_served host (entry ∷ entries) after steps had =
      let next = steps.0 in
      let leaves = leaves_served d g signer block host had (only_now host.disk) entry.asked entry.answer entry.outside next steps.1.answered in
      leaves_more host entry entries after next steps.1 steps.2 leaves (crashes_leave_served next entries after steps.2 leaves.journal)
