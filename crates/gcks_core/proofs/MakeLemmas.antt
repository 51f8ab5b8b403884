-- A core that is made.
use Rattle.std.proofs.Common.{◌≡◌, inl, ℕ, false, List, [], subst}
use Rattle.std.specs.Prelude.{IsSome}
use Rattle.gd_disk.specs.Disks.{Cut, Knows, Torn}
use Rattle.gd_disk.specs.MomentLaws.{shown_before, started}
use Rattle.gd_disk.specs.Moments.{shown, Keeps}
use Rattle.gd_disk.specs.declared.disks.Disk.{Ghosts}
use Rattle.gd_edges.specs.declared.draws.Draws.{Ghosts as DrawGhosts}
use Rattle.group_records.specs.declared.heads.Head.{Head}
use Rattle.group_model.specs.Servers.{opened_server}
use Rattle.tree_journal.specs.Crashes.{IsCutOf}
use Rattle.tree_store.specs.Groups.{HasGroup, IsGroup, MakesGroup}
use Rattle.tree_store.specs.Views.{View as StoreView}
use Rattle.gcks_core.specs.Private.Cores.{IsAtEnd, IsGroupOf}
use Rattle.gcks_core.specs.Stands.{Stands}
use Rattle.gcks_core.specs.Views.{View}
use Rattle.gcks_core.proofs.StandLemmas.{stands_as}
use Rattle.group_values.specs.Values.{Made}

module _ {D : Type 0} (g : Ghosts D) where
  -- a store that was made is at its end
  pub made_at_end : (old : D) (store : StoreView D) (head : Head) → Keeps g old store.disk
      → Knows (shown g old) (λ _. HasGroup (shown g store.disk) head []) → store.closed ≡ false → IsSome store.end → IsAtEnd g store head []
  made_at_end old store head keeps made is_open walked = record {
    open_still = is_open;
    walked = walked;
    file = λ file is.
        let was = shown_before g old store.disk keeps file is in
        let has = made was.0 was.1 in
        let same : has.0 ≡ file = cc (has.1, is) in
        subst (λ file. IsGroup file head []) same has.2;
  }

  -- nothing was done to the disk
  pub not_made : ((at n : ℕ) (file : List ℕ) → Torn at n file file) → ((to : ℕ) (file : List ℕ) → Cut to file file) → (disk : D) (head : Head)
      → ((c : List ℕ) → g.left_since disk (g.moment disk) c → g.may_leave disk c) → MakesGroup g head disk disk
  not_made torn cut disk head only_now =
      inl (started g disk (IsCutOf (g.may_leave disk)) only_now (λ k now. (k, k, now, cut 0 k, torn 0 1 k)))

-- the server that was just opened
pub stands_opened : {D G R : Type 0} (draws : DrawGhosts R) (core : View D G R) (list : List Made) → IsGroupOf core.head core.tree list
    → core.needs_reopen ≡ false → core.queue ≡ [] → (place : ℕ) → draws.place_of core.draws ≡ place
    → Stands draws core (opened_server core.head.depth core.head.limit list place)
stands_opened draws core list group needs_reopen queue place there =
    subst (Stands draws core)
    (λ i. record (opened_server core.head.depth core.head.limit list (there i)) { needs_reopen = needs_reopen i; queue = queue i })
    (stands_as draws core list group)
