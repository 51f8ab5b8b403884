-- What a host has on its disk after an opening.
use Rattle.std.proofs.Common.{◌≡◌, ◌∙◌, ℕ, ◌≤◌, List, [], Option, None, Some, sym, ap, subst}
use Rattle.gd_disk.specs.Disks.{Knows, Only}
use Rattle.gd_disk.specs.MomentLaws.{leaves_now, shown_before, started, weaker}
use Rattle.gd_disk.specs.Moments.{Keeps, LeavesOnly, shown}
use Rattle.gd_disk.specs.declared.disks.Disk.{Ghosts}
use Rattle.group_values.specs.Values.{Made}
use Rattle.group_model.specs.Servers.{MayHave, halted}
use Rattle.tree_store.specs.Groups.{HasGroup, IsGroup}
use Rattle.gcks_core.specs.Stored.{IsFileOf, stored_list}
use Rattle.server_steps.specs.Disks.{ComesToLast, HasJournal, LeavesJournal}
use Rattle.server_steps.specs.Hosts.{Host, with_disk, with_server}

-- the octets that are shown are one list
one_text : (shows : Option (List ℕ)) (was file : List ℕ) → shows ≡ Some was → shows ≡ Some file → was ≡ file
one_text shows was file first second = ap octets (sym first ∙ second)
  where
    octets : Option (List ℕ) → List ℕ
    octets None = []
    octets (Some text) = text

module _ {D : Type 0} (d : Ghosts D) where
  -- it has what was read
  pub has_read : (host : Host D) (list : List Made) → MayHave host.server list
      → Knows (shown d host.disk) (λ file. IsGroup file host.head (stored_list host.head.depth list))
      → Knows (shown d host.disk) (λ file. Only file (d.may_leave host.disk)) → HasJournal d host
  has_read host list may reads only = record {
    file = λ file is. (list, may, reads file is);
    crash = λ file is c left.
        (list, may, subst (λ text. IsGroup text host.head (stored_list host.head.depth list)) (sym (only file is c left)) (reads file is));
  }

  -- it has what was made
  pub has_made : (old : D) (host : Host D) → Keeps d old host.disk → MayHave host.server []
      → Knows (shown d old) (λ _. HasGroup (shown d host.disk) host.head [])
      → Knows (shown d old) (λ _. (c : List ℕ) → d.may_leave host.disk c → IsGroup c host.head []) → HasJournal d host
  has_made old host keeps may made durable = record {
    file = λ file is.
        let was = shown_before d old host.disk keeps file is in
        let has = made was.0 was.1 in
        ([], may, subst (λ text. IsGroup text host.head []) (one_text (shown d host.disk) has.0 file has.1 is) has.2);
    crash = λ file is c left.
        let was = shown_before d old host.disk keeps file is in
        ([], may, durable was.0 was.1 c left);
  }

  -- a file that a crash leaves alone now was made to last
  pub comes_to_last : (old new : D) (file : List ℕ)
      → ((c : List ℕ) → d.left_since new (d.moment new) c → d.may_leave new c) → LeavesOnly d old new (d.may_leave old)
      → Only file (d.may_leave new) → ComesToLast d file old new
  comes_to_last old new file only_now moments only = (new, moments, started d new (λ c. c ≡ file) only_now only)

  module _ (host : Host D) (new : D) (shows : shown d new ≡ shown d host.disk) (has : HasJournal d host)
      (moments : Knows (shown d host.disk) (λ _. LeavesOnly d host.disk new (d.may_leave host.disk))) where
    -- it has what it had
    pub has_still : ((t : ℕ) (c : List ℕ) → t ≤ d.moment new → d.may_leave new c → d.left_since new t c)
        → HasJournal d (with_disk (with_server host (halted host.server)) new)
    has_still counts_now = record {
      file = λ file is. has.file file (sym shows ∙ is);
      crash = λ file is c left.
          let was = sym shows ∙ is in
          has.crash file was c (leaves_now d host.disk new (d.may_leave host.disk) counts_now (moments file was) c left);
    }

    -- and so a crash leaves at any moment
    pub leaves_still : LeavesJournal d host.disk host.head host.server new
    leaves_still file is = weaker d host.disk new (d.may_leave host.disk) (IsFileOf host.head host.server) (has.crash file is) (moments file is)
