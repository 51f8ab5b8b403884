-- A journal whose cursor moves, or whose clear commit mark is found.
use Rattle.std.proofs.Common.{◌≡◌, ℕ, ◌+◌, List, length, Option, Some, IfSome, subst}
use Rattle.gd_disk.specs.Disks.{Knows}
use Rattle.gd_disk.specs.Moments.{shown}
use Rattle.gd_disk.specs.declared.disks.Disk.{Ghosts}
use Rattle.tree_journal.specs.Private.Found.{IsShutAt}
use Rattle.tree_journal.specs.Private.Fronts.{Stands, IsLast}
use Rattle.tree_journal.specs.Records.{IsRecordAt}
use Rattle.tree_journal.proofs.FrontLemmas.{first_again, last_is_reached, next_is_reached, shut_is_last}

module _ {D : Type 0} (g : Ghosts D) (disk : D) (at : ℕ) (end : Option ℕ) (stands : Stands g disk at end) where
  pub moved : (body : List ℕ) → Knows (shown g disk) (λ file. IsRecordAt file at body) → Stands g disk (at + (5 + length body)) end
  moved body found = record {
    read = λ file is. next_is_reached file at body (stands.read file is) (found file is);
    ended = stands.ended;
    durable = stands.durable;
  }

  pub ended : Knows (shown g disk) (λ file. IsShutAt file at) → Stands g disk at (Some at)
  ended found = record {
    read = stands.read;
    ended = λ file is. let shut = found file is in shut_is_last file at shut.0 shut.1 (stands.read file is) shut.2 shut.3;
    durable = stands.durable;
  }

  pub at_end : (place : ℕ) → end ≡ Some place → Stands g disk place end
  at_end place is = record {
    read = λ file shows. last_is_reached file place (subst (λ (e : Option ℕ). IfSome e (IsLast file)) is (stands.ended file shows));
    ended = stands.ended;
    durable = stands.durable;
  }

  pub rewound : Stands g disk 9 end
  rewound = record {
    read = λ file is. first_again file at (stands.read file is);
    ended = stands.ended;
    durable = stands.durable;
  }
