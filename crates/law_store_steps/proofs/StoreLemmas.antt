-- What holds of each store goes on to hold where members act.
use Rattle.std.proofs.Common.{subst, sym}
use Rattle.group_terms.specs.Names.{Name}
use Rattle.member_store.specs.Stores.{Store}
use Rattle.law_store_steps.proofs.ActLemmas.{IsKept}
use Rattle.law_store_steps.proofs.PeerLemmas.{Holds}

pub stores_kept : (P : Name → Store → Type 0) → IsKept (Holds P)
stores_kept P = record {
  fresh = λ phase fits. tt;
  introduced = λ peer holds. holds;
  losing = λ peer loses holds. holds;
  begun = λ message ni group peer after message_fits begun holds. subst (Holds P) (sym begun.now) holds;
  agreed = λ second third peer after agrees holds. subst (Holds P) (sym agrees.now) holds;
  told = λ datagram keyed peer after told holds. subst (Holds P) (sym told.now) holds;
}
