-- The stores of the members of a run, and what is supposed of the keys under which pushes are sent (RFC 6407 section 4).
use Rattle.std.specs.Prelude.{ℕ, ◌+◌, List, IfSome}
use Rattle.std.specs.List.{All}
use Rattle.gd_edges.specs.declared.signers.Signer.{Ghosts as SignerGhosts}
use Rattle.group_terms.specs.declared.signatures.SignKind.{SignKind}
use Rattle.group_values.specs.Values.{Made}
use Rattle.group_model.specs.declared.entries.PushPair.{PushPair}
use Rattle.group_peers.specs.declared.members.Peer.{Peer}
use Rattle.group_steps.specs.Runs.{Run}
use Rattle.law_member_roots.specs.Groups.{IsForOneRoot, IsPairAt}
use Rattle.law_member_roots.specs.Roots.{IsStoreOf}
use Rattle.member_store.specs.Stores.{Store}

-- a peer's store, if it has one, is one of the group
abbrev pub IsPeerOf : ℕ → List ℕ → List Made → Peer → Type 0
IsPeerOf depth spi list peer = IfSome peer.store (λ (store : Store). IsStoreOf depth spi list peer.phase.member store)

-- each store of a run is one of its group
abbrev pub AreStores : {D : Type 0} → Run D → Type 0
AreStores run = All (IsPeerOf run.host.server.depth run.host.head.spi run.host.server.list) run.members.all

-- Of no push that the group sends under the root of one epoch is a push read under that of another one. A membership push is sent under the root of the epoch
-- before its own, and a traffic push under that of its own. So it is supposed of the cipher, and of keys that are drawn; no clause here proves it. It
-- cannot hold where two epochs have the same root key, as draws that come again may bring about.
pub record AreForOneRoot {G : Type 0} (g : SignerGhosts G) (signer : G) (kind : SignKind) (depth : ℕ) (spi : List ℕ) (list : List Made) : Type 0 where
  pub membership : (sent : ℕ) (pair : PushPair) → IsPairAt g signer depth spi list (sent + 1) pair
      → IsForOneRoot spi kind list pair.membership sent
  pub traffic : (epoch : ℕ) (pair : PushPair) → IsPairAt g signer depth spi list epoch pair → IsForOneRoot spi kind list pair.traffic epoch
