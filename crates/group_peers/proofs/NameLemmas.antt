-- Peers are found by their names.
use Rattle.std.proofs.Common.{◌≡◌, ◌+◌, ◌||◌, true, not, ltb, List, [], ◌∷◌, None, Some, cond, refl, ap}
use Rattle.std.specs.Cmp.Lexicographic.{nat_list_eq_equiv}
use Rattle.std.specs.List.{list_any, position, position_or_len}
use Rattle.std.proofs.lemmas.List.{length-map}
use Rattle.std.proofs.lemmas.Slice.Eq.{bytes_eq-Decides}
use Rattle.group_terms.specs.Names.{Name, same_name}
use Rattle.group_peers.specs.declared.members.Peer.{Peer}
use Rattle.group_peers.specs.Peers.{is_named, is_peer, names_of}

pub same_name-is : (m n : Name) → same_name m n ≡ true → m ≡ n
same_name-is m n same = (bytes_eq-Decides m n).0 same

pub same_name-self : (m : Name) → same_name m m ≡ true
same_name-self m = nat_list_eq_equiv.refl m

-- a name is at the place where a peer has it
first_named : (m : Name) (peers : List Peer) → position_or_len (same_name m) (names_of peers) ≡ position_or_len (is_named m) peers
first_named m [] = refl
first_named m (peer ∷ peers) = ap (λ n. cond (not (same_name m peer.phase.member)) (1 + n) 0) (first_named m peers)

pub position_named : (m : Name) (peers : List Peer) → position (same_name m) (names_of peers) ≡ position (is_named m) peers
position_named m peers = λ i. cond (ltb (first_named m peers i) (length-map peers (λ (peer : Peer). peer.phase.member) i)) (Some (first_named m peers i)) None

-- and is one of the names where a peer has it
pub any_named : (m : Name) (peers : List Peer) → list_any (same_name m) (names_of peers) ≡ is_peer peers m
any_named m [] = refl
any_named m (peer ∷ peers) = ap (λ b. same_name m peer.phase.member || b) (any_named m peers)
