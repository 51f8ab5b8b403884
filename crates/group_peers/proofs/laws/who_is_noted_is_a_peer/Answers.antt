use Rattle.group_peers.proofs.NotedLemmas.{itself_noted, peers_noted, stores_noted}
use Rattle.group_peers.proofs.laws.who_is_noted_is_a_peer.Goals as goal

pub returns-clause-peers : goal.returns-clause-peers
returns-clause-peers c = peers_noted

pub returns-clause-stores : goal.returns-clause-stores
returns-clause-stores c = stores_noted

pub returns-clause-itself : goal.returns-clause-itself
returns-clause-itself c = itself_noted
