use Rattle.std.proofs.Common.{◌∙◌, ap}
use Rattle.std.specs.List.{list_any, position}
use Rattle.group_terms.specs.Logs.{Recorded}
use Rattle.group_terms.specs.Names.{same_name}
use Rattle.group_peers.specs.declared.members.Peer.{Peer}
use Rattle.group_peers.specs.Peers.{is_named, is_peer}
use Rattle.group_peers.proofs.NameLemmas.{any_named, position_named}
use Rattle.group_peers.proofs.peers.Peers.place.Goals as goal

pub returns-clause-place : goal.returns-clause-place
returns-clause-place c =
    c.get_index_of.ensures.index ∙ ap (position (same_name c.args.member.now)) c.self.invariant.1
    ∙ position_named c.args.member.now c.self.inside.list.items
    ∙ ap (λ (peers : Recorded Peer). position (is_named c.args.member.now) peers.items) c.self.view_is

pub returns-clause-found : goal.returns-clause-found
returns-clause-found c =
    c.get_index_of.ensures.found ∙ ap (list_any (same_name c.args.member.now)) c.self.invariant.1
    ∙ any_named c.args.member.now c.self.inside.list.items
    ∙ ap (λ (peers : Recorded Peer). is_peer peers.items c.args.member.now) c.self.view_is
