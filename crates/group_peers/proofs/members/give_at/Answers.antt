use Rattle.std.proofs.Common.{◌∙◌, set, subst}
use Rattle.std.proofs.lemmas.List.{get_or_default}
use Rattle.group_peers.specs.declared.members.Peer.{Peer}
use Rattle.group_peers.specs.Private.Places.{IsGivenTo, no_peer}
use Rattle.group_peers.proofs.members.give_at.Goals as goal

pub returns-clause-step : goal.returns-clause-step
returns-clause-step g c =
    let peers = c.args.peers.now.items in
    let same = c.index_mut.ensures.value ∙ get_or_default peers c.args.place c.index_mut.result.now no_peer c.requires in
    record {
      kept = c.give.new.kept;
      gives = subst (λ (peer : Peer). IsGivenTo g.V.Verifier c.args.verifier.now peer.store c.args.datagram.now c.give.result c.give.new.kept) same c.give.ensures.step;
      is = λ i. set peers c.args.place (record (same i) { store = c.give.new.kept });
    }
