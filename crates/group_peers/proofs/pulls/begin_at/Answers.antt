use Rattle.std.proofs.Common.{◌∙◌, refl, subst}
use Rattle.std.proofs.lemmas.List.{get_or_default}
use Rattle.std.proofs.lemmas.Result.{on_ok_weaker}
use Rattle.group_peers.specs.declared.members.Peer.{Peer}
use Rattle.group_peers.specs.Private.Places.{no_peer}
use Rattle.group_peers.specs.Pulls.{Begun}
use Rattle.group_peers.proofs.pulls.begin_at.Goals as goal

pub returns-clause-ok : goal.returns-clause-ok
returns-clause-ok c =
    let same = c.index_mut.ensures.value ∙ get_or_default c.args.peers.now.items c.args.place c.index_mut.result.now no_peer c.requires in
    on_ok_weaker c.begin.result (λ begun. record {
      after = c.begin.new.peer;
      begun = subst (λ (peer : Peer). Begun c.args.message c.args.ni c.args.group.now peer c.begin.new.peer) same begun;
      is = refl;
    }) c.begin.ensures.ok
