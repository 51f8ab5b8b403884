use Rattle.std.proofs.Common.{◌∙◌, refl, subst, sym}
use Rattle.std.proofs.lemmas.List.{get_or_default}
use Rattle.group_peers.specs.declared.members.Peer.{Peer}
use Rattle.group_peers.specs.Private.Lent.{HasBothOrNone, LendsOf}
use Rattle.group_peers.specs.Private.Places.{no_peer}
use Rattle.group_peers.proofs.StepLemmas.{both_at}
use Rattle.group_peers.proofs.lent.lend_at.Goals as goal

pub lend-requires : goal.lend-requires
lend-requires c =
    let same = c.index_mut.ensures.value ∙ get_or_default c.args.peers.now.items c.args.place c.index_mut.result.now no_peer c.requires.place in
    subst HasBothOrNone (sym same) (both_at c.args.peers.now.items c.args.place c.requires.both)

pub returns-clause-lends : goal.returns-clause-lends
returns-clause-lends c =
    let same = c.index_mut.ensures.value ∙ get_or_default c.args.peers.now.items c.args.place c.index_mut.result.now no_peer c.requires.place in
    record {
      after = c.lend.new.peer;
      lends = subst (λ (peer : Peer). LendsOf peer c.lend.result c.lend.new.peer) same c.lend.ensures;
      is = refl;
    }
