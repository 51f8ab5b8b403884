use Rattle.std.proofs.Common.{◌∙◌, [], ap, subst, sym}
use Rattle.std.proofs.lemmas.List.Elements.{All-nil, All-same}
use Rattle.group_peers.specs.Peers.{AreOnce, names_of}
use Rattle.group_peers.specs.Private.Lent.{HasBothOrNone}
use Rattle.group_peers.proofs.PeerLemmas.{nobody_once}
use Rattle.group_peers.proofs.peers.Peers.new.Goals as goal

pub invariant_of-result : goal.invariant_of-result
invariant_of-result c = (
  subst AreOnce (sym c.new.ensures.items) nobody_once,
  c.new-2.ensures.empty ∙ ap names_of (sym c.new.ensures.items),
  All-same HasBothOrNone c.new.result.items [] c.new.ensures.items (All-nil HasBothOrNone),
)
