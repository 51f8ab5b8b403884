use Rattle.gcks_core.proofs.ReadyLemmas.{AreTold}
use Rattle.gcks_core.proofs.preparing.replies.Given as goal

abbrev pub invariant-loop-change : goal.invariant-loop-change
invariant-loop-change l = AreTold l.tree l.tree.kept l.values l.spi l.batch l.change-index l.replies
