use Rattle.std.proofs.Common.{◌∙◌, sym}
use Rattle.gcks_core.proofs.waiting.why_no_join.Goals as goal

pub returns-clause-fits : goal.returns-clause-fits
returns-clause-fits c = λ none stranger.
    let tree = c.args.tree.now in
    let each = sym c.leaves.ensures.each ∙ c.leaves.ensures.leaves in
    c.granted_changes_fit.ensures.joins tree.depth tree.holders c.args.queue.now c.args.member.now each c.requires.fits stranger
    (sym c.has.ensures ∙ c.if-has.false) (λ full. c.if-held-leaves.false (c.count_taken-held.ensures ∙ full ∙ sym c.leaves.ensures.leaves))
