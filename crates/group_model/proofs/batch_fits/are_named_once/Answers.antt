use Rattle.std.proofs.Common.{◌∙◌, sym, ap, not, ◌&&◌, ◌+◌, map, drop}
use Rattle.group_terms.specs.Changes.{member_of}
use Rattle.group_model.specs.Places.{names_once}
use Rattle.group_model.proofs.FitLemmas.{named-at}
use Rattle.group_model.proofs.batch_fits.are_named_once.Goals as goal

pub returns-then-is_named : goal.returns-then-is_named
returns-then-is_named c =
    let rest = names_once (map member_of (drop (c.loop-i.i + 1) c.args.changes.now)) in
    sym (ap (λ b. not b && rest) c.if-is_named.true)
    ∙ sym (named-at c.args.changes.now c.loop-i.i c.index-changes-i.result c.member.result.now c.is_named.result c.loop-i-test.true c.index-changes-i.is c.member.ensures c.is_named.ensures)
    ∙ c.loop-i.invariant

pub loop-i-preserved : goal.loop-i-preserved
loop-i-preserved c =
    let rest = names_once (map member_of (drop (c.loop-i.i + 1) c.args.changes.now)) in
    sym (ap (λ b. not b && rest) c.if-is_named.false)
    ∙ sym (named-at c.args.changes.now c.loop-i.i c.index-changes-i.result c.member.result.now c.is_named.result c.loop-i-test.true c.index-changes-i.is c.member.ensures c.is_named.ensures)
    ∙ c.loop-i.invariant
