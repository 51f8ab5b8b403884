use Rattle.std.proofs.Common.{◌-◌, ◌∷◌, ◌++◌, ap, sym, ◌∙◌, arith}
use Rattle.script_text.specs.Private.Cursors.{leaves_on, lines_on}
use Rattle.script_text.specs.Soak.{leaves_from, next_state, number_drawn, rounds_from, soak_member, state_after}
use Rattle.script_text.specs.declared.lines.Line.TheVariants.{Batch, DeliverAll, Leave}
use Rattle.script_text.proofs.SoakLemmas.{leaves_from-more, leaves_from-none, state_after-more, state_after-none}
use Rattle.script_text.proofs.soaks.Cursor.leave.Goals as goal

pub returns-then-left-eq0 : goal.returns-then-left-eq0
returns-then-left-eq0 c =
    let was = c.args.self.now in
    let left = c.args.left in
    ap (λ stage. lines_on stage was.state was.rounds) c.requires
    ∙ ap (λ leaves. leaves ++ (Batch ∷ DeliverAll ∷ rounds_from (state_after was.state left) was.rounds)) (leaves_from-none was.state left c.if-left-eq0.true)
    ∙ ap (λ state. Batch ∷ DeliverAll ∷ rounds_from state was.rounds) (state_after-none was.state left c.if-left-eq0.true)

pub returns : goal.returns
returns c =
    let was = c.args.self.now in
    let left = c.args.left in
    let drawn = c.draw-number in
    let next = next_state was.state in
    ap (λ stage. lines_on stage was.state was.rounds) c.requires
    ∙ ap (λ leaves. leaves ++ (Batch ∷ DeliverAll ∷ rounds_from (state_after was.state left) was.rounds))
    (leaves_from-more was.state left (left - 1) (omega (arith, c.if-left-eq0.false)))
    ∙ ap (λ state. Leave (soak_member (number_drawn next)) ∷ (leaves_from next (left - 1) ++ (Batch ∷ DeliverAll ∷ rounds_from state was.rounds)))
    (state_after-more was.state left (left - 1) (omega (arith, c.if-left-eq0.false)))
    ∙ ap (λ state. Leave (soak_member (number_drawn state)) ∷ leaves_on (left - 1) state was.rounds) (sym drawn.ensures.state)
    ∙ ap (λ m. Leave m ∷ leaves_on (left - 1) drawn.new.state was.rounds) (sym (c.member_of.ensures ∙ ap soak_member drawn.ensures.number))
