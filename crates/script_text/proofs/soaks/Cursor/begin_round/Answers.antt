use Rattle.std.proofs.Common.{◌≡◌, ℕ, ◌+◌, ◌-◌, List, ◌∷◌, ◌++◌, ap, sym, ◌∙◌, arith}
use Rattle.script_text.specs.Private.Cursors.{leaves_on, lines_on}
use Rattle.script_text.specs.Soak.{joins_from, number_drawn}
use Rattle.script_text.specs.declared.lines.Line.{Line}
use Rattle.script_text.specs.declared.lines.Line.TheVariants.{End, Together}
use Rattle.script_text.proofs.SoakLemmas.{rounds_from-more, rounds_from-none}
use Rattle.script_text.proofs.soaks.Cursor.begin_round.Goals as goal

pub returns-then-self-eq0 : goal.returns-then-self-eq0
returns-then-self-eq0 c =
    let was = c.args.self.now in
    ap (λ stage. lines_on stage was.state was.rounds) c.requires ∙ rounds_from-none was.state was.rounds c.if-self-eq0.true

pub returns : goal.returns
returns c =
    let was = c.args.self.now in
    let drawn = c.draw-first in
    let lines : ℕ → ℕ → List Line = λ number state. Together ∷ (joins_from number 12 ++ (End ∷ leaves_on 5 state (was.rounds - 1))) in
    let number : number_drawn drawn.new.state ≡ drawn.result + 0 = omega (arith, drawn.ensures.number) in
    ap (λ stage. lines_on stage was.state was.rounds) c.requires
    ∙ rounds_from-more was.state was.rounds (was.rounds - 1) (omega (arith, c.if-self-eq0.false))
    ∙ ap (λ state. lines (number_drawn state) state) (sym drawn.ensures.state)
    ∙ ap (λ first. lines first drawn.new.state) number
