use Rattle.std.proofs.Common.{◌≡◌, ◌+◌, ◌-◌, ◌%◌, ◌∷◌, ◌++◌, ap, sym, ◌∙◌, arith}
use Rattle.script_text.specs.Private.Cursors.{leaves_on, lines_on}
use Rattle.script_text.specs.Soak.{joins_from, soak_member}
use Rattle.script_text.specs.declared.lines.Line.TheVariants.{End, Join}
use Rattle.script_text.proofs.SoakLemmas.{joins_from-more, joins_from-none}
use Rattle.script_text.proofs.soaks.Cursor.join.Goals as goal

pub returns-then-done-ge-JOINS : goal.returns-then-done-ge-JOINS
returns-then-done-ge-JOINS c =
    let was = c.args.self.now in
    ap (λ stage. lines_on stage was.state was.rounds) c.requires
    ∙ ap (λ joins. joins ++ (End ∷ leaves_on 5 was.state was.rounds))
    (joins_from-none (c.args.first + c.args.done) (12 - c.args.done) (omega (arith, c.if-done-ge-JOINS.true)))

pub returns : goal.returns
returns c =
    let was = c.args.self.now in
    let first = c.args.first in
    let done = c.args.done in
    let others = End ∷ leaves_on 5 was.state was.rounds in
    let number : (c.from.result + c.from-2.result) % c.from-3.result ≡ (first + done) % 80 = cc in
    ap (λ stage. lines_on stage was.state was.rounds) c.requires
    ∙ ap (λ joins. joins ++ others)
    (joins_from-more (first + done) (12 - done) (first + (done + 1)) (12 - (done + 1)) (omega (arith, c.if-done-ge-JOINS.false)) (omega arith))
    ∙ ap (λ m. Join m ∷ (joins_from (first + (done + 1)) (12 - (done + 1)) ++ others)) (sym (c.member_of.ensures ∙ ap soak_member number))
