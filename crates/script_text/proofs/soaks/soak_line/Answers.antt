use Rattle.std.proofs.Common.{◌≡◌, List, [], ◌∷◌, drop, ap, sym, ◌∙◌, arith, subst}
use Rattle.std.specs.Prelude.{MatchOption, slice_get}
use Rattle.std.proofs.lemmas.List.{drop-drop}
use Rattle.script_text.specs.Soak.{soak_lines}
use Rattle.script_text.specs.declared.lines.Line.{Line}
use Rattle.script_text.proofs.SoakLemmas.{none_after, taken_at}
use Rattle.script_text.proofs.soaks.soak_line.Goals as goal

pub returns-in_err-next_line : goal.returns-in_err-next_line
returns-in_err-next_line c =
    c.from_residual.ensures
    ∙ sym (none_after (soak_lines c.args.number) c.loop-place.place c.args.index (sym c.loop-place.invariant ∙ c.in_err-next_line.ensures)
    (omega (arith, c.loop-place-test.true)))

pub loop-place-preserved : goal.loop-place-preserved
loop-place-preserved c =
    ap (drop 1) (sym c.in_ok-next_line.ensures ∙ c.loop-place.invariant) ∙ drop-drop 1 c.loop-place.place (soak_lines c.args.number)

pub returns : goal.returns
returns c =
    let lines = soak_lines c.args.number in
    let place = c.loop-place.place in
    let taken = c.next_line-2 in
    let P : List Line → Type 0 = λ left. MatchOption taken.result (left ≡ []) (λ line. left ≡ line ∷ taken.new.self) in
    let last : place ≡ c.args.index = omega (arith, c.loop-place-test.false, c.loop-place.auto.place-end) in
    taken_at lines place taken.result taken.new.self (subst P c.loop-place.invariant taken.ensures) ∙ ap (slice_get lines) last
