use Rattle.std.proofs.Common.{◌++◌, ap, append_assoc, sym, ◌∙◌}
use Rattle.std.proofs.lemmas.Result.{on_ok_weaker}
use Rattle.script_text.specs.Report.{reopen_text, found_again_line, pair_lines}
use Rattle.script_text.proofs.openings.append_reopen.Goals as goal

pub returns-in_ok-append_found_again-in-Opened : goal.returns-in_ok-append_found_again-in-Opened
returns-in_ok-append_found_again-in-Opened c =
    let out = c.args.out.now in
    let pair = pair_lines c.in-Opened.resent in
    on_ok_weaker c.append_pair.result (λ is. is
    ∙ ap (λ front. front ++ pair) c.in_ok-append_found_again-in-Opened.ensures
    ∙ append_assoc out (found_again_line c.in-Opened.group) pair
    ∙ ap (λ answer. out ++ reopen_text answer) (sym c.in-Opened.is))
    c.append_pair.ensures
