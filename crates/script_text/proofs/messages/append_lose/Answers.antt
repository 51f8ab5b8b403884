use Rattle.std.proofs.Common.{[], ◌∷◌, ◌++◌, ap, append_assoc, codes, sym, ◌∙◌}
use Rattle.std.proofs.lemmas.Result.{on_ok_weaker}
use Rattle.script_text.specs.Report.{lose_text}
use Rattle.script_text.proofs.messages.append_lose.Goals as goal

pub returns-in-Done : goal.returns-in-Done
returns-in-Done c =
    let out = c.args.out.now in
    let m = c.args.member.now in
    on_ok_weaker c.append_words.result (λ is. is
    ∙ ap (λ text. out ++ text) (sym (append_assoc m (codes " loses next") (10 ∷ [])))
    ∙ ap (λ answer. out ++ lose_text m answer) (sym c.in-Done.is))
    c.append_words.ensures
