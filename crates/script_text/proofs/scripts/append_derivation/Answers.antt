use Rattle.std.proofs.Common.{◌++◌, ◌∷◌, ap, append_assoc, codes, sym, ◌∙◌}
use Rattle.std.specs.Fmt.{decimal}
use Rattle.std.specs.List.{flat_map}
use Rattle.std.proofs.lemmas.Result.{on_ok_weaker}
use Rattle.script_text.proofs.LineLemmas.{joined_after}
use Rattle.script_text.proofs.scripts.append_derivation.Goals as goal

pub returns : goal.returns
returns c =
    let out = c.args.out.now in
    let members = c.args.members.now in
    let number = decimal c.args.epoch in
    let others = flat_map (λ name. 32 ∷ name) members in
    on_ok_weaker c.append_names.result (λ is. is
    ∙ ap (λ names. c.append_number.new.out ++ flat_map (λ name. 32 ∷ name) names) c.names.ensures.names
    ∙ ap (λ front. front ++ others) (c.in_ok-append_number.ensures ∙ ap (λ front. front ++ number) c.in_ok-extend.ensures.ok)
    ∙ append_assoc (out ++ codes "derive ") number others
    ∙ append_assoc out (codes "derive ") (number ++ others)
    ∙ ap (λ rest. out ++ (codes "derive " ++ rest)) (sym (joined_after number members)))
    c.append_names.ensures
