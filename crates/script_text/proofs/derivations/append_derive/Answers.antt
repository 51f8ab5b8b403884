use Rattle.std.proofs.Common.{◌∷◌, [], ◌++◌, ap, sym, ◌∙◌}
use Rattle.std.specs.Fmt.{decimal}
use Rattle.std.specs.List.{flat_map}
use Rattle.std.proofs.lemmas.Result.{on_ok_weaker}
use Rattle.script_text.specs.Report.{derive_text, derived_word}
use Rattle.script_text.proofs.LineLemmas.{derive_pieces}
use Rattle.script_text.proofs.derivations.append_derive.Goals as goal

pub returns-in_ok-append_names-in-Derived : goal.returns-in_ok-append_names-in-Derived
returns-in_ok-append_names-in-Derived c =
    let out = c.args.out.now in
    let number = decimal c.args.epoch in
    let members = c.args.members.now in
    let end = 32 ∷ (derived_word c.in-Derived.yes ++ 10 ∷ []) in
    on_ok_weaker c.append_derived.result (λ is. is
    ∙ ap (λ front. front ++ end) (c.in_ok-append_names-in-Derived.ensures
    ∙ ap (λ names. c.append_number.new.out ++ flat_map (λ name. 32 ∷ name) names) c.names.ensures.names
    ∙ ap (λ front. front ++ flat_map (λ name. 32 ∷ name) members) (c.in_ok-append_number-in-Derived.ensures ∙ ap (λ front. front ++ number) c.in_ok-extend-in-Derived.ensures.ok))
    ∙ derive_pieces out number (derived_word c.in-Derived.yes) members
    ∙ ap (λ answer. out ++ derive_text c.args.epoch members answer) (sym c.in-Derived.is))
    c.append_derived.ensures
