use Rattle.std.proofs.Common.{sym, ap, ◌∙◌, subst}
use Rattle.std.specs.List.{flat_map}
use Rattle.std.proofs.lemmas.List.{append-nil}
use Rattle.std.proofs.lemmas.Result.{on_ok_weaker}
use Rattle.group_model.specs.Derivations.{names_to, reply_in}
use Rattle.sym_closure.specs.Private.Gains.{Gains}
use Rattle.sym_closure.proofs.histories.add_replied.Goals as goal

pub returns-in-Some : goal.returns-in-Some
returns-in-Some c =
    let to_members = names_to c.args.members.now in
    on_ok_weaker c.add_names_of.result
    (subst (λ keys. Gains c.args.names.now keys c.add_names_of.new.names)
    (sym (append-nil (to_members c.in-Some.reply)) ∙ ap (λ said. flat_map to_members (reply_in said)) (sym c.in-Some.is)))
    c.add_names_of.ensures
