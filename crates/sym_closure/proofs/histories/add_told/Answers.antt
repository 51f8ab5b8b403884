use Rattle.std.proofs.Common.{◌≡◌, sym, ap, ◌∙◌, subst}
use Rattle.std.specs.List.{flat_map}
use Rattle.std.proofs.lemmas.List.Folds.{flat_map-map}
use Rattle.std.proofs.lemmas.Result.{on_ok_weaker}
use Rattle.group_model.specs.declared.entries.SentReply.{SentReply}
use Rattle.group_model.specs.Derivations.{names_to, replies_in}
use Rattle.sym_closure.specs.Private.Gains.{Gains}
use Rattle.sym_closure.proofs.histories.add_told.Goals as goal

pub returns-in-Batched : goal.returns-in-Batched
returns-in-Batched c =
    let to_members = names_to c.args.members.now in
    let output = c.in-Batched.output in
    let replies : flat_map (λ (reply : SentReply). to_members reply.says) c.as_slice.result.now ≡ flat_map to_members (replies_in c.args.answer.now) =
    ap (flat_map (λ (reply : SentReply). to_members reply.says)) c.as_slice.ensures
    ∙ sym (flat_map-map to_members (λ (reply : SentReply). reply.says) output.replies)
    ∙ ap (λ answer. flat_map to_members (replies_in answer)) (sym c.in-Batched.is) in
    on_ok_weaker c.add_names.result (subst (λ keys. Gains c.args.names.now keys c.add_names.new.names) replies) c.add_names.ensures
