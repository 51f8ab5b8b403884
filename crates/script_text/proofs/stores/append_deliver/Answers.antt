use Rattle.std.proofs.Common.{[], ◌∷◌, ◌++◌, ap, sym, ◌∙◌, codes}
use Rattle.std.specs.Fmt.{decimal}
use Rattle.std.proofs.lemmas.Result.{on_ok_weaker}
use Rattle.script_text.specs.Report.{line_with, deliver_text}
use Rattle.script_text.proofs.LineLemmas.{delivery_pieces}
use Rattle.script_text.proofs.stores.append_deliver.Goals as goal

pub returns-in_ok-append_delivered-in-TookTraffic : goal.returns-in_ok-append_delivered-in-TookTraffic
returns-in_ok-append_delivered-in-TookTraffic c =
    let out = c.args.out.now in
    let m = c.args.member.now in
    let number = decimal c.args.sequence in
    let end = 32 ∷ line_with (codes "taken" ∷ codes "traffic" ∷ decimal c.in-TookTraffic.epoch ∷ []) in
    on_ok_weaker c.append_taken-in-TookTraffic.result (λ is. is
    ∙ ap (λ front. front ++ end) c.in_ok-append_delivered-in-TookTraffic.ensures
    ∙ delivery_pieces out m (codes " push ") number end
    ∙ ap (λ answer. out ++ deliver_text m c.args.sequence answer) (sym c.in-TookTraffic.is))
    c.append_taken-in-TookTraffic.ensures
