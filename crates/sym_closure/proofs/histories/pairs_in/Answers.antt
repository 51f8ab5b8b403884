use Rattle.std.proofs.Common.{◌≡◌, ◌++◌, List, sym, ap, ◌∙◌, subst}
use Rattle.std.specs.List.{flat_map}
use Rattle.std.proofs.lemmas.List.Folds.{flat_map-map}
use Rattle.group_terms.specs.declared.keys.Wrap.{Wrap}
use Rattle.group_model.specs.declared.entries.SentReply.{SentReply}
use Rattle.group_model.specs.Derivations.{pairs_in, reply_pairs}
use Rattle.group_model.specs.Replies.{says_of}
use Rattle.sym_closure.proofs.histories.pairs_in.Goals as goal

pub returns-in_ok-add_replies-in-Batched : goal.returns-in_ok-add_replies-in-Batched
returns-in_ok-add_replies-in-Batched c =
    let output = c.in-Batched.output in
    let told : List SentReply → List Wrap = λ replies. flat_map (λ (reply : SentReply). reply_pairs reply.says) replies in
    let wraps : c.in_ok-pairs-in-Batched.pairs ≡ output.wraps = c.in_ok-pairs-in-Batched.ensures ∙ c.as_slice.ensures in
    let replies : told c.as_slice-in-Batched.result.now ≡ flat_map reply_pairs (says_of output.replies) =
    ap told c.as_slice-in-Batched.ensures ∙ sym (flat_map-map reply_pairs (λ (reply : SentReply). reply.says) output.replies) in
    subst (λ answer. c.add_replies.new.pairs ≡ pairs_in answer) (sym c.in-Batched.is)
    (c.in_ok-add_replies-in-Batched.ensures ∙ λ i. wraps i ++ replies i)
