use Rattle.std.proofs.Common.{◌≡◌, ◌∙◌, ◌+◌, ◌++◌, ◌∷◌, ℕ, List, [], map, take, sym, ap, subst}
use Rattle.std.proofs.lemmas.List.{map-append, take_all, take_more}
use Rattle.group_model.specs.declared.entries.SentReply.{SentReply}
use Rattle.server_steps.specs.Private.Told.{AreRepliesTo, kept_of}
use Rattle.server_steps.proofs.ReplyLemmas.{Told, replies_more}
use Rattle.server_steps.proofs.replying.make_replies.Goals as goal

pub loop-member-preserved : goal.loop-member-preserved
loop-member-preserved c =
    let told : Told = c.args.told.now in
    let place : ℕ = c.loop-member.member-index in
    let one = c.loop-member-item.result in
    let sas = c.args.sessions.now.sas in
    let before : List SentReply = c.loop-member.replies.sent in
    let added = c.in_ok-add_reply.ensures in
    let reply : SentReply = added.0 in
    let front : take place told ++ one ∷ [] ≡ take (place + 1) told =
    ap (λ one. take place told ++ one ∷ []) c.loop-member-item.is ∙ sym (take_more told place one c.loop-member-test.true) in
    record {
      sent = subst (λ (x : Told × List SentReply). AreRepliesTo sas x.0 x.1) (λ i. (front i, (sym added.2 i).sent))
          (replies_more sas (take place told) one before reply c.loop-member.invariant.sent added.1);
      kept = (λ i. (added.2 i).kept) ∙ ap (λ kept. kept ++ kept_of reply ∷ []) c.loop-member.invariant.kept ∙ sym (map-append kept_of before (reply ∷ []))
          ∙ (λ i. map kept_of (sym added.2 i).sent);
    }

pub returns-clause-sent : goal.returns-clause-sent
returns-clause-sent c =
    subst (λ (told : Told). AreRepliesTo c.args.sessions.now.sas told c.loop-member.replies.sent)
    (take_all c.loop-member.member-index c.args.told.now c.loop-member-test.false) c.loop-member.invariant.sent
