use Rattle.std.proofs.Common.{◌≡◌, ◌∙◌, ℕ, List, [], ◌∷◌, ◌++◌, Some, option_copied, sym, ap, subst}
use Rattle.group_model.specs.declared.entries.Answer.{Answer}
use Rattle.group_model.specs.declared.entries.Asked.TheVariants.{Serve}
use Rattle.group_model.specs.declared.entries.Entry.{Entry}
use Rattle.group_peers.specs.Peers.{sent_by}
use Rattle.server_steps.specs.Entries.{noted}
use Rattle.server_steps.specs.Sent.{pair_by}
use Rattle.server_steps.specs.Serves.{Serves}
use Rattle.group_run.proofs.ServedLemmas.{silent_served}
use Rattle.group_run.proofs.pulling.send.Goals as goal

pub returns-clause-ok : goal.returns-clause-ok
returns-clause-ok g c =
    let m = c.args.member.now in
    let datagram = c.in_ok-datagram.datagram in
    let answer = c.answer_served-answer.result in
    let is_sent : sent_by c.args.members.now.all m ≡ Some datagram =
    cc (c.sent.ensures, ap option_copied c.unwrap-sent.ensures, c.as_slice.ensures, c.in_ok-datagram.ensures) in
    record {
      datagram = datagram;
      sent = is_sent;
      answer = answer;
      no_push = ap pair_by c.answer_served-answer.ensures ∙ silent_served c.serve.result;
      serves = subst (λ (x : List ℕ × Answer). Serves g.D.Disk g.G.Signer g.R.Draws (Serve m x.0) x.1 c.args.server.now c.serve.new.self)
          (λ i. (c.as_slice-2.ensures i, sym c.answer_served-answer.ensures i)) (c.serve.ensures m);
      added = c.add.ensures.items
          ∙ ap (λ (last : Entry). c.args.entries.now.items ++ last ∷ []) (c.entry.ensures ∙ ap (noted (Serve m datagram) answer) c.draws_at-place.ensures);
    }
