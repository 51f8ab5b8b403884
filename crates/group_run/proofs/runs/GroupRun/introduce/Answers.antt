use Rattle.std.proofs.Common.{◌≡◌, ◌∙◌, [], List, refl, sym, ap, subst}
use Rattle.group_model.specs.declared.entries.Answer.{Answer}
use Rattle.group_model.specs.declared.entries.Asked.TheVariants.{Introduce}
use Rattle.group_peers.specs.declared.members.Peer.{Peer}
use Rattle.member_steps.specs.Acts.{IsUse}
use Rattle.member_steps.specs.Members.{Members}
use Rattle.member_steps.specs.Views.{members_with}
use Rattle.server_steps.specs.Sent.{pair_by}
use Rattle.server_steps.specs.Serves.{Serves}
use Rattle.group_run.specs.Mails.{mail_since}
use Rattle.group_run.specs.Views.{View}
use Rattle.group_run.proofs.AddLemmas.{added}
use Rattle.group_run.proofs.KeptLemmas.{KeepsPeers, keeps_then, kept_silent}
use Rattle.group_run.proofs.MailLemmas.{members_still}
use Rattle.group_run.proofs.MemberLemmas.{has_used, introduced_place, introduced_same, keeps_same, phase_peer}
use Rattle.group_run.proofs.MoveLemmas.{serves_by}
use Rattle.group_run.proofs.ServedLemmas.{silent_done}
use Rattle.group_run.proofs.runs.GroupRun.introduce.Goals as goal

pub invariant_of-self-2 : goal.invariant_of-self-2
invariant_of-self-2 g c =
    let run = c.self.inside in
    let phase = c.used-drawn.result in
    let used = c.used-drawn.new.members in
    let now = c.note_introduced.new.members in
    let answer = c.answer_done-answer.result in
    let keeps : KeepsPeers run.members.all used.all =
    subst (λ (peers : List Peer). KeepsPeers peers used.all) c.in_ok-reserve-2.ensures.all (has_used (g.P.Draws.block_at c.args.draws.now) c.args.member.now (c.used-drawn.ensures.used [])).keeps in
    let more : KeepsPeers used.all now.all =
    subst (λ (peers : List Peer). KeepsPeers used.all peers) (sym (ap (λ (members : Members). members.all) (c.note_introduced.ensures [])))
    (keeps_same (introduced_same answer phase.member (members_with used []))) in
    kept_silent g.D.Disk g.R.Draws g.G.Signer c.what_is_known_stays_known.ensures {request = Introduce phase}
    (added c.in_ok-reserve.ensures.items c.draws_at-place.ensures c.entry.ensures c.add.ensures.items)
    (subst (λ (due : Answer). Serves g.D.Disk g.G.Signer g.R.Draws (Introduce phase) due run.server c.introduce.new.self) (sym c.answer_done-answer.ensures)
    c.introduce.ensures)
    (keeps_then keeps more) (more.each phase.member (phase_peer used.all c.args.member.now phase c.used-drawn.ensures.phase))
    (ap pair_by c.answer_done-answer.ensures ∙ silent_done c.introduce.result) c.self.invariant

pub returns-clause-ok : goal.returns-clause-ok
returns-clause-ok g c =
    let run = c.self.inside in
    let phase = c.used-drawn.result in
    let used = c.used-drawn.new.members in
    let answer = c.answer_done-answer.result in
    let mail = mail_since run.entries.items run.unread.place run.unread.taken in
    let is = added c.in_ok-reserve.ensures.items c.draws_at-place.ensures c.entry.ensures c.add.ensures.items in
    let before : members_with c.reserve-2.new.self mail ≡ c.args.self.now.members =
    (λ i. record { all = c.in_ok-reserve-2.ensures.all i; mail = mail; place = c.in_ok-reserve-2.ensures.place i })
    ∙ ap (λ (held : View g.row.D.Denot g.row.G.Denot g.row.R.Denot). held.members) c.self.view_is in
    record {
      used = members_with used mail;
      uses = subst (λ (members : Members). IsUse (g.P.Draws.block_at c.args.draws.now) c.args.member.now members (members_with used mail)) before
          (c.used-drawn.ensures.used mail);
      phase = phase;
      is = c.used-drawn.ensures.phase;
      serves = serves_by g.D.Disk g.G.Signer g.R.Draws (Introduce phase) answer c.self.view_is is
          (subst (λ (due : Answer). Serves g.D.Disk g.G.Signer g.R.Draws (Introduce phase) due run.server c.introduce.new.self) (sym c.answer_done-answer.ensures)
          c.introduce.ensures)
          (members_with used mail)
          (members_still run.unread c.self.invariant.mail.within is c.note_introduced.new.members (record { none = refl }) ∙ c.note_introduced.ensures mail);
    }

pub returns-clause-place : goal.returns-clause-place
returns-clause-place g c =
    let answer = c.answer_done-answer.result in
    c.used-drawn.ensures.place
    ∙ sym (ap (λ (members : Members). members.place) (c.note_introduced.ensures []) ∙ introduced_place answer c.used-drawn.result.member (members_with c.used-drawn.new.members []))
