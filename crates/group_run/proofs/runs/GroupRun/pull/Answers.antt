use Rattle.std.proofs.Common.{◌≡◌, ◌∙◌, [], IsSome, refl, sym, ap, subst}
use Rattle.group_model.specs.declared.entries.Asked.TheVariants.{Serve}
use Rattle.member_steps.specs.Acts.{BeginsPull}
use Rattle.member_steps.specs.Members.{Members}
use Rattle.group_run.specs.Mails.{mail_since}
use Rattle.group_run.specs.Private.Kept.{IsKept, members_at}
use Rattle.group_run.specs.Views.{View}
use Rattle.group_run.proofs.KeptLemmas.{kept_as, kept_peers, kept_sent}
use Rattle.group_run.proofs.MemberLemmas.{has_begun, keeps_same, sender_peer}
use Rattle.group_run.proofs.MoveLemmas.{rules_quiet, sent_from, serves_sent}
use Rattle.group_run.proofs.runs.GroupRun.pull.Goals as goal

pub send-requires-clause-sent : goal.send-requires-clause-sent
send-requires-clause-sent g c = subst IsSome (sym (has_begun (c.in_ok-begin_pull.ensures.begins [])).sent) refl

pub invariant_of-self-in_err-send : goal.invariant_of-self-in_err-send
invariant_of-self-in_err-send g c =
    let run = c.self.inside in
    let begun = c.begin_pull.new.self in
    subst (λ server. IsKept g.D.Disk g.R.Draws server begun.all run.unread run.sent run.pushes.items run.board c.send.new.entries.items)
    (sym c.in_err-send.ensures.server)
    (kept_as g.D.Disk g.R.Draws (c.in_err-send.ensures.entries ∙ c.in_ok-reserve.ensures.items)
    (kept_peers g.D.Disk g.R.Draws (keeps_same (has_begun (c.in_ok-begin_pull.ensures.begins [])).same) c.self.invariant))

pub invariant_of-self-2 : goal.invariant_of-self-2
invariant_of-self-2 g c =
    let begun = c.begin_pull.new.self in
    let sent = c.in_ok-send.ensures.ok in
    kept_sent g.D.Disk g.G.Signer g.R.Draws c.what_is_known_stays_known.ensures (sender_peer begun.all c.args.member.now sent.datagram sent.sent) sent
    (kept_as g.D.Disk g.R.Draws c.in_ok-reserve.ensures.items
    (kept_peers g.D.Disk g.R.Draws (keeps_same (has_begun (c.in_ok-begin_pull.ensures.begins [])).same) c.self.invariant))

pub returns-clause-ok : goal.returns-clause-ok
returns-clause-ok g c =
    let run = c.self.inside in
    let begun = c.begin_pull.new.self in
    let sent = sent_from c.in_ok-reserve.ensures.items c.in_ok-send.ensures.ok in
    let mail = mail_since run.entries.items run.unread.place run.unread.taken in
    record {
      acted = members_at begun run.entries.items run.unread;
      begins = subst (λ (members : Members). BeginsPull (g.P.Draws.block_at c.args.draws.now) c.args.group.now c.args.member.now members
          (members_at begun run.entries.items run.unread)) (ap (λ (held : View g.row.D.Denot g.row.G.Denot g.row.R.Denot). held.members) c.self.view_is)
          (c.in_ok-begin_pull.ensures.begins mail);
      datagram = sent.datagram;
      sent = sent.sent;
      serves = serves_sent g.D.Disk g.G.Signer g.R.Draws c.self.view_is sent begun run.unread c.self.invariant.mail.within;
    }

pub returns-clause-rules : goal.returns-clause-rules
returns-clause-rules g c =
    let sent = c.in_ok-send.ensures.ok in
    rules_quiet g.D.Disk g.G.Signer g.R.Draws sent.answer c.self.invariant.host c.self.invariant.is_on (Serve c.args.member.now sent.datagram) tt sent.serves c.self.view_is
