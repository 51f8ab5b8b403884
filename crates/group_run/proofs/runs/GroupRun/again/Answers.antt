use Rattle.std.proofs.Common.{◌≡◌, ◌∙◌, None, refl, sym}
use Rattle.std.proofs.lemmas.Result.{on_ok_weaker}
use Rattle.group_model.specs.declared.entries.Asked.TheVariants.{Serve}
use Rattle.group_peers.specs.Peers.{sent_by}
use Rattle.group_run.proofs.KeptLemmas.{kept_as, kept_sent}
use Rattle.group_run.proofs.MemberLemmas.{none_of, sender_peer}
use Rattle.group_run.proofs.MoveLemmas.{rules_quiet, rules_stay, sends_again, sends_nothing, sent_from, serves_sent}
use Rattle.group_run.proofs.runs.GroupRun.again.Goals as goal

pub invariant_of-self-then-is_some : goal.invariant_of-self-then-is_some
invariant_of-self-then-is_some g c =
    let sent = c.in_ok-send.ensures.ok in
    kept_sent g.D.Disk g.G.Signer g.R.Draws c.what_is_known_stays_known.ensures
    (sender_peer c.self.inside.members.all c.args.member.now sent.datagram sent.sent) sent
    (kept_as g.D.Disk g.R.Draws c.in_ok-reserve.ensures.items c.self.invariant)

pub returns-then-is_some-clause-ok : goal.returns-then-is_some-clause-ok
returns-then-is_some-clause-ok g c =
    let run = c.self.inside in
    let sent = sent_from c.in_ok-reserve.ensures.items c.in_ok-send.ensures.ok in
    sends_again g.D.Disk g.G.Signer g.R.Draws c.self.view_is c.args.member.now sent refl
    (serves_sent g.D.Disk g.G.Signer g.R.Draws c.self.view_is sent run.members run.unread c.self.invariant.mail.within)

pub returns-then-is_some-clause-stays : goal.returns-then-is_some-clause-stays
returns-then-is_some-clause-stays g c =
    let sent = c.in_ok-send.ensures.ok in
    rules_stay c.self.view_is
    (rules_quiet g.D.Disk g.G.Signer g.R.Draws sent.answer c.self.invariant.host c.self.invariant.is_on (Serve c.args.member.now sent.datagram) tt sent.serves c.self.view_is)
    refl

pub returns-clause-ok : goal.returns-clause-ok
returns-clause-ok g c =
    let m = c.args.member.now in
    let none : sent_by c.self.inside.members.all m ≡ None =
    sym c.sent.ensures ∙ none_of c.sent.result (sym c.is_some.ensures ∙ c.if-is_some.false) in
    on_ok_weaker c.note_nothing.result (λ acts. sends_nothing g.D.Disk g.G.Signer g.R.Draws c.self.view_is m none acts) c.note_nothing.ensures.ok
