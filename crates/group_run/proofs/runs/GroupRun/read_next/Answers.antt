use Rattle.std.proofs.Common.{◌≡◌, ◌∙◌, inl, inr, IsSome, List, refl, sym, ap, subst}
use Rattle.group_model.specs.declared.entries.Asked.TheVariants.{Serve}
use Rattle.group_model.specs.declared.entries.Entry.{Entry}
use Rattle.member_steps.specs.Acts.{Ignores}
use Rattle.member_steps.specs.Members.{Members}
use Rattle.group_run.specs.Private.Kept.{IsKept, IsReadable, members_at}
use Rattle.group_run.specs.Reads.{AreAtRest}
use Rattle.group_run.specs.Tells.{HasReadSome}
use Rattle.group_run.specs.Views.{View}
use Rattle.group_run.proofs.AddLemmas.{added}
use Rattle.group_run.proofs.KeptLemmas.{kept_acted, kept_as, kept_read, kept_sent, named_as}
use Rattle.group_run.proofs.LeftLemmas.{kept_left_nearer, sent_nearer}
use Rattle.group_run.proofs.MailLemmas.{members_still}
use Rattle.group_run.proofs.MemberLemmas.{has_agreed, has_kept, ignored_same, sender_peer}
use Rattle.group_run.proofs.MoveLemmas.{held_as, keeps_next, rules_as, rules_quiet, rules_stay, sends_next, sent_from, serves_sent}
use Rattle.group_run.proofs.ReadLemmas.{on_err, reads_at}
use Rattle.group_run.proofs.runs.GroupRun.read_next.Goals as goal

pub invariant_of-self-in_err-read : goal.invariant_of-self-in_err-read
invariant_of-self-in_err-read g c =
    let same = c.items.ensures ∙ c.in_ok-reserve.ensures.items in
    kept_as g.D.Disk g.R.Draws c.in_ok-reserve.ensures.items
    (kept_read g.D.Disk g.R.Draws (named_as c.in_err-read.ensures.peers)
    (subst (λ entries. IsReadable c.read_mail.new.members.all entries c.read_mail.new.unread) same c.in_err-read.ensures.readable) c.self.invariant)

pub invariant_of-self-in-Nothing : goal.invariant_of-self-in-Nothing
invariant_of-self-in-Nothing g c =
    let same = c.items.ensures ∙ c.in_ok-reserve.ensures.items in
    kept_as g.D.Disk g.R.Draws c.in_ok-reserve.ensures.items
    (kept_read g.D.Disk g.R.Draws (named_as c.in_ok-read.ensures.peers)
    (subst (λ entries. IsReadable c.read_mail.new.members.all entries c.read_mail.new.unread) same c.in_ok-read.ensures.readable) c.self.invariant)

pub send-requires-clause-sent : goal.send-requires-clause-sent
send-requires-clause-sent g c =
    let same = c.items.ensures ∙ c.in_ok-reserve.ensures.items in
    let run = c.self.inside in
    let reads = reads_at c.in_ok-read.read _ run.members c.read_mail.new.members run.unread c.read_mail.new.unread _ run.entries.items same c.in-Sends.is
    c.in_ok-read.ensures.reads in
    subst IsSome (sym (has_agreed reads.3).sent) refl

pub invariant_of-self-in_err-send-in-Sends : goal.invariant_of-self-in_err-send-in-Sends
invariant_of-self-in_err-send-in-Sends g c =
    let same = c.items.ensures ∙ c.in_ok-reserve.ensures.items in
    let run = c.self.inside in
    subst (λ server. IsKept g.D.Disk g.R.Draws server c.read_mail.new.members.all c.read_mail.new.unread run.sent run.pushes.items run.board c.send.new.entries.items)
    (sym c.in_err-send-in-Sends.ensures.server)
    (kept_as g.D.Disk g.R.Draws (c.in_err-send-in-Sends.ensures.entries ∙ c.in_ok-reserve.ensures.items)
    (kept_read g.D.Disk g.R.Draws (named_as c.in_ok-read.ensures.peers)
    (subst (λ entries. IsReadable c.read_mail.new.members.all entries c.read_mail.new.unread) same c.in_ok-read.ensures.readable) c.self.invariant))

pub invariant_of-self-in-Sends : goal.invariant_of-self-in-Sends
invariant_of-self-in-Sends g c =
    let same = c.items.ensures ∙ c.in_ok-reserve.ensures.items in
    let sent = sent_from c.in_ok-reserve.ensures.items c.in_ok-send-in-Sends.ensures.ok in
    kept_sent g.D.Disk g.G.Signer g.R.Draws c.what_is_known_stays_known.ensures
    (sender_peer c.read_mail.new.members.all _ sent.datagram sent.sent) sent
    (kept_read g.D.Disk g.R.Draws (named_as c.in_ok-read.ensures.peers)
    (subst (λ entries. IsReadable c.read_mail.new.members.all entries c.read_mail.new.unread) same c.in_ok-read.ensures.readable) c.self.invariant)

pub invariant_of-self-in-Ended : goal.invariant_of-self-in-Ended
invariant_of-self-in-Ended g c =
    let same = c.items.ensures ∙ c.in_ok-reserve.ensures.items in
    let run = c.self.inside in
    let reads = reads_at c.in_ok-read.read _ run.members c.read_mail.new.members run.unread c.read_mail.new.unread _ run.entries.items same c.in-Ended.is
    c.in_ok-read.ensures.reads in
    kept_acted g.D.Disk g.R.Draws c.what_is_known_stays_known.ensures
    (added c.in_ok-reserve.ensures.items c.draws_at-place.ensures c.entry.ensures c.add.ensures.items)
    (named_as c.in_ok-read.ensures.peers) (record { none = refl }) (has_kept reads.2).plain.no_push
    (subst (λ entries. IsReadable c.read_mail.new.members.all entries c.read_mail.new.unread) same c.in_ok-read.ensures.readable) c.self.invariant

pub returns-in-Nothing-clause-ok : goal.returns-in-Nothing-clause-ok
returns-in-Nothing-clause-ok g c =
    let same = c.items.ensures ∙ c.in_ok-reserve.ensures.items in
    let run = c.self.inside in
    let reads = reads_at c.in_ok-read.read _ run.members c.read_mail.new.members run.unread c.read_mail.new.unread _ run.entries.items same c.in-Nothing.is
    c.in_ok-read.ensures.reads in
    record {
      rest = members_at c.read_mail.new.members run.entries.items c.read_mail.new.unread;
      at_rest = subst (λ (held : View g.row.D.Denot g.row.G.Denot g.row.R.Denot).
          AreAtRest held.members (members_at c.read_mail.new.members run.entries.items c.read_mail.new.unread)) c.self.view_is reads;
      now = (λ i. held_as run.server (members_at c.read_mail.new.members (c.in_ok-reserve.ensures.items i) c.read_mail.new.unread) (c.in_ok-reserve.ensures.items i))
          ∙ ap (λ (held : View g.row.D.Denot g.row.G.Denot g.row.R.Denot). record held { members = members_at c.read_mail.new.members run.entries.items c.read_mail.new.unread })
          c.self.view_is;
    }

pub returns-in-Nothing-clause-stays : goal.returns-in-Nothing-clause-stays
returns-in-Nothing-clause-stays g c =
    let same = c.items.ensures ∙ c.in_ok-reserve.ensures.items in
    let run = c.self.inside in
    let reads = reads_at c.in_ok-read.read _ run.members c.read_mail.new.members run.unread c.read_mail.new.unread _ run.entries.items same c.in-Nothing.is
    c.in_ok-read.ensures.reads in
    rules_stay c.self.view_is (rules_as c.self.view_is) (ignored_same reads.0.0 _ _ reads.0.1).place

pub returns-in_ok-send-in-Sends-clause-ok : goal.returns-in_ok-send-in-Sends-clause-ok
returns-in_ok-send-in-Sends-clause-ok g c =
    let same = c.items.ensures ∙ c.in_ok-reserve.ensures.items in
    let run = c.self.inside in
    let reads = reads_at c.in_ok-read.read _ run.members c.read_mail.new.members run.unread c.read_mail.new.unread _ run.entries.items same c.in-Sends.is
    c.in_ok-read.ensures.reads in
    let sent = sent_from c.in_ok-reserve.ensures.items c.in_ok-send-in-Sends.ensures.ok in
    let readable = subst (λ entries. IsReadable c.read_mail.new.members.all entries c.read_mail.new.unread) same c.in_ok-read.ensures.readable in
    inl (sends_next g.D.Disk g.G.Signer g.R.Draws c.self.view_is _ reads.2 reads.1 reads.3 sent
    (serves_sent g.D.Disk g.G.Signer g.R.Draws c.self.view_is sent c.read_mail.new.members c.read_mail.new.unread readable.within))

pub returns-in_ok-send-in-Sends-clause-stays : goal.returns-in_ok-send-in-Sends-clause-stays
returns-in_ok-send-in-Sends-clause-stays g c =
    let same = c.items.ensures ∙ c.in_ok-reserve.ensures.items in
    let run = c.self.inside in
    let reads = reads_at c.in_ok-read.read _ run.members c.read_mail.new.members run.unread c.read_mail.new.unread _ run.entries.items same c.in-Sends.is
    c.in_ok-read.ensures.reads in
    let sent = c.in_ok-send-in-Sends.ensures.ok in
    rules_stay c.self.view_is
    (rules_quiet g.D.Disk g.G.Signer g.R.Draws sent.answer c.self.invariant.host c.self.invariant.is_on (Serve _ sent.datagram) tt sent.serves c.self.view_is)
    ((has_agreed reads.3).place ∙ (ignored_same reads.1.0 _ _ reads.1.1).place)

pub returns-in-Ended-clause-ok : goal.returns-in-Ended-clause-ok
returns-in-Ended-clause-ok g c =
    let same = c.items.ensures ∙ c.in_ok-reserve.ensures.items in
    let run = c.self.inside in
    let reads = reads_at c.in_ok-read.read _ run.members c.read_mail.new.members run.unread c.read_mail.new.unread _ run.entries.items same c.in-Ended.is
    c.in_ok-read.ensures.reads in
    let is = added c.in_ok-reserve.ensures.items c.draws_at-place.ensures c.entry.ensures c.add.ensures.items in
    let readable = subst (λ entries. IsReadable c.read_mail.new.members.all entries c.read_mail.new.unread) same c.in_ok-read.ensures.readable in
    inr (keeps_next g.D.Disk g.G.Signer g.R.Draws c.self.view_is _ _ reads.1 reads.2 is
    (members_still c.read_mail.new.unread readable.within is c.read_mail.new.members (record { none = refl })))

pub returns-in-Ended-clause-stays : goal.returns-in-Ended-clause-stays
returns-in-Ended-clause-stays g c =
    let same = c.items.ensures ∙ c.in_ok-reserve.ensures.items in
    let run = c.self.inside in
    let reads = reads_at c.in_ok-read.read _ run.members c.read_mail.new.members run.unread c.read_mail.new.unread _ run.entries.items same c.in-Ended.is
    c.in_ok-read.ensures.reads in
    rules_stay c.self.view_is (rules_as c.self.view_is) ((has_kept reads.2).place ∙ (ignored_same reads.1.0 _ _ reads.1.1).place)

pub returns-in_ok-send-in-Sends-clause-nearer : goal.returns-in_ok-send-in-Sends-clause-nearer
returns-in_ok-send-in-Sends-clause-nearer g c =
    let same = c.items.ensures ∙ c.in_ok-reserve.ensures.items in
    let run = c.self.inside in
    let reads = reads_at c.in_ok-read.read _ run.members c.read_mail.new.members run.unread c.read_mail.new.unread _ run.entries.items same c.in-Sends.is
    c.in_ok-read.ensures.reads in
    let sent = sent_from c.in_ok-reserve.ensures.items c.in_ok-send-in-Sends.ensures.ok in
    let readable = subst (λ entries. IsReadable c.read_mail.new.members.all entries c.read_mail.new.unread) same c.in_ok-read.ensures.readable in
    λ read. sent_nearer c.read_mail.new.members c.read_mail.new.unread readable.within reads.1 c.self.view_is reads.3 sent

pub returns-in-Ended-clause-nearer : goal.returns-in-Ended-clause-nearer
returns-in-Ended-clause-nearer g c =
    let same = c.items.ensures ∙ c.in_ok-reserve.ensures.items in
    let run = c.self.inside in
    let reads = reads_at c.in_ok-read.read _ run.members c.read_mail.new.members run.unread c.read_mail.new.unread _ run.entries.items same c.in-Ended.is
    c.in_ok-read.ensures.reads in
    let is = added c.in_ok-reserve.ensures.items c.draws_at-place.ensures c.entry.ensures c.add.ensures.items in
    let readable = subst (λ entries. IsReadable c.read_mail.new.members.all entries c.read_mail.new.unread) same c.in_ok-read.ensures.readable in
    λ read. kept_left_nearer c.read_mail.new.members c.read_mail.new.unread readable.within reads.1 c.self.view_is is reads.2

pub returns-in_err-reserve-clause-err : goal.returns-in_err-reserve-clause-err
returns-in_err-reserve-clause-err g c =
    let run = c.self.inside in
    let items = c.in_err-reserve.ensures.items in
    let held : View g.row.D.Denot g.row.G.Denot g.row.R.Denot =
    record { server = run.server; members = members_at run.members c.reserve.new.self.items run.unread; entries = c.reserve.new.self.items } in
    let reads : HasReadSome c.args.self.now held = record {
      server = ap (λ (held : View g.row.D.Denot g.row.G.Denot g.row.R.Denot). held.server) c.self.view_is;
      entries = items ∙ ap (λ (held : View g.row.D.Denot g.row.G.Denot g.row.R.Denot). held.entries) c.self.view_is;
      read = held.members;
      ignored = (
        0,
        (λ i. members_at run.members (items i) run.unread) ∙ ap (λ (held : View g.row.D.Denot g.row.G.Denot g.row.R.Denot). held.members) c.self.view_is,
      );
      rest = inl refl;
    } in
    on_err _ _ reads

pub returns-in_err-read-clause-err : goal.returns-in_err-read-clause-err
returns-in_err-read-clause-err g c =
    let run = c.self.inside in
    let items = c.in_ok-reserve.ensures.items in
    let now = c.read_mail.new.members in
    let unread = c.read_mail.new.unread in
    let before : members_at run.members c.reserve.new.self.items run.unread ≡ c.args.self.now.members =
    (λ i. members_at run.members (items i) run.unread) ∙ ap (λ (held : View g.row.D.Denot g.row.G.Denot g.row.R.Denot). held.members) c.self.view_is in
    let held : View g.row.D.Denot g.row.G.Denot g.row.R.Denot =
    record { server = run.server; members = members_at now c.reserve.new.self.items unread; entries = c.reserve.new.self.items } in
    let reads : HasReadSome c.args.self.now held = record {
      server = ap (λ (held : View g.row.D.Denot g.row.G.Denot g.row.R.Denot). held.server) c.self.view_is;
      entries = items ∙ ap (λ (held : View g.row.D.Denot g.row.G.Denot g.row.R.Denot). held.entries) c.self.view_is;
      read = held.members;
      ignored = subst (λ (members : Members). Ignores members (members_at now c.reserve.new.self.items unread)) before
          (subst (λ (entries : List Entry). Ignores (members_at run.members entries run.unread) (members_at now entries unread)) c.items.ensures
          c.in_err-read.ensures.err);
      rest = inl refl;
    } in
    on_err _ _ reads
