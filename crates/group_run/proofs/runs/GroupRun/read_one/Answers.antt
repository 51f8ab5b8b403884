use Rattle.std.proofs.Common.{◌∙◌, [], ◌∷◌, ◌++◌, false, true, IsSome, refl, sym, ap, subst}
use Rattle.std.proofs.lemmas.List.{append-nil}
use Rattle.group_model.specs.declared.entries.Asked.TheVariants.{Keep, Serve}
use Rattle.group_run.specs.Mails.{mail_since}
use Rattle.group_run.specs.Private.Kept.{IsKept}
use Rattle.member_steps.specs.Views.{members_with}
use Rattle.server_steps.specs.Entries.{noted}
use Rattle.group_run.specs.Private.Lefts.{left_at}
use Rattle.group_run.specs.Views.{View}
use Rattle.group_run.specs.declared.reading.Read.TheVariants.{Ended, Nothing, Sends}
use Rattle.group_run.proofs.AddLemmas.{added}
use Rattle.group_run.proofs.AfterLemmas.{took_alike}
use Rattle.group_run.proofs.KeptLemmas.{kept_acted, kept_as, kept_peers, kept_sent, named_as, readable_by}
use Rattle.group_run.proofs.MemberLemmas.{has_agreed, has_kept, sender_peer}
use Rattle.group_run.proofs.MoveLemmas.{rules_as, rules_quiet, sent_from}
use Rattle.group_run.proofs.ReachLemmas.{beside_as, has_read, has_stopped, on_err_then, on_ok_then, reads_ignored, reads_kept, reads_sent, stops_still, takes_at}
use Rattle.group_run.proofs.ReadLemmas.{on_err}
use Rattle.group_run.proofs.runs.GroupRun.read_one.Goals as goal

pub returns-in_err-reserve-clause-err : goal.returns-in_err-reserve-clause-err
returns-in_err-reserve-clause-err g c =
    on_err _ _ (stops_still g.D.Disk g.G.Signer g.R.Draws c.args.left.now c.self.view_is refl c.in_err-reserve.ensures.items)

pub invariant_of-self-in_err-read : goal.invariant_of-self-in_err-read
invariant_of-self-in_err-read g c =
    kept_as g.D.Disk g.R.Draws c.in_ok-reserve.ensures.items
    (kept_peers g.D.Disk g.R.Draws (named_as c.in_err-read.ensures.peers) c.self.invariant)

pub returns-in_err-read-clause-err : goal.returns-in_err-read-clause-err
returns-in_err-read-clause-err g c =
    on_err _ _ (stops_still g.D.Disk g.G.Signer g.R.Draws c.args.left.now c.self.view_is refl c.in_ok-reserve.ensures.items)

pub invariant_of-self-in-Nothing : goal.invariant_of-self-in-Nothing
invariant_of-self-in-Nothing g c =
    kept_as g.D.Disk g.R.Draws c.in_ok-reserve.ensures.items
    (kept_peers g.D.Disk g.R.Draws (named_as c.in_ok-read.ensures.peers) c.self.invariant)

pub send-requires-clause-sent : goal.send-requires-clause-sent
send-requires-clause-sent g c =
    let same = c.items.ensures ∙ c.in_ok-reserve.ensures.items in
    let there = ap (λ (held : View g.row.D.Denot g.row.G.Denot g.row.R.Denot). left_at held.entries c.args.left.now) c.self.view_is ∙ c.requires.1.there in
    let agrees = takes_at g.D.Disk g.G.Signer g.R.Draws c.self.inside.members c.take_left.new.members c.args.left.now (Sends c.in-Sends.member) same c.in-Sends.is c.in_ok-read.ensures.takes c.requires.0 [] there in
    subst IsSome (sym (has_agreed agrees.1).sent) refl

pub invariant_of-self-in_err-send-in-Sends : goal.invariant_of-self-in_err-send-in-Sends
invariant_of-self-in_err-send-in-Sends g c =
    let run = c.self.inside in
    subst (λ server. IsKept g.D.Disk g.R.Draws server c.take_left.new.members.all run.unread run.sent run.pushes.items run.board c.send.new.entries.items)
    (sym c.in_err-send-in-Sends.ensures.server)
    (kept_as g.D.Disk g.R.Draws (c.in_err-send-in-Sends.ensures.entries ∙ c.in_ok-reserve.ensures.items)
    (kept_peers g.D.Disk g.R.Draws (named_as c.in_ok-read.ensures.peers) c.self.invariant))

pub returns-in_err-send-in-Sends-clause-err : goal.returns-in_err-send-in-Sends-clause-err
returns-in_err-send-in-Sends-clause-err g c =
    on_err _ _ (stops_still g.D.Disk g.G.Signer g.R.Draws c.args.left.now c.self.view_is c.in_err-send-in-Sends.ensures.server
    (c.in_err-send-in-Sends.ensures.entries ∙ c.in_ok-reserve.ensures.items))

pub invariant_of-self-in-Sends : goal.invariant_of-self-in-Sends
invariant_of-self-in-Sends g c =
    let sent = sent_from c.in_ok-reserve.ensures.items c.in_ok-send-in-Sends.ensures.ok in
    kept_sent g.D.Disk g.G.Signer g.R.Draws c.what_is_known_stays_known.ensures
    (sender_peer c.take_left.new.members.all _ sent.datagram sent.sent) sent
    (kept_peers g.D.Disk g.R.Draws (named_as c.in_ok-read.ensures.peers) c.self.invariant)

pub invariant_of-self-in-Ended : goal.invariant_of-self-in-Ended
invariant_of-self-in-Ended g c =
    let same = c.items.ensures ∙ c.in_ok-reserve.ensures.items in
    let there = ap (λ (held : View g.row.D.Denot g.row.G.Denot g.row.R.Denot). left_at held.entries c.args.left.now) c.self.view_is ∙ c.requires.1.there in
    let keeping = takes_at g.D.Disk g.G.Signer g.R.Draws c.self.inside.members c.take_left.new.members c.args.left.now
    (Ended c.in-Ended.member c.in-Ended.answer) same c.in-Ended.is c.in_ok-read.ensures.takes c.requires.0 [] there in
    kept_acted g.D.Disk g.R.Draws c.what_is_known_stays_known.ensures
    (added c.in_ok-reserve.ensures.items c.draws_at-place.ensures c.entry.ensures c.add.ensures.items)
    (named_as c.in_ok-read.ensures.peers) (record { none = refl }) (has_kept keeping).plain.no_push
    (readable_by (named_as c.in_ok-read.ensures.peers) c.self.invariant.mail) c.self.invariant

pub returns-in-Nothing-clause-ok : goal.returns-in-Nothing-clause-ok
returns-in-Nothing-clause-ok g c =
    let same = c.items.ensures ∙ c.in_ok-reserve.ensures.items in
    let run = c.self.inside in
    let now = c.take_left.new.members in
    let there = ap (λ (held : View g.row.D.Denot g.row.G.Denot g.row.R.Denot). left_at held.entries c.args.left.now) c.self.view_is ∙ c.requires.1.there in
    let takes = takes_at g.D.Disk g.G.Signer g.R.Draws run.members now c.args.left.now Nothing same c.in-Nothing.is c.in_ok-read.ensures.takes in
    let alike = took_alike c.requires.0.own Nothing (members_with run.members (c.requires.0.mail ∷ [])) (members_with now []) (takes c.requires.0 [] there) in
    has_read g.D.Disk g.G.Signer g.R.Draws run.server run.members run.unread run.entries.items c.args.left.now c.self.view_is
    (beside_as c.self.view_is (rules_as c.self.view_is) alike.place c.in_ok-read.ensures.peers [] (c.in_ok-reserve.ensures.items ∙ sym (append-nil run.entries.items)))
    (λ left later block group is. reads_ignored g.D.Disk g.G.Signer g.R.Draws run.server run.members run.unread run.entries.items block group left later now
    c.reserve.new.self.items c.in_ok-reserve.ensures.items (takes left (later ++ mail_since run.entries.items run.unread.place run.unread.taken) is))

pub returns-in_ok-send-in-Sends-clause-ok : goal.returns-in_ok-send-in-Sends-clause-ok
returns-in_ok-send-in-Sends-clause-ok g c =
    let same = c.items.ensures ∙ c.in_ok-reserve.ensures.items in
    let run = c.self.inside in
    let now = c.take_left.new.members in
    let there = ap (λ (held : View g.row.D.Denot g.row.G.Denot g.row.R.Denot). left_at held.entries c.args.left.now) c.self.view_is ∙ c.requires.1.there in
    let takes = takes_at g.D.Disk g.G.Signer g.R.Draws run.members now c.args.left.now (Sends c.in-Sends.member) same c.in-Sends.is c.in_ok-read.ensures.takes in
    let sent = sent_from c.in_ok-reserve.ensures.items c.in_ok-send-in-Sends.ensures.ok in
    let alike = took_alike c.requires.0.own (Sends c.in-Sends.member) (members_with run.members (c.requires.0.mail ∷ [])) (members_with now [])
    (takes c.requires.0 [] there) in
    let rules = rules_quiet g.D.Disk g.G.Signer g.R.Draws sent.answer c.self.invariant.host c.self.invariant.is_on (Serve c.in-Sends.member sent.datagram) tt sent.serves
    c.self.view_is in
    on_ok_then c.had_memory.result c.had_memory.ensures.ok (λ memory.
    has_read g.D.Disk g.G.Signer g.R.Draws run.server run.members run.unread run.entries.items c.args.left.now c.self.view_is
    (beside_as c.self.view_is rules alike.place c.in_ok-read.ensures.peers (noted (Serve c.in-Sends.member sent.datagram) sent.answer (g.R.Draws.place_of run.server.core.draws) ∷ []) sent.added)
    (λ left later block group is.
    let agrees = takes left (later ++ mail_since run.entries.items run.unread.place run.unread.taken) is in
    reads_sent g.D.Disk g.G.Signer g.R.Draws run.server run.members run.unread run.entries.items block group left later c.self.invariant.mail.within
    c.send.new.server now c.send.new.entries.items false sent (memory run.entries.items _ sent.added) agrees.0 agrees.1))

pub returns-in_ok-send-in-Sends-clause-err : goal.returns-in_ok-send-in-Sends-clause-err
returns-in_ok-send-in-Sends-clause-err g c =
    let same = c.items.ensures ∙ c.in_ok-reserve.ensures.items in
    let run = c.self.inside in
    let now = c.take_left.new.members in
    let there = ap (λ (held : View g.row.D.Denot g.row.G.Denot g.row.R.Denot). left_at held.entries c.args.left.now) c.self.view_is ∙ c.requires.1.there in
    let takes = takes_at g.D.Disk g.G.Signer g.R.Draws run.members now c.args.left.now (Sends c.in-Sends.member) same c.in-Sends.is c.in_ok-read.ensures.takes in
    let sent = sent_from c.in_ok-reserve.ensures.items c.in_ok-send-in-Sends.ensures.ok in
    on_err_then c.had_memory.result c.had_memory.ensures.err (λ memory.
    has_stopped g.D.Disk g.G.Signer g.R.Draws run.server run.members run.unread run.entries.items c.args.left.now c.self.view_is
    (λ left later block group is.
    let agrees = takes left (later ++ mail_since run.entries.items run.unread.place run.unread.taken) is in
    reads_sent g.D.Disk g.G.Signer g.R.Draws run.server run.members run.unread run.entries.items block group left later c.self.invariant.mail.within
    c.send.new.server now c.send.new.entries.items true sent (memory run.entries.items _ sent.added) agrees.0 agrees.1))

pub returns-in-Ended-clause-ok : goal.returns-in-Ended-clause-ok
returns-in-Ended-clause-ok g c =
    let same = c.items.ensures ∙ c.in_ok-reserve.ensures.items in
    let run = c.self.inside in
    let now = c.take_left.new.members in
    let there = ap (λ (held : View g.row.D.Denot g.row.G.Denot g.row.R.Denot). left_at held.entries c.args.left.now) c.self.view_is ∙ c.requires.1.there in
    let takes = takes_at g.D.Disk g.G.Signer g.R.Draws run.members now c.args.left.now (Ended c.in-Ended.member c.in-Ended.answer) same c.in-Ended.is c.in_ok-read.ensures.takes in
    let is_more = added c.in_ok-reserve.ensures.items c.draws_at-place.ensures c.entry.ensures c.add.ensures.items in
    let alike = took_alike c.requires.0.own (Ended c.in-Ended.member c.in-Ended.answer) (members_with run.members (c.requires.0.mail ∷ [])) (members_with now [])
    (takes c.requires.0 [] there) in
    has_read g.D.Disk g.G.Signer g.R.Draws run.server run.members run.unread run.entries.items c.args.left.now c.self.view_is
    (beside_as c.self.view_is (rules_as c.self.view_is) alike.place c.in_ok-read.ensures.peers
    (noted (Keep c.in-Ended.member) c.in-Ended.answer (g.R.Draws.place_of run.server.core.draws) ∷ []) is_more.whole)
    (λ left later block group is. reads_kept g.D.Disk g.G.Signer g.R.Draws run.server run.members run.unread run.entries.items block group left later
    c.self.invariant.mail.within now c.add.new.self.items is_more (takes left (later ++ mail_since run.entries.items run.unread.place run.unread.taken) is))
