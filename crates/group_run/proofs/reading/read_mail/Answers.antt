use Rattle.std.proofs.Common.{◌≡◌, ◌+◌, [], refl, sym, ap, subst}
use Rattle.member_steps.specs.Acts.{Ignores}
use Rattle.member_steps.specs.Members.{Members}
use Rattle.member_steps.specs.Views.{View as MemberView, members_with}
use Rattle.group_run.specs.Mails.{mail_since}
use Rattle.group_run.specs.Private.Kept.{members_at}
use Rattle.group_run.proofs.MemberLemmas.{as_before}
use Rattle.group_run.proofs.ReadLemmas.{came_as, ended_peers, ended_read, ended_readable, ignored_on, ignored_readable, on_err, readable_still, same_names, sends_peers, sends_read, sends_readable}
use Rattle.group_run.proofs.reading.read_mail.Goals as goal

pub returns-in_err-came-clause-err : goal.returns-in_err-came-clause-err
returns-in_err-came-clause-err c =
    let start = members_at c.args.members.now c.args.entries.now c.args.unread.now in
    let before = members_at c.loop-mail.members c.args.entries.now c.loop-mail.unread in
    let now = members_at c.take.new.self c.args.entries.now c.next.new.self in
    let stays : now ≡ before = λ i. members_with (c.in_err-came.ensures.takes [] i) (c.in-Some.ensures.same i) in
    on_err _ _ (subst (λ (now : Members). Ignores start now) (sym stays) c.loop-mail.invariant.ignores)

pub returns-in_err-came-clause-readable : goal.returns-in_err-came-clause-readable
returns-in_err-came-clause-readable c =
    readable_still c.args.entries.now (members_at c.args.members.now c.args.entries.now c.args.unread.now) c.loop-mail.members c.loop-mail.unread c.next.new.self c.in-Some.mail.0 c.in-Some.mail.1.now
    c.loop-mail.invariant.ignores c.loop-mail.invariant.readable c.in-Some.ensures.first c.in-Some.ensures.same c.in-Some.ensures.within
    c.take.new.self.all (ap (λ (view : MemberView). view.all) (c.in_err-came.ensures.takes []))

pub returns-in_err-came-clause-peers : goal.returns-in_err-came-clause-peers
returns-in_err-came-clause-peers c =
    same_names (members_at c.args.members.now c.args.entries.now c.args.unread.now) (members_at c.loop-mail.members c.args.entries.now c.loop-mail.unread)
    c.loop-mail.invariant.ignores c.take.new.self.all (as_before (ap (λ (view : MemberView). view.all) (c.in_err-came.ensures.takes [])))

pub loop-mail-preserved : goal.loop-mail-preserved
loop-mail-preserved c =
    let later = mail_since c.args.entries.now c.next.new.self.place (c.next.new.self.taken + 1) in
    let step = came_as c.in-Some.mail.0 _ c.in-Some.mail.1.now later c.loop-mail.members c.in_ok-came.came _ c.take.new.self c.as_slice.ensures c.in-Ignored.is
    (c.in_ok-came.ensures.takes later) in
    record {
      ignores = ignored_on c.args.entries.now (members_at c.args.members.now c.args.entries.now c.args.unread.now) c.loop-mail.members c.loop-mail.unread c.next.new.self c.in-Some.mail.0 c.in-Some.mail.1.now
          c.loop-mail.invariant.ignores c.loop-mail.invariant.readable c.in-Some.ensures.first c.in-Some.ensures.same c.in-Some.ensures.within
          c.take.new.self step;
      readable = ignored_readable c.args.entries.now (members_at c.args.members.now c.args.entries.now c.args.unread.now) c.loop-mail.members c.loop-mail.unread c.next.new.self c.in-Some.mail.0 c.in-Some.mail.1.now
          c.loop-mail.invariant.ignores c.loop-mail.invariant.readable c.in-Some.ensures.first c.in-Some.ensures.same c.in-Some.ensures.within
          c.take.new.self step;
    }

pub returns-in-Sends-clause-reads : goal.returns-in-Sends-clause-reads
returns-in-Sends-clause-reads c =
    let later = mail_since c.args.entries.now c.next.new.self.place (c.next.new.self.taken + 1) in
    let step = came_as c.in-Some.mail.0 _ c.in-Some.mail.1.now later c.loop-mail.members c.in_ok-came.came _ c.take.new.self c.as_slice.ensures c.in-Sends.is
    (c.in_ok-came.ensures.takes later) in
    sends_read c.args.entries.now (members_at c.args.members.now c.args.entries.now c.args.unread.now) c.loop-mail.members c.loop-mail.unread c.next.new.self c.in-Some.mail.0 c.in-Some.mail.1.now
    c.loop-mail.invariant.ignores c.loop-mail.invariant.readable c.in-Some.ensures.first c.in-Some.ensures.same c.in-Some.ensures.within
    c.take.new.self step.0 step.1

pub returns-in-Sends-clause-readable : goal.returns-in-Sends-clause-readable
returns-in-Sends-clause-readable c =
    let later = mail_since c.args.entries.now c.next.new.self.place (c.next.new.self.taken + 1) in
    let step = came_as c.in-Some.mail.0 _ c.in-Some.mail.1.now later c.loop-mail.members c.in_ok-came.came _ c.take.new.self c.as_slice.ensures c.in-Sends.is
    (c.in_ok-came.ensures.takes later) in
    sends_readable c.args.entries.now (members_at c.args.members.now c.args.entries.now c.args.unread.now) c.loop-mail.members c.loop-mail.unread c.next.new.self c.in-Some.mail.0 c.in-Some.mail.1.now
    c.loop-mail.invariant.ignores c.loop-mail.invariant.readable c.in-Some.ensures.first c.in-Some.ensures.same c.in-Some.ensures.within
    c.take.new.self step.0 step.1

pub returns-in-Sends-clause-peers : goal.returns-in-Sends-clause-peers
returns-in-Sends-clause-peers c =
    let later = mail_since c.args.entries.now c.next.new.self.place (c.next.new.self.taken + 1) in
    let step = came_as c.in-Some.mail.0 _ c.in-Some.mail.1.now later c.loop-mail.members c.in_ok-came.came _ c.take.new.self c.as_slice.ensures c.in-Sends.is
    (c.in_ok-came.ensures.takes later) in
    sends_peers c.args.entries.now (members_at c.args.members.now c.args.entries.now c.args.unread.now) c.loop-mail.members c.loop-mail.unread c.next.new.self c.in-Some.mail.0 c.in-Some.mail.1.now
    c.loop-mail.invariant.ignores c.loop-mail.invariant.readable c.in-Some.ensures.first c.in-Some.ensures.same c.in-Some.ensures.within
    c.take.new.self step.0 step.1

pub returns-in-Ended-clause-reads : goal.returns-in-Ended-clause-reads
returns-in-Ended-clause-reads c =
    let later = mail_since c.args.entries.now c.next.new.self.place (c.next.new.self.taken + 1) in
    let step = came_as c.in-Some.mail.0 _ c.in-Some.mail.1.now later c.loop-mail.members c.in_ok-came.came _ c.take.new.self c.as_slice.ensures c.in-Ended.is
    (c.in_ok-came.ensures.takes later) in
    ended_read c.args.entries.now (members_at c.args.members.now c.args.entries.now c.args.unread.now) c.loop-mail.members c.loop-mail.unread c.next.new.self c.in-Some.mail.0 c.in-Some.mail.1.now
    c.loop-mail.invariant.ignores c.loop-mail.invariant.readable c.in-Some.ensures.first c.in-Some.ensures.same c.in-Some.ensures.within
    c.take.new.self c.in-Ended.answer step

pub returns-in-Ended-clause-readable : goal.returns-in-Ended-clause-readable
returns-in-Ended-clause-readable c =
    let later = mail_since c.args.entries.now c.next.new.self.place (c.next.new.self.taken + 1) in
    let step = came_as c.in-Some.mail.0 _ c.in-Some.mail.1.now later c.loop-mail.members c.in_ok-came.came _ c.take.new.self c.as_slice.ensures c.in-Ended.is
    (c.in_ok-came.ensures.takes later) in
    ended_readable c.args.entries.now (members_at c.args.members.now c.args.entries.now c.args.unread.now) c.loop-mail.members c.loop-mail.unread c.next.new.self c.in-Some.mail.0 c.in-Some.mail.1.now
    c.loop-mail.invariant.ignores c.loop-mail.invariant.readable c.in-Some.ensures.first c.in-Some.ensures.same c.in-Some.ensures.within
    c.take.new.self c.in-Ended.answer step

pub returns-in-Ended-clause-peers : goal.returns-in-Ended-clause-peers
returns-in-Ended-clause-peers c =
    let later = mail_since c.args.entries.now c.next.new.self.place (c.next.new.self.taken + 1) in
    let step = came_as c.in-Some.mail.0 _ c.in-Some.mail.1.now later c.loop-mail.members c.in_ok-came.came _ c.take.new.self c.as_slice.ensures c.in-Ended.is
    (c.in_ok-came.ensures.takes later) in
    ended_peers c.args.entries.now (members_at c.args.members.now c.args.entries.now c.args.unread.now) c.loop-mail.members c.loop-mail.unread c.next.new.self c.in-Some.mail.0 c.in-Some.mail.1.now
    c.loop-mail.invariant.ignores c.loop-mail.invariant.readable c.in-Some.ensures.first c.in-Some.ensures.same c.in-Some.ensures.within
    c.take.new.self c.in-Ended.answer step

pub returns-clause-peers : goal.returns-clause-peers
returns-clause-peers c =
    same_names (members_at c.args.members.now c.args.entries.now c.args.unread.now) (members_at c.loop-mail.members c.args.entries.now c.loop-mail.unread)
    c.loop-mail.invariant.ignores c.loop-mail.members.all (as_before refl)
