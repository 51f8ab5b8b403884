use Rattle.std.proofs.Common.{length}
use Rattle.member_steps.specs.Acts.{Ignores}
use Rattle.group_run.specs.Mails.{mail_since}
use Rattle.group_run.specs.Private.Kept.{IsReadable, members_at}
use Rattle.group_run.proofs.reading.read_mail.Given as goal

-- members ignored some of what is on its way
abbrev pub invariant-loop-mail : goal.invariant-loop-mail
invariant-loop-mail l = record {
  ignores : Ignores (members_at l.fn.members l.entries l.fn.unread) (members_at l.members l.entries l.unread);
  readable : IsReadable l.members.all l.entries l.unread;
}

abbrev pub decreases-loop-mail : goal.decreases-loop-mail
decreases-loop-mail l = length (mail_since l.entries l.unread.place l.unread.taken)
