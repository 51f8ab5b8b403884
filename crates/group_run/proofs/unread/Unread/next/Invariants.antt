use Rattle.std.proofs.Common.{◌≡◌, ◌-◌, length}
use Rattle.group_run.specs.Mails.{mail_since}
use Rattle.group_run.specs.Private.Kept.{IsWithin}
use Rattle.group_run.proofs.unread.Unread.next.Given as goal

-- the cursor moved on past entries that were read whole
abbrev pub invariant-loop-entry : goal.invariant-loop-entry
invariant-loop-entry l = record {
  same : mail_since l.entries l.self.place l.self.taken ≡ mail_since l.entries l.fn.self.place l.fn.self.taken;
  within : IsWithin l.entries l.self;
}

abbrev pub decreases-loop-entry : goal.decreases-loop-entry
decreases-loop-entry l = length l.entries - l.self.place
