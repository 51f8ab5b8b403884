use Rattle.std.proofs.Common.{◌≡◌, map, take}
use Rattle.server_steps.specs.Private.Told.{AreRepliesTo, kept_of}
use Rattle.server_steps.proofs.replying.make_replies.Given as goal

-- the replies to those that it went over, and what is kept of them
abbrev pub invariant-loop-member : goal.invariant-loop-member
invariant-loop-member l = record {
  sent : AreRepliesTo l.sessions.sas (take l.member-index l.told) l.replies.sent;
  kept : l.replies.kept ≡ map kept_of l.replies.sent;
}
