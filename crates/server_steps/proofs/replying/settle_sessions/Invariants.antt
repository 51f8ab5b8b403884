use Rattle.std.proofs.Common.{◌≡◌, length}
use Rattle.std.specs.Vec.Iter.{into_iter_items, into_iter_len}
use Rattle.server_steps.specs.Private.Told.{AreDatagrams, settled_all}
use Rattle.server_steps.proofs.replying.settle_sessions.Given as goal

-- with the answers that are left, the sessions become what they become with all
abbrev pub invariant-loop-member : goal.invariant-loop-member
invariant-loop-member l = record {
  datagrams : AreDatagrams (into_iter_items l.member-iterator);
  settles : settled_all l.sessions (into_iter_items l.member-iterator) ≡ settled_all l.initial.sessions (into_iter_items l.initial.member-iterator);
  counts : into_iter_len l.member-iterator ≡ length (into_iter_items l.member-iterator);
}
