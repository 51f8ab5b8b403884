use Rattle.std.proofs.Common.{refl}
use Rattle.case_servers.proofs.sessions.begin.Goals as goal

pub hold_first-requires-clause-kept : goal.hold_first-requires-clause-kept
hold_first-requires-clause-kept c =
    let first = c.in_ok-member.ensures in
    record {
      second = c.in-Ok.second;
      is = refl;
      sa = first.sa;
      is_there = first.is_there;
      policy = c.args.policy.now;
      kek = c.requires.kek;
      tek = c.requires.tek;
      is_text = c.in-Ok.ensures first.sa first.is_there;
    }
