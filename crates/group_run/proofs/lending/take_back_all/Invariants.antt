use Rattle.std.proofs.Common.{◌≡◌, All, drop, map}
use Rattle.std.specs.List.{fold}
use Rattle.register_workers.specs.Lines.{IsReady}
use Rattle.group_run.specs.Private.Lendings.{all_with}
use Rattle.group_run.proofs.lending.take_back_all.Given as goal

-- the lines that are left make of the members what all make of the first ones
abbrev pub invariant-loop-line : goal.invariant-loop-line
invariant-loop-line l = record {
  ready : All IsReady (drop l.line-index l.lines);
  all : fold all_with l.members.all (drop l.line-index l.lines) ≡ fold all_with l.fn.members.all l.fn.lines;
  place : l.members.place ≡ l.fn.members.place;
  seen : map (λ line. line.seen) l.lines ≡ map (λ line. line.seen) l.fn.lines;
}
