use Rattle.std.proofs.Common.{◌+◌, ◌-◌, ◌<◌, ◌≡◌, arith, drop, length, subst, sym}
use Rattle.group_run.specs.Private.Lefts.{AreLefts, AreServed}
use Rattle.group_run.proofs.WayLemmas.{turn_more}
use Rattle.group_run.proofs.lefts.find_left.Goals as goal

pub loop-place-preserved : goal.loop-place-preserved
loop-place-preserved c =
    let next : c.loop-place.place ≡ c.loop-place.place - 1 + 1 = omega (arith, c.loop-place-test.true) in
    let less : c.loop-place.place - 1 < length c.args.entries.now = omega (arith, c.loop-place-test.true, c.loop-place.auto.place) in
    let more = turn_more c.args.entries.now c.index-entries-place.result (c.loop-place.place - 1) c.loop-place.place next less c.index-entries-place.is in
    record {
      within = omega (arith, c.loop-place-test.true);
      lefts = subst (AreLefts c.args.members.now.all c.args.entries.now c.add_left.new.lefts) (sym more.1)
          (c.in_ok-add_left.ensures.lefts c.args.entries.now (drop c.loop-place.place c.args.entries.now) more.0 c.loop-place.invariant.served c.loop-place.invariant.lefts);
      served = subst (AreServed c.add_left.new.served.keys) (sym more.1)
          (c.in_ok-add_left.ensures.served (drop c.loop-place.place c.args.entries.now) c.loop-place.invariant.served);
    }

pub returns : goal.returns
returns c =
    let all : c.loop-place.place ≡ c.args.first = omega (arith, c.loop-place-test.false, c.loop-place.invariant.within) in
    subst (λ place. AreLefts c.args.members.now.all c.args.entries.now c.loop-place.lefts (drop place c.args.entries.now)) all c.loop-place.invariant.lefts
