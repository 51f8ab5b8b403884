use Rattle.std.proofs.Common.{◌+◌, ◌-◌, ◌<◌, ◌≡◌, arith, length, subst}
use Rattle.group_run.specs.Mails.{mail_in}
use Rattle.group_run.proofs.WayLemmas.{AreFrom, from_end, from_more}
use Rattle.group_run.proofs.lefts.add_all.Goals as goal

pub loop-at-init : goal.loop-at-init
loop-at-init c = from_end c.args.lost c.args.entry.now c.args.place c.mail_count-at.result c.args.lefts.now c.mail_count-at.ensures

pub loop-at-preserved : goal.loop-at-preserved
loop-at-preserved c =
    let next : c.loop-at.at ≡ c.loop-at.at - 1 + 1 = omega (arith, c.loop-at-test.true) in
    let less : c.loop-at.at - 1 < length (mail_in c.args.entry.now) =
    omega (arith, c.loop-at-test.true, c.loop-at.auto.at, c.mail_count-at.ensures) in
    from_more c.args.lost c.args.entry.now c.args.place (c.loop-at.at - 1) c.loop-at.at c.args.lefts.now c.loop-at.lefts c.push.new.self next less
    c.in_ok-push.ensures.ok c.loop-at.invariant

pub returns : goal.returns
returns c =
    let all : c.loop-at.at ≡ 0 = omega (arith, c.loop-at-test.false) in
    subst (λ at. AreFrom c.args.lost c.args.entry.now c.args.place at c.args.lefts.now c.loop-at.lefts) all c.loop-at.invariant
