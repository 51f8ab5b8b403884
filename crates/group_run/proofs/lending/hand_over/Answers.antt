use Rattle.std.proofs.Common.{◌∙◌, ◌+◌, drop, sym, subst, arith}
use Rattle.std.proofs.lemmas.List.{drop_all}
use Rattle.std.proofs.lemmas.List.Elements.{All-head}
use Rattle.group_run.specs.Private.Places.{HasSent}
use Rattle.group_run.specs.Blocks.{AreHanded}
use Rattle.member_steps.specs.Views.{members_with}
use Rattle.group_run.proofs.LendLemmas.{IsHanding, all_are_handed, all_have_lent, handing_on, left_with}
use Rattle.group_run.proofs.lending.hand_over.Goals as goal

pub line_of-requires : goal.line_of-requires
line_of-requires c =
    let asks = c.args.asks.now in
    let i = c.loop-ask.ask-index in
    let ask = c.ask-item.result in
    let left = left_with asks i ask (omega arith) c.ask-item.is in
    All-head (HasSent c.loop-ask.members.all) ask (drop (i + 1) asks)
    (subst (λ left. IsHanding asks c.args.members.now c.loop-ask.members left c.loop-ask.lines.items) left c.loop-ask.invariant.handing).sent

pub loop-ask-preserved : goal.loop-ask-preserved
loop-ask-preserved c =
    let asks = c.args.asks.now in
    let i = c.loop-ask.ask-index in
    let ask = c.ask-item.result in
    let start = c.args.members.now in
    let was = c.loop-ask.invariant in
    let left = left_with asks i ask (omega arith) c.ask-item.is in
    let handing = subst (λ left. IsHanding asks start c.loop-ask.members left c.loop-ask.lines.items) left was.handing in
    let spare = c.add.ensures.spare in
    let room = was.room in
    record {
      room = omega arith;
      handing = subst (IsHanding asks start c.line_of.new.members (drop (i + 1) asks)) (sym c.add.ensures.items)
          (handing_on asks start c.loop-ask.members c.line_of.new.members ask (drop (i + 1) asks) c.loop-ask.lines.items c.line_of.result handing
          c.line_of.ensures.handed c.line_of.ensures.ready c.line_of.ensures.all);
      place = c.line_of.ensures.place ∙ was.place;
    }

pub returns-clause-handed : goal.returns-clause-handed
returns-clause-handed c mail =
    let asks = c.args.asks.now in
    let i = c.loop-ask.ask-index in
    subst (AreHanded (members_with c.args.members.now mail) asks) (sym c.into_list.ensures)
    (all_are_handed asks c.args.members.now c.loop-ask.members (drop i asks) c.loop-ask.lines.items c.loop-ask.invariant.handing
    (drop_all i asks c.loop-ask-test.false) mail)

pub returns-clause-all : goal.returns-clause-all
returns-clause-all c =
    let asks = c.args.asks.now in
    let i = c.loop-ask.ask-index in
    all_have_lent asks c.args.members.now c.loop-ask.members (drop i asks) c.loop-ask.lines.items c.loop-ask.invariant.handing
    (drop_all i asks c.loop-ask-test.false)
