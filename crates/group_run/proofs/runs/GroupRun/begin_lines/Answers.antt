use Rattle.std.proofs.Common.{◌∙◌, ◌+◌, ◌++◌, ◌∷◌, [], ap, append_assoc, arith, drop, sym, take}
use Rattle.std.proofs.lemmas.List.{take-append-drop, take_all, take_more}
use Rattle.group_run.proofs.BeginLemmas.{none_prepared, on_err_always, one_more_prepared, prepared_as, stops_at_once, stops_later}
use Rattle.group_run.proofs.runs.GroupRun.begin_lines.Goals as goal

pub returns-in_err-reserve-clause-err : goal.returns-in_err-reserve-clause-err
returns-in_err-reserve-clause-err g c =
    on_err_always c.from_residual.result
    (stops_at_once g.D.Disk g.G.Signer g.R.Draws g.P.Draws c.args.draws.now c.args.group.now c.args.self.now c.args.asks.now)

pub loop-ask-init : goal.loop-ask-init
loop-ask-init g c =
    let room = c.in_ok-reserve.ensures.spare in (
      none_prepared g.D.Disk g.G.Signer g.R.Draws g.P.Draws c.args.draws.now c.args.group.now c.args.self.now
          (c.in_ok-reserve.ensures.items ∙ c.of-handed.ensures ∙ c.new.ensures) c.requires,
      omega (arith, room),
    )

pub begin_line-requires : goal.begin_line-requires
begin_line-requires g c = c.loop-ask.invariant.0.place

pub returns-in_err-is_handed-clause-err : goal.returns-in_err-is_handed-clause-err
returns-in_err-is_handed-clause-err g c =
    let asks = c.args.asks.now in
    let at = c.loop-ask.ask-index in
    let ask = c.ask-item.result in
    let later = drop (at + 1) asks in
    on_err_always c.from_residual-in_err-is_handed.result
    (stops_later g.D.Disk g.G.Signer g.R.Draws g.P.Draws c.args.draws.now c.args.group.now c.args.self.now c.loop-ask.invariant.0 ask later
    (sym (take-append-drop (at + 1) asks)
    ∙ ap (λ front. front ++ later) (take_more asks at ask c.loop-ask-test.true ∙ ap (λ ask. take at asks ++ ask ∷ []) (sym c.ask-item.is))
    ∙ append_assoc (take at asks) (ask ∷ []) later)
    c.in_err-is_handed.ensures.err)

pub add_if-requires : goal.add_if-requires
add_if-requires g c =
    let room = c.loop-ask.invariant.1 in
    let more = c.loop-ask-test.true in
    omega (arith, room, more)

pub loop-ask-preserved : goal.loop-ask-preserved
loop-ask-preserved g c =
    let asks = c.args.asks.now in
    let at = c.loop-ask.ask-index in
    let ask = c.ask-item.result in
    let done = c.in_ok-is_handed.ensures in
    let room = c.loop-ask.invariant.1 in
    let spare = c.add_if.ensures.spare in
    let next = one_more_prepared g.D.Disk g.G.Signer g.R.Draws g.P.Draws c.args.draws.now c.args.group.now c.args.self.now c.loop-ask.invariant.0
    ask c.in_ok-is_handed.is_handed done.ok done.sent done.keeps done.goes_on done.place done.blocks done.rules done.mail in (
      prepared_as g.D.Disk g.G.Signer g.R.Draws g.P.Draws c.args.draws.now c.args.group.now c.args.self.now
          (take_more asks at ask c.loop-ask-test.true ∙ ap (λ ask. take at asks ++ ask ∷ []) (sym c.ask-item.is)) c.add_if.ensures.items next,
      omega (arith, room, spare),
    )

pub returns-clause-ok : goal.returns-clause-ok
returns-clause-ok g c =
    let asks = c.args.asks.now in
    (prepared_as g.D.Disk g.G.Signer g.R.Draws g.P.Draws c.args.draws.now c.args.group.now c.args.self.now
    (sym (take_all c.loop-ask.ask-index asks c.loop-ask-test.false)) c.into_list.ensures c.loop-ask.invariant.0).reaches
