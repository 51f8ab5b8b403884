use Rattle.std.proofs.Common.{◌≡◌, ◌+◌, ◌<◌, ◌∷◌, [], Err, length, inl, inr, subst, sym, ap, ◌∙◌, refl, arith, rules}
use Rattle.group_steps.specs.Devices.{devices}
use Rattle.console_run.specs.Private.Follows.{at, moment}
use Rattle.console_run.specs.Private.Runs.{GoesOn, drawn_by}
use Rattle.run_report.proofs.ErrorLemmas.{if_error}
use Rattle.console_run.proofs.SoFarLemmas.{GoesOn-ended, GoesOn-kept}
use Rattle.console_run.proofs.StopLemmas.{stopped_at_line, stopped_in_line}
use Rattle.console_run.proofs.script_run.ScriptRun.take_octet.Goals as goal

pub returns-then-self-eq-MOST_LINES-clause-stops : goal.returns-then-self-eq-MOST_LINES-clause-stops
returns-then-self-eq-MOST_LINES-clause-stops g c = λ later few small start before so.
    let on = devices g.D.Disk g.G.Signer g.V.Verifier c.args.tools.now.verifier.now in
    let was = c.args.self.now in
    let ready = c.requires.ready in
    stopped_at_line on g.R.Draws c.args.tools.now.workers start before (c.args.octet ∷ later) _ was.group was.block was.line.items was.count
    (g.K.Sink.shows c.args.out.now) (drawn_by g.P.Draws c.args.peers.now) so ready.short
    (omega (arith, few)) ready.begun
    (inl (omega (arith, c.if-self-eq-MOST_LINES.true), omega arith))

pub returns-in_err-run_line-clause-stops : goal.returns-in_err-run_line-clause-stops
returns-in_err-run_line-clause-stops g c =
    let on = devices g.D.Disk g.G.Signer g.V.Verifier c.args.tools.now.verifier.now in
    let was = c.args.self.now in
    let ready = c.requires.ready in
    let seen = g.K.Sink.shows in
    let stop = c.in_err-run_line.field-0.0 in
    let room : was.count < 16384 = omega (arith, ready.lines, c.if-self-eq-MOST_LINES.false) in
    if_error _ _ _ c.from_residual.ensures.1
    (λ later few small start before so.
    stopped_in_line on g.R.Draws c.args.tools.now.workers start before (c.args.octet ∷ later) _ was.group was.block was.line.items was.count (seen c.args.out.now)
    (drawn_by g.P.Draws c.args.peers.now) so ready.short
    (omega (arith, few)) ready.begun stop c.run_line.new.self.group (seen c.run_line.new.out)
    (inl (later, ap (λ octet. octet ∷ later) c.if-octet-eq10.true)) room
    (λ line. c.run_line.ensures.faulty (c.in_err-run_line.was ∙ ap Err line)) c.in_err-run_line.ensures.stops
    (at c.run_line.new.self (seen c.run_line.new.out) (drawn_by g.P.Draws c.run_line.new.peers)) refl refl c.run_line.ensures.count)

pub returns-then-octet-eq10-clause-goes : goal.returns-then-octet-eq10-clause-goes
returns-then-octet-eq10-clause-goes g c =
    let on = devices g.D.Disk g.G.Signer g.V.Verifier c.args.tools.now.verifier.now in
    let was = c.args.self.now in
    let new = c.run_line.new.self in
    let seen = g.K.Sink.shows in
    let peers = drawn_by g.P.Draws c.args.peers.now in
    let peers_now = drawn_by g.P.Draws c.run_line.new.peers in
    subst (λ count. GoesOn on g.R.Draws c.args.tools.now.workers (c.args.octet ∷ []) (at was (seen c.args.out.now) peers)
    (moment new.group new.block c.clear.new.self.items (count + 1) (seen c.run_line.new.out) peers_now)) (sym c.run_line.ensures.count)
    (GoesOn-ended on g.R.Draws c.args.tools.now.workers was.group new.group was.block new.block was.line.items c.clear.new.self.items was.count c.args.octet
    (seen c.args.out.now) (seen c.run_line.new.out) peers peers_now c.run_line.ensures.blocks c.if-octet-eq10.true c.clear.ensures
    (omega (arith, c.requires.ready.lines, c.if-self-eq-MOST_LINES.false)) c.in_ok-run_line.ensures.placed c.in_ok-run_line.ensures.ok)

pub returns-then-is_full-clause-stops : goal.returns-then-is_full-clause-stops
returns-then-is_full-clause-stops g c = λ later few small start before so.
    let on = devices g.D.Disk g.G.Signer g.V.Verifier c.args.tools.now.verifier.now in
    let was = c.args.self.now in
    let ready = c.requires.ready in
    let full : length was.line.items ≡ 200 = search rules in
    stopped_at_line on g.R.Draws c.args.tools.now.workers start before (c.args.octet ∷ later) _ was.group was.block was.line.items was.count
    (g.K.Sink.shows c.args.out.now) (drawn_by g.P.Draws c.args.peers.now) so ready.short
    (omega (arith, few)) ready.begun
    (inr (inl (full, (c.args.octet, later, refl, c.if-octet-eq10.false))))

pub returns-clause-goes : goal.returns-clause-goes
returns-clause-goes g c =
    let on = devices g.D.Disk g.G.Signer g.V.Verifier c.args.tools.now.verifier.now in
    let was = c.args.self.now in
    GoesOn-kept on g.R.Draws c.args.tools.now.workers was.group was.block was.line.items c.push.new.self.items was.count c.args.octet
    (g.K.Sink.shows c.args.out.now) (drawn_by g.P.Draws c.args.peers.now) (search rules) c.if-octet-eq10.false (search rules)
