use Rattle.std.proofs.Common.{◌∙◌, ◌∷◌, [], take, get_or, refl, sym, subst, arith}
use Rattle.std.proofs.lemmas.List.{take_all, take_more}
use Rattle.console_run.specs.Private.Follows.{at}
use Rattle.group_steps.specs.Devices.{devices}
use Rattle.console_run.specs.Private.Runs.{drawn_by, GoesOn}
use Rattle.console_run.proofs.CutLemmas.{small_octets}
use Rattle.run_report.proofs.ErrorLemmas.{if_error}
use Rattle.console_run.proofs.SoFarLemmas.{GoesOn-none, GoesOn-then}
use Rattle.console_run.proofs.StopLemmas.{StopsWithin-piece}
use Rattle.console_run.proofs.script_run.ScriptRun.take_piece.Goals as goal

pub loop-octet-init : goal.loop-octet-init
loop-octet-init g c =
    let on = devices g.D.Disk g.G.Signer g.V.Verifier c.args.tools.now.verifier.now in
    record {
      blocks = λ k. refl;
      ready = c.requires.ready;
      goes = GoesOn-none on g.R.Draws c.args.tools.now.workers (at c.args.self.now (g.K.Sink.shows c.args.out.now) (drawn_by g.P.Draws c.args.peers.now));
      nearer = omega arith;
    }

pub loop-octet-preserved : goal.loop-octet-preserved
loop-octet-preserved g c =
    let on = devices g.D.Disk g.G.Signer g.V.Verifier c.args.tools.now.verifier.now in
    let seen = g.K.Sink.shows in
    let piece = c.args.piece.now in
    let place = c.loop-octet.octet-index in
    let was = at c.args.self.now (seen c.args.out.now) (drawn_by g.P.Draws c.args.peers.now) in
    let now = at c.loop-octet.self (seen c.loop-octet.out) (drawn_by g.P.Draws c.loop-octet.peers) in
    let new = at c.take_octet.new.self (seen c.take_octet.new.out) (drawn_by g.P.Draws c.take_octet.new.peers) in
    record {
      blocks = λ k. c.take_octet.ensures.blocks k ∙ c.loop-octet.invariant.blocks k;
      ready = c.in_ok-take_octet.ensures.ready;
      goes = subst (λ octets. GoesOn on g.R.Draws c.args.tools.now.workers octets was new) (sym (take_more piece place 0 c.loop-octet-test.true))
          (GoesOn-then on g.R.Draws c.args.tools.now.workers (take place piece) (get_or piece place 0 ∷ []) was now new c.loop-octet.invariant.goes c.in_ok-take_octet.ensures.goes);
      nearer = omega (arith, c.in_ok-take_octet.ensures.nearer, c.loop-octet.invariant.nearer);
    }

pub returns-in_err-take_octet-clause-stops : goal.returns-in_err-take_octet-clause-stops
returns-in_err-take_octet-clause-stops g c =
    let on = devices g.D.Disk g.G.Signer g.V.Verifier c.args.tools.now.verifier.now in
    let seen = g.K.Sink.shows in
    if_error _ _ _ c.from_residual.ensures.1
    (StopsWithin-piece on g.R.Draws c.args.tools.now.workers c.args.piece.now c.loop-octet.octet-index c.in_err-take_octet.field-0.0
    (at c.args.self.now (seen c.args.out.now) (drawn_by g.P.Draws c.args.peers.now))
    (at c.loop-octet.self (seen c.loop-octet.out) (drawn_by g.P.Draws c.loop-octet.peers))
    (at c.take_octet.new.self (seen c.take_octet.new.out) (drawn_by g.P.Draws c.take_octet.new.peers))
    (small_octets c.args.piece.now c.type_inv.piece) c.requires.short c.loop-octet-test.true c.loop-octet.invariant.goes c.in_err-take_octet.ensures.stops)

pub returns-clause-octets : goal.returns-clause-octets
returns-clause-octets g c = small_octets c.args.piece.now c.type_inv.piece

pub returns-in_err-take_octet-clause-octets : goal.returns-in_err-take_octet-clause-octets
returns-in_err-take_octet-clause-octets g c = small_octets c.args.piece.now c.type_inv.piece

pub returns-clause-goes : goal.returns-clause-goes
returns-clause-goes g c =
    let on = devices g.D.Disk g.G.Signer g.V.Verifier c.args.tools.now.verifier.now in
    let seen = g.K.Sink.shows in
    subst (λ octets. GoesOn on g.R.Draws c.args.tools.now.workers octets (at c.args.self.now (seen c.args.out.now) (drawn_by g.P.Draws c.args.peers.now))
    (at c.loop-octet.self (seen c.loop-octet.out) (drawn_by g.P.Draws c.loop-octet.peers)))
    (take_all c.loop-octet.octet-index c.args.piece.now c.loop-octet-test.false) c.loop-octet.invariant.goes
