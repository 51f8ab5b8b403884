use Rattle.std.proofs.Common.{◌≡◌, true, Err, ℕ, List, [], ◌++◌, take, sym, refl, ap, ◌∙◌, subst}
use Rattle.std.specs.Io.KnownBytes.{Consumes}
use Rattle.std.specs.Prelude.{nat_lt}
use Rattle.std.proofs.lemmas.Bool.{and_from}
use Rattle.std.proofs.lemmas.List.Folds.{list_all-append}
use Rattle.std.proofs.KnownBytes.{Consumes-nil, Consumes-trans, Consumes-kept}
use Rattle.group_terms.specs.Faults.{Rose}
use Rattle.console_run.specs.Scripts.{are_octets}
use Rattle.console_run.specs.Private.Follows.{at}
use Rattle.console_run.specs.Private.Runs.{drawn_by}
use Rattle.group_steps.specs.Devices.{devices}
use Rattle.run_report.proofs.ErrorLemmas.{if_error}
use Rattle.console_run.proofs.SoFarLemmas.{GoesOn-none, GoesOn-then}
use Rattle.console_run.proofs.StopLemmas.{StopsWithin-lost, StopsWithin-then, SourceFails-other}
use Rattle.console_run.proofs.script_run.ScriptRun.take_script.Goals as goal

-- what is known of octets that were taken, and of more
both_small : (a b : List ℕ) → are_octets a ≡ true → are_octets b ≡ true → are_octets (a ++ b) ≡ true
both_small a b h k = list_all-append (λ octet. nat_lt octet 256) a b ∙ and_from _ _ h k

pub pieces-init : goal.pieces-init
pieces-init g c =
    let on = devices g.D.Disk g.G.Signer g.V.Verifier c.args.tools.now.verifier.now in
    record {
      blocks = λ k. refl;
      ready = c.requires.ready;
      no_fault = refl;
      goes = (
        [],
        Consumes-nil (g.S.Source.shows c.args.script.now).octets,
        refl,
        GoesOn-none on g.R.Draws c.args.tools.now.workers (at c.args.self.now (g.K.Sink.shows c.args.out.now) (drawn_by g.P.Draws c.args.peers.now)),
      );
    }

pub pieces-preserved : goal.pieces-preserved
pieces-preserved g c =
    let on = devices g.D.Disk g.G.Signer g.V.Verifier c.args.tools.now.verifier.now in
    let left = g.S.Source.shows in
    let seen = g.K.Sink.shows in
    let piece = c.split_at.result.0.now in
    let before = c.pieces.invariant.goes in
    let moved : Consumes (left c.pieces.script).octets (left c.take.new.self).octets piece =
    subst (Consumes (left c.pieces.script).octets (left c.take.new.self).octets) {x = take c.in-Ok.n c.take.new.into}
    (sym {b = take c.in-Ok.n c.take.new.into} c.split_at.ensures.front) c.in-Ok.ensures.moved in
    record {
      blocks = λ k. c.take_piece.ensures.blocks k ∙ c.pieces.invariant.blocks k;
      ready = c.in_ok-take_piece.ensures.ready;
      no_fault = c.in-Ok.ensures.no_fault ∙ c.pieces.invariant.no_fault;
      goes = (
        before.0 ++ piece,
        Consumes-trans (left c.args.script.now).octets (left c.pieces.script).octets (left c.take.new.self).octets before.0 piece before.1 moved,
        both_small before.0 piece before.2 c.in_ok-take_piece.ensures.octets,
        GoesOn-then on g.R.Draws c.args.tools.now.workers before.0 piece (at c.args.self.now (seen c.args.out.now) (drawn_by g.P.Draws c.args.peers.now))
            (at c.pieces.self (seen c.pieces.out) (drawn_by g.P.Draws c.pieces.peers))
            (at c.take_piece.new.self (seen c.take_piece.new.out) (drawn_by g.P.Draws c.take_piece.new.peers)) before.3 c.in_ok-take_piece.ensures.goes,
      );
    }

pub returns-in-Err-clause-stops : goal.returns-in-Err-clause-stops
returns-in-Err-clause-stops g c =
    let on = devices g.D.Disk g.G.Signer g.V.Verifier c.args.tools.now.verifier.now in
    let left = g.S.Source.shows in
    let seen = g.K.Sink.shows in
    let before = c.pieces.invariant.goes in
    let ready = c.pieces.invariant.ready in
    record {
      taken = before.0;
      consumed = Consumes-kept (left c.args.script.now).octets (left c.pieces.script).octets
          (left c.take.new.self).octets before.0 before.1 c.in-Err.ensures.failed;
      small = before.2;
      source = subst (λ faults. Rose faults (left c.take.new.self).faults) c.pieces.invariant.no_fault c.in-Err.ensures.cause;
      stops = StopsWithin-lost on g.R.Draws c.args.tools.now.workers before.0 (at c.args.self.now (seen c.args.out.now) (drawn_by g.P.Draws c.args.peers.now))
          (at c.pieces.self (seen c.pieces.out) (drawn_by g.P.Draws c.pieces.peers)) before.3 ready.short ready.begun;
    }

pub returns-in_err-take_piece-clause-stops : goal.returns-in_err-take_piece-clause-stops
returns-in_err-take_piece-clause-stops g c =
    let on = devices g.D.Disk g.G.Signer g.V.Verifier c.args.tools.now.verifier.now in
    let left = g.S.Source.shows in
    let seen = g.K.Sink.shows in
    let stop = c.in_err-take_piece.field-0.0 in
    let piece = c.split_at.result.0.now in
    let before = c.pieces.invariant.goes in
    let moved : Consumes (left c.pieces.script).octets (left c.take.new.self).octets piece =
    subst (Consumes (left c.pieces.script).octets (left c.take.new.self).octets) {x = take c.in-Ok.n c.take.new.into}
    (sym {b = take c.in-Ok.n c.take.new.into} c.split_at.ensures.front) c.in-Ok.ensures.moved in
    if_error _ _ _ c.from_residual.ensures.1 (record {
      taken = before.0 ++ piece;
      consumed = Consumes-trans (left c.args.script.now).octets (left c.pieces.script).octets (left c.take.new.self).octets before.0 piece before.1 moved;
      small = both_small before.0 piece before.2 c.in_err-take_piece.ensures.octets;
      source = SourceFails-other stop _ _ (λ source. c.take_piece.ensures.other (c.in_err-take_piece.was ∙ ap Err source))
          (c.in-Ok.ensures.no_fault ∙ c.pieces.invariant.no_fault);
      stops = StopsWithin-then on g.R.Draws c.args.tools.now.workers before.0 piece stop (at c.args.self.now (seen c.args.out.now) (drawn_by g.P.Draws c.args.peers.now))
          (at c.pieces.self (seen c.pieces.out) (drawn_by g.P.Draws c.pieces.peers))
          (at c.take_piece.new.self (seen c.take_piece.new.out) (drawn_by g.P.Draws c.take_piece.new.peers)) before.3 c.in_err-take_piece.ensures.stops;
    })
