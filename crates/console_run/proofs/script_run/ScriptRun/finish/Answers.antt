use Rattle.std.proofs.Common.{◌≡◌, ℕ, zero, suc, ◌<◌, false, Bool, eqb, Err, length, sym, ap, ◌∙◌, subst, arith, refl}
use Rattle.std.proofs.lemmas.Bool.{eqb-true, false≢true}
use Rattle.std.proofs.lemmas.List.{nil_from_length}
use Rattle.std.proofs.lemmas.Result.{MatchResult-weaker}
use Rattle.console_run.specs.Private.Follows.{at}
use Rattle.group_steps.specs.Devices.{devices}
use Rattle.console_run.specs.Private.Runs.{Ends, StopsAtEnd, drawn_by}
use Rattle.run_report.specs.declared.stops.Stop.TheVariants.{Line}
use Rattle.run_report.proofs.ErrorLemmas.{if_error}
use Rattle.console_run.proofs.StopLemmas.{inside_script, inside_with_last, stopped_at_end, whole_script, whole_with_last}
use Rattle.console_run.proofs.script_run.ScriptRun.finish.Goals as goal

-- a number that is not 0
some_of : (n : ℕ) → false ≡ eqb n 0 → 0 < n
some_of zero h = absurd (false≢true h)
some_of (suc n) h = omega arith

pub returns-then-is_empty-clause-ends : goal.returns-then-is_empty-clause-ends
returns-then-is_empty-clause-ends g c =
    let on = devices g.D.Disk g.G.Signer g.V.Verifier c.args.tools.now.verifier.now in
    let was = c.args.self.now in
    let out = g.K.Sink.shows c.args.out.now in
    let peers = drawn_by g.P.Draws c.args.peers.now in
    let none = nil_from_length was.line.items (eqb-true (length was.line.items) 0 (sym {A = Bool} c.if-is_empty.ensures)) in
    MatchResult-weaker c.end.result c.end.ensures
    (λ _ ended. subst (λ new. Ends on g.R.Draws c.args.tools.now.workers (at was out peers) (at new out peers)) (sym ended.1)
    (λ start before so. whole_script on g.R.Draws c.args.tools.now.workers start before (at was out peers) so none ended.0))
    (λ stop inside. tt)

pub returns-then-is_empty-clause-stops : goal.returns-then-is_empty-clause-stops
returns-then-is_empty-clause-stops g c =
    let on = devices g.D.Disk g.G.Signer g.V.Verifier c.args.tools.now.verifier.now in
    let was = c.args.self.now in
    let out = g.K.Sink.shows c.args.out.now in
    let peers = drawn_by g.P.Draws c.args.peers.now in
    let none = nil_from_length was.line.items (eqb-true (length was.line.items) 0 (sym {A = Bool} c.if-is_empty.ensures)) in
    MatchResult-weaker c.end.result c.end.ensures (λ _ ended. tt)
    (λ stop inside. subst (λ stop. StopsAtEnd on g.R.Draws c.args.tools.now.workers stop (at was out peers) (at c.end.new.self out peers)) (sym inside.faulty)
    (subst (λ new. StopsAtEnd on g.R.Draws c.args.tools.now.workers Line (at was out peers) (at new out peers)) (sym inside.now)
    (λ start before so. inside_script on g.R.Draws c.args.tools.now.workers start before (at was out peers)
    (at (record was { count = inside.block.before }) out peers) inside.block so none inside.is refl refl refl)))

pub returns-clause-ends : goal.returns-clause-ends
returns-clause-ends g c =
    let on = devices g.D.Disk g.G.Signer g.V.Verifier c.args.tools.now.verifier.now in
    let was = c.args.self.now in
    let seen = g.K.Sink.shows in
    let some = some_of (length was.line.items) c.if-is_empty.ensures in
    let peers = drawn_by g.P.Draws c.args.peers.now in
    let now = seen c.run_line.new.out in
    let mid = c.run_line.new.self in
    MatchResult-weaker c.end-2.result c.end-2.ensures
    (λ _ ended. subst (λ new. Ends on g.R.Draws c.args.tools.now.workers (at was (seen c.args.out.now) peers) (at new now (drawn_by g.P.Draws c.run_line.new.peers)))
    (sym ended.1)
    (λ start before so. whole_with_last on g.R.Draws c.args.tools.now.workers start before (at was (seen c.args.out.now) peers) so some (c.requires.ready.begun some)
    mid.group mid.block now c.in_ok-run_line.ensures.placed c.in_ok-run_line.ensures.ok (at mid now (drawn_by g.P.Draws c.run_line.new.peers)) refl refl ended.0))
    (λ stop inside. tt)

pub returns-clause-stops : goal.returns-clause-stops
returns-clause-stops g c =
    let on = devices g.D.Disk g.G.Signer g.V.Verifier c.args.tools.now.verifier.now in
    let was = c.args.self.now in
    let seen = g.K.Sink.shows in
    let some = some_of (length was.line.items) c.if-is_empty.ensures in
    let peers = drawn_by g.P.Draws c.args.peers.now in
    let peers_now = drawn_by g.P.Draws c.run_line.new.peers in
    let now = seen c.run_line.new.out in
    let mid = c.run_line.new.self in
    MatchResult-weaker c.end-2.result c.end-2.ensures (λ _ ended. tt)
    (λ stop inside. subst (λ stop. StopsAtEnd on g.R.Draws c.args.tools.now.workers stop (at was (seen c.args.out.now) peers) (at c.end-2.new.self now peers_now))
    (sym inside.faulty)
    (subst (λ new. StopsAtEnd on g.R.Draws c.args.tools.now.workers Line (at was (seen c.args.out.now) peers) (at new now peers_now)) (sym inside.now)
    (λ start before so. inside_with_last on g.R.Draws c.args.tools.now.workers start before (at was (seen c.args.out.now) peers) so some (c.requires.ready.begun some)
    mid.group mid.block now c.in_ok-run_line.ensures.placed c.in_ok-run_line.ensures.ok (at (record mid { count = inside.block.before }) now peers_now)
    refl refl inside.block inside.is refl)))

pub returns-in_err-run_line-clause-stops : goal.returns-in_err-run_line-clause-stops
returns-in_err-run_line-clause-stops g c =
    let on = devices g.D.Disk g.G.Signer g.V.Verifier c.args.tools.now.verifier.now in
    let was = c.args.self.now in
    let seen = g.K.Sink.shows in
    let stop = c.in_err-run_line.field-0.0 in
    if_error _ _ _ c.from_residual.ensures.1
    (λ start before so.
    stopped_at_end on g.R.Draws c.args.tools.now.workers start before stop was.group c.run_line.new.self.group was.block was.line.items was.count (seen c.args.out.now)
    (seen c.run_line.new.out) (drawn_by g.P.Draws c.args.peers.now) so c.requires.ready.short
    (c.requires.ready.begun (some_of (length was.line.items) c.if-is_empty.ensures))
    (λ line. c.run_line.ensures.faulty (c.in_err-run_line.was ∙ ap Err line)) c.in_err-run_line.ensures.stops
    (at c.run_line.new.self (seen c.run_line.new.out) (drawn_by g.P.Draws c.run_line.new.peers)) refl refl c.run_line.ensures.count)
