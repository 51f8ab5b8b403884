use Rattle.std.proofs.Common.{◌∙◌, None, Some, ap, refl, sym, subst}
use Rattle.std.specs.Prelude.{IfErr, OnOk}
use Rattle.group_steps.specs.Devices.{devices}
use Rattle.script_text.specs.Lines.{line_of}
use Rattle.console_run.specs.Private.Runs.{RunsThere, StopsThere, begun_by_text, by_text, drawn_by, open_of}
use Rattle.console_run.proofs.AskLemmas.{no_line_stops, ok_by_text, other_by_text, stops_by_text}
use Rattle.console_run.proofs.script_run.ScriptRun.run_line.Goals as goal

pub returns-in_default-clause-stops : goal.returns-in_default-clause-stops
returns-in_default-clause-stops g c =
    let on = devices g.D.Disk g.G.Signer g.V.Verifier c.args.tools.now.verifier.now in
    let was = c.args.self.now in
    let seen = g.K.Sink.shows c.args.out.now in
    no_line_stops on g.R.Draws (drawn_by g.P.Draws c.args.peers.now) was.group was.group seen seen c.args.tools.now.workers was.line.items (open_of was.block) None refl refl

pub returns-in-Some-take-clause-ok : goal.returns-in-Some-take-clause-ok
returns-in-Some-take-clause-ok g c =
    let on = devices g.D.Disk g.G.Signer g.V.Verifier c.args.tools.now.verifier.now in
    let was = c.args.self.now in
    let new = c.run_inside.new.self in
    let text = was.line.items in
    let next = open_of new.block in
    let seen = g.K.Sink.shows in
    let peers = drawn_by g.P.Draws c.args.peers.now in
    let result = c.run_inside.result in
    let is = sym (ap line_of c.as_slice.ensures.value) ∙ sym c.in-Some.ensures in
    subst (λ block. OnOk result (RunsThere g.D.Disk g.R.Draws peers (by_text on c.args.tools.now.workers (open_of block) text next) was.group new.group (seen c.args.out.now)
    (seen c.run_inside.new.out))) c.in-Some-take.ensures.value
    (ok_by_text on g.R.Draws peers was.group new.group (seen c.args.out.now) (seen c.run_inside.new.out) c.args.tools.now.workers text (Some c.in-Some-take.block.asks) next c.in-Some.line is result
    c.run_inside.ensures.runs)

pub returns-in-Some-take-clause-stops : goal.returns-in-Some-take-clause-stops
returns-in-Some-take-clause-stops g c =
    let on = devices g.D.Disk g.G.Signer g.V.Verifier c.args.tools.now.verifier.now in
    let was = c.args.self.now in
    let new = c.run_inside.new.self in
    let text = was.line.items in
    let next = open_of new.block in
    let seen = g.K.Sink.shows in
    let peers = drawn_by g.P.Draws c.args.peers.now in
    let result = c.run_inside.result in
    let is = sym (ap line_of c.as_slice.ensures.value) ∙ sym c.in-Some.ensures in
    subst (λ block. IfErr result (λ stop. StopsThere g.D.Disk g.R.Draws peers (begun_by_text on c.args.tools.now.workers (open_of block) text) stop was.group new.group
    (seen c.args.out.now) (seen c.run_inside.new.out))) c.in-Some-take.ensures.value
    (stops_by_text on g.R.Draws peers was.group new.group (seen c.args.out.now) (seen c.run_inside.new.out) c.args.tools.now.workers text (Some c.in-Some-take.block.asks) next c.in-Some.line is result
    c.run_inside.ensures.runs)

pub returns-in-None-clause-ok : goal.returns-in-None-clause-ok
returns-in-None-clause-ok g c =
    let on = devices g.D.Disk g.G.Signer g.V.Verifier c.args.tools.now.verifier.now in
    let was = c.args.self.now in
    let new = c.run_outside.new.self in
    let text = was.line.items in
    let next = open_of new.block in
    let seen = g.K.Sink.shows in
    let peers = drawn_by g.P.Draws c.args.peers.now in
    let result = c.run_outside.result in
    let is = sym (ap line_of c.as_slice.ensures.value) ∙ sym c.in-Some.ensures in
    subst (λ block. OnOk result (RunsThere g.D.Disk g.R.Draws peers (by_text on c.args.tools.now.workers (open_of block) text next) was.group new.group (seen c.args.out.now)
    (seen c.run_outside.new.out))) c.in-None.ensures.value
    (ok_by_text on g.R.Draws peers was.group new.group (seen c.args.out.now) (seen c.run_outside.new.out) c.args.tools.now.workers text None next c.in-Some.line is result
    c.run_outside.ensures.runs)

pub returns-in-None-clause-stops : goal.returns-in-None-clause-stops
returns-in-None-clause-stops g c =
    let on = devices g.D.Disk g.G.Signer g.V.Verifier c.args.tools.now.verifier.now in
    let was = c.args.self.now in
    let new = c.run_outside.new.self in
    let text = was.line.items in
    let next = open_of new.block in
    let seen = g.K.Sink.shows in
    let peers = drawn_by g.P.Draws c.args.peers.now in
    let result = c.run_outside.result in
    let is = sym (ap line_of c.as_slice.ensures.value) ∙ sym c.in-Some.ensures in
    subst (λ block. IfErr result (λ stop. StopsThere g.D.Disk g.R.Draws peers (begun_by_text on c.args.tools.now.workers (open_of block) text) stop was.group new.group
    (seen c.args.out.now) (seen c.run_outside.new.out))) c.in-None.ensures.value
    (stops_by_text on g.R.Draws peers was.group new.group (seen c.args.out.now) (seen c.run_outside.new.out) c.args.tools.now.workers text None next c.in-Some.line is result
    c.run_outside.ensures.runs)

pub returns-in-Some-take-clause-other : goal.returns-in-Some-take-clause-other
returns-in-Some-take-clause-other g c =
    let on = devices g.D.Disk g.G.Signer g.V.Verifier c.args.tools.now.verifier.now in
    let was = c.args.self.now in
    let new = c.run_inside.new.self in
    let seen = g.K.Sink.shows in
    other_by_text on g.R.Draws (drawn_by g.P.Draws c.args.peers.now) was.group new.group (seen c.args.out.now) (seen c.run_inside.new.out) c.args.tools.now.workers was.line.items
    (Some c.in-Some-take.block.asks) (open_of new.block) c.in-Some.line (sym (ap line_of c.as_slice.ensures.value) ∙ sym c.in-Some.ensures) c.run_inside.result c.run_inside.ensures.runs

pub returns-in-None-clause-other : goal.returns-in-None-clause-other
returns-in-None-clause-other g c =
    let on = devices g.D.Disk g.G.Signer g.V.Verifier c.args.tools.now.verifier.now in
    let was = c.args.self.now in
    let new = c.run_outside.new.self in
    let seen = g.K.Sink.shows in
    other_by_text on g.R.Draws (drawn_by g.P.Draws c.args.peers.now) was.group new.group (seen c.args.out.now) (seen c.run_outside.new.out) c.args.tools.now.workers was.line.items
    None (open_of new.block) c.in-Some.line (sym (ap line_of c.as_slice.ensures.value) ∙ sym c.in-Some.ensures) c.run_outside.result c.run_outside.ensures.runs
