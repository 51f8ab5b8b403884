use Rattle.std.proofs.Common.{◌∙◌, length, ap}
use Rattle.group_run.specs.Views.{View}
use Rattle.group_run.proofs.LineLemmas.{apart_then, ends_then, lent_of_peers, ready_then, shown_then, stops_then, to_peers_then, untouched}
use Rattle.group_run.proofs.ReachLemmas.{goes_then, on_err_then, on_ok_both}
use Rattle.group_run.proofs.runs.GroupRun.run_lines.Goals as goal

pub take_turns-run-requires-clause-peers : goal.take_turns-run-requires-clause-peers
take_turns-run-requires-clause-peers g c κs within = lent_of_peers c.args.lines c.args.self.members c.requires.can

pub returns-then-not-ran-clause-err : goal.returns-then-not-ran-clause-err
returns-then-not-ran-clause-err g c =
    λ block group asks handed before begun now unsent ready served is.
    untouched g.D.Disk g.G.Signer g.R.Draws c.each_line_has_its_own_turns.ensures c.each_look_was_shown.ensures c.args.workers c.requires.workers.0
    c.take_turns-run.ensures (length c.items-first.result.now)
    (ap length (c.items-first.ensures ∙ ap (λ (held : View g.row.D.Denot g.row.G.Denot g.row.R.Denot). held.entries) c.self.view_is))
    c.if-not-ran.true handed asks block group ready served

pub end_block-ended-requires-clause-ready : goal.end_block-ended-requires-clause-ready
end_block-ended-requires-clause-ready g c κs within =
    ready_then g.D.Disk g.G.Signer g.R.Draws c.each_line_has_its_own_turns.ensures c.each_look_was_shown.ensures c.args.workers c.requires.workers.0
    c.take_turns-run.ensures (length c.items-first.result.now)
    (ap length (c.items-first.ensures ∙ ap (λ (held : View g.row.D.Denot g.row.G.Denot g.row.R.Denot). held.entries) c.self.view_is))
    c.if-not-ran.false c.requires.can

pub end_block-ended-requires-clause-apart : goal.end_block-ended-requires-clause-apart
end_block-ended-requires-clause-apart g c κs within =
    apart_then g.D.Disk g.G.Signer g.R.Draws c.each_line_has_its_own_turns.ensures c.each_look_was_shown.ensures c.args.workers c.requires.workers.0
    c.take_turns-run.ensures (length c.items-first.result.now)
    (ap length (c.items-first.ensures ∙ ap (λ (held : View g.row.D.Denot g.row.G.Denot g.row.R.Denot). held.entries) c.self.view_is))
    c.if-not-ran.false c.requires.can

pub end_block-ended-requires-clause-to_peers : goal.end_block-ended-requires-clause-to_peers
end_block-ended-requires-clause-to_peers g c κs within =
    to_peers_then g.D.Disk g.G.Signer g.R.Draws c.each_line_has_its_own_turns.ensures c.each_look_was_shown.ensures c.args.workers c.requires.workers.0
    c.take_turns-run.ensures (length c.items-first.result.now)
    (ap length (c.items-first.ensures ∙ ap (λ (held : View g.row.D.Denot g.row.G.Denot g.row.R.Denot). held.entries) c.self.view_is))
    c.if-not-ran.false c.requires.can

pub end_block-ended-requires-clause-shown : goal.end_block-ended-requires-clause-shown
end_block-ended-requires-clause-shown g c κs within =
    shown_then g.D.Disk g.G.Signer g.R.Draws c.each_line_has_its_own_turns.ensures c.each_look_was_shown.ensures c.args.workers c.requires.workers.0
    c.take_turns-run.ensures (length c.items-first.result.now)
    (ap length (c.items-first.ensures ∙ ap (λ (held : View g.row.D.Denot g.row.G.Denot g.row.R.Denot). held.entries) c.self.view_is))
    c.if-not-ran.false c.requires.can

pub returns-clause-ok : goal.returns-clause-ok
returns-clause-ok g c =
    on_ok_both c.end_block-ended.result c.end_block-ended.ensures.had c.end_block-ended.ensures.ok
    (λ had ends block group asks handed before begun now unsent ready served is.
    ends_then g.D.Disk g.G.Signer g.R.Draws c.each_line_has_its_own_turns.ensures c.each_look_was_shown.ensures c.args.workers c.requires.workers.0
    c.take_turns-run.ensures (length c.items-first.result.now)
    (ap length (c.items-first.ensures ∙ ap (λ (held : View g.row.D.Denot g.row.G.Denot g.row.R.Denot). held.entries) c.self.view_is))
    c.if-not-ran.false c.requires.can block group asks handed before begun now unsent ready served is had ends)

pub returns-clause-err : goal.returns-clause-err
returns-clause-err g c =
    on_err_then c.end_block-ended.result c.end_block-ended.ensures.err
    (λ stops block group asks handed before begun now unsent ready served is.
    stops_then g.D.Disk g.G.Signer g.R.Draws c.each_line_has_its_own_turns.ensures c.each_look_was_shown.ensures c.args.workers c.requires.workers.0
    c.take_turns-run.ensures (length c.items-first.result.now)
    (ap length (c.items-first.ensures ∙ ap (λ (held : View g.row.D.Denot g.row.G.Denot g.row.R.Denot). held.entries) c.self.view_is))
    c.if-not-ran.false c.requires.can block group asks handed before begun now unsent ready served is stops)

pub returns-clause-goes_on : goal.returns-clause-goes_on
returns-clause-goes_on g c =
    goes_then g.R.Draws c.take_turns-run.ensures.since.goes_on
    c.end_block-ended.ensures.goes_on
