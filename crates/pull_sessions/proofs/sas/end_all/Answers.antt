use Rattle.std.proofs.Common.{◌∙◌, None, ap}
use Rattle.pull_sessions.specs.Private.Places.{with_session_at}
use Rattle.pull_sessions.proofs.SaLemmas.{ended_more}
use Rattle.pull_sessions.proofs.sas.end_all.Goals as goal

pub loop-place-preserved : goal.loop-place-preserved
loop-place-preserved c =
    c.replace_at.ensures.has ∙ ap (λ sas. with_session_at sas c.loop-place.place None) c.loop-place.invariant
    ∙ ended_more c.args.sas.now.items c.loop-place.place
