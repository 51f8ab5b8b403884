use Rattle.std.proofs.Common.{◌∙◌, Ok, ap, subst, sym}
use Rattle.pull_sessions.specs.Builds.{IsFirstFrom}
use Rattle.pull_sessions.specs.Looks.{IsLook}
use Rattle.pull_sessions.specs.declared.answers.LookedAt.{LookedAt}
use Rattle.case_servers.proofs.sessions.found_first.Goals as goal

pub returns-in-NewFirst : goal.returns-in-NewFirst
returns-in-NewFirst c =
    let sas = c.args.sessions.now.sas in
    let m = c.in-Ok.looked.member in
    subst (IsFirstFrom sas m c.args.datagram.now) (sym c.in-NewFirst.first-is)
    (c.what_is_found_can_be_held.ensures.first sas m c.args.datagram.now c.in-NewFirst.first c.prove_sound.ensures.apart
    (subst (IsLook sas c.args.datagram.now) (c.in-Ok.is ∙ ap (λ (what : LookedAt). Ok (record { member = m; what = what })) c.in-NewFirst.is) c.look.ensures))
