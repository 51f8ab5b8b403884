use Rattle.std.proofs.Common.{◌∙◌, Ok, ap, subst}
use Rattle.pull_sessions.specs.Looks.{IsLook}
use Rattle.pull_sessions.specs.declared.answers.LookedAt.{LookedAt}
use Rattle.case_servers.proofs.sessions.found_third.Goals as goal

pub returns-in-NextThird : goal.returns-in-NextThird
returns-in-NextThird c =
    let sas = c.args.sessions.now.sas in
    let m = c.in-Ok.looked.member in
    c.what_is_found_can_be_held.ensures.third sas m c.args.datagram.now c.in-NextThird.third c.prove_sound.ensures.apart
    (subst (IsLook sas c.args.datagram.now) (c.in-Ok.is ∙ ap (λ (what : LookedAt). Ok (record { member = m; what = what })) c.in-NextThird.is) c.look.ensures)
