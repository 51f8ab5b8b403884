use Rattle.std.proofs.Common.{◌≡◌, ◌∙◌, Some, ap, subst, sym}
use Rattle.pull_sessions.specs.Builds.{settled_session}
use Rattle.pull_sessions.specs.Fits.{SessionFits}
use Rattle.pull_sessions.specs.Sessions.{Sessions, session_of, with_session}
use Rattle.pull_sessions.specs.declared.sas.Session.{Session}
use Rattle.pull_sessions.proofs.SaLemmas.{has_it, taken_and_put}
use Rattle.pull_sessions.proofs.sessions.Sessions.settle.Goals as goal

pub put-requires : goal.put-requires
put-requires c =
    let old = c.take.ensures.fits c.in-Some.session c.in-Some.is in
    subst SessionFits (sym c.settle.ensures) (record { message = old.message; ni = old.ni; nr = old.nr; iv = old.iv; last = old.last })

pub returns-in-Some : goal.returns-in-Some
returns-in-Some c sa session has =
    let old = c.args.self.now in
    let m = c.args.member.now in
    let was : session_of old.sas m ≡ Some c.in-Some.session =
    ap (λ (sessions : Sessions). session_of sessions.sas m) (sym c.self.view_is) ∙ sym c.take.ensures.had ∙ c.in-Some.is in
    taken_and_put old m c.self.inside.limit c.self.inside.sas c.take.new.self c.put.new.self c.settle.result c.self.view_is c.take.ensures.none c.put.ensures
    ∙ ap (with_session old m)
    (c.settle.ensures ∙ ap (λ (session : Session). settled_session session c.args.kept) (has_it old.sas m sa session c.in-Some.session has was))
