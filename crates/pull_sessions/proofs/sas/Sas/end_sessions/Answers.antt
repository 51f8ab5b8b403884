use Rattle.std.proofs.Common.{◌∙◌, ap, subst, sym}
use Rattle.pull_sessions.proofs.FitLemmas.{ended_fit}
use Rattle.pull_sessions.proofs.SaLemmas.{cookies_ended, members_ended, same_apart}
use Rattle.pull_sessions.specs.Fits.{AllFit}
use Rattle.pull_sessions.specs.Sessions.{cookies_of, members_of}
use Rattle.pull_sessions.proofs.sas.Sas.end_sessions.Goals as goal

pub invariant_of-self : goal.invariant_of-self
invariant_of-self c =
    let sas = c.self.inside.list.items in
    let cookies = ap cookies_of c.end_all.ensures ∙ cookies_ended sas in
    let members = ap members_of c.end_all.ensures ∙ members_ended sas in (
      same_apart sas c.end_all.new.sas.items cookies members c.self.invariant.0,
      c.self.invariant.1 ∙ sym cookies,
      c.self.invariant.2 ∙ sym members,
      subst AllFit (sym c.end_all.ensures) (ended_fit sas c.self.invariant.3),
    )
