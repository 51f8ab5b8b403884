use Rattle.std.proofs.Common.{◌≡◌, ◌∙◌, Some, ap, subst, sym}
use Rattle.std.specs.List.{position}
use Rattle.pull_sessions.specs.Fits.{AllFit}
use Rattle.pull_sessions.specs.Sessions.{cookies_of, is_of, members_of, put_sessions, session_of}
use Rattle.pull_sessions.proofs.FitLemmas.{no_session, put_fits, session_fits}
use Rattle.pull_sessions.proofs.SaLemmas.{cookies_at, had_at, had_nowhere, members_at, put_at, put_nowhere, same_apart}
use Rattle.pull_sessions.proofs.sas.Sas.replace.Goals as goal

pub invariant_of-self : goal.invariant_of-self
invariant_of-self c =
    let sas = c.self.inside.list.items in
    let cookies = ap cookies_of c.replace_at.ensures.has ∙ cookies_at sas c.in-Some.place c.args.session in
    let members = ap members_of c.replace_at.ensures.has ∙ members_at sas c.in-Some.place c.args.session in (
      same_apart sas c.replace_at.new.sas.items cookies members c.self.invariant.0,
      c.self.invariant.1 ∙ sym cookies,
      c.self.invariant.2 ∙ sym members,
      subst AllFit (sym c.replace_at.ensures.has) (put_fits sas c.in-Some.place c.args.session c.self.invariant.3 c.requires),
    )

pub returns-in-Some-clause-had : goal.returns-in-Some-clause-had
returns-in-Some-clause-had c =
    let sas = c.self.inside.list.items in
    let m = c.args.member.now in
    let is : position (is_of m) sas ≡ Some c.in-Some.place = ap (position (is_of m)) c.self.view_is ∙ sym c.place_of.ensures ∙ c.in-Some.is in
    c.replace_at.ensures.had ∙ had_at sas m c.in-Some.place is ∙ ap (λ sas. session_of sas m) c.self.view_is

pub returns-in-Some-clause-has : goal.returns-in-Some-clause-has
returns-in-Some-clause-has c =
    let sas = c.self.inside.list.items in
    let m = c.args.member.now in
    let is : position (is_of m) sas ≡ Some c.in-Some.place = ap (position (is_of m)) c.self.view_is ∙ sym c.place_of.ensures ∙ c.in-Some.is in
    c.replace_at.ensures.has ∙ put_at sas m c.args.session c.in-Some.place c.self.invariant.0 is ∙ ap (put_sessions m c.args.session) c.self.view_is

pub returns-in-None-clause-had : goal.returns-in-None-clause-had
returns-in-None-clause-had c = sym (had_nowhere c.args.self.now c.args.member.now (sym c.place_of.ensures ∙ c.in-None.is))

pub returns-in-None-clause-has : goal.returns-in-None-clause-has
returns-in-None-clause-has c = sym (put_nowhere c.args.self.now c.args.member.now c.args.session (sym c.place_of.ensures ∙ c.in-None.is))

pub returns-in-Some-clause-fits : goal.returns-in-Some-clause-fits
returns-in-Some-clause-fits c one is =
    let sas = c.self.inside.list.items in
    let m = c.args.member.now in
    let at : position (is_of m) sas ≡ Some c.in-Some.place = ap (position (is_of m)) c.self.view_is ∙ sym c.place_of.ensures ∙ c.in-Some.is in
    session_fits sas m c.self.invariant.3 one (sym (c.replace_at.ensures.had ∙ had_at sas m c.in-Some.place at) ∙ is)

pub returns-in-None-clause-fits : goal.returns-in-None-clause-fits
returns-in-None-clause-fits c = no_session
