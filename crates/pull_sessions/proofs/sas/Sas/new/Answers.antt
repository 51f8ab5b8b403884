use Rattle.std.proofs.Common.{◌∙◌, ap, subst, sym}
use Rattle.pull_sessions.specs.Fits.{AllFit}
use Rattle.pull_sessions.specs.Sessions.{AreApart, cookies_of, members_of}
use Rattle.pull_sessions.proofs.SaLemmas.{none_apart}
use Rattle.pull_sessions.proofs.sas.Sas.new.Goals as goal

pub invariant_of-result : goal.invariant_of-result
invariant_of-result c = (
  subst AreApart (sym c.new.ensures.items) none_apart,
  c.new-2.ensures.empty ∙ ap cookies_of (sym c.new.ensures.items),
  c.new-3.ensures.empty ∙ ap members_of (sym c.new.ensures.items),
  subst AllFit (sym c.new.ensures.items) tt,
)
