use Rattle.std.proofs.Common.{◌∙◌, ap, sym}
use Rattle.std.specs.Prelude.{option_copied}
use Rattle.pull_sessions.specs.Sessions.{has_cookies}
use Rattle.pull_sessions.proofs.SaLemmas.{not_found, seen_at}
use Rattle.pull_sessions.proofs.sas.Sas.with_cookies.Goals as goal

pub returns : goal.returns
returns c =
    seen_at (has_cookies c.args.cookies.now) c.self.inside.list.items c.args.self.now c.in_ok-place.place c.index.result.now c.self.view_is
    (sym c.place_with.ensures ∙ c.in_ok-place.was) c.index.ensures

pub returns-in_err-place : goal.returns-in_err-place
returns-in_err-place c =
    ap option_copied c.from_residual.ensures
    ∙ sym (not_found (has_cookies c.args.cookies.now) c.args.self.now (sym c.place_with.ensures ∙ c.in_err-place.was))
