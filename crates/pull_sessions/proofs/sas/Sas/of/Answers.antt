use Rattle.std.proofs.Common.{◌∙◌, ap, sym}
use Rattle.std.specs.Prelude.{option_copied}
use Rattle.pull_sessions.specs.Sessions.{is_of}
use Rattle.pull_sessions.proofs.SaLemmas.{not_found, seen_at}
use Rattle.pull_sessions.proofs.sas.Sas.of.Goals as goal

pub returns : goal.returns
returns c =
    seen_at (is_of c.args.member.now) c.self.inside.list.items c.args.self.now c.in_ok-place.place c.index.result.now c.self.view_is
    (sym c.place_of.ensures ∙ c.in_ok-place.was) c.index.ensures

pub returns-in_err-place : goal.returns-in_err-place
returns-in_err-place c =
    ap option_copied c.from_residual.ensures
    ∙ sym (not_found (is_of c.args.member.now) c.args.self.now (sym c.place_of.ensures ∙ c.in_err-place.was))
