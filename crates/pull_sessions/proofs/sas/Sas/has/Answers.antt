use Rattle.std.proofs.Common.{◌∙◌, ◌||◌, ap, sym}
use Rattle.std.specs.Prelude.{is_some}
use Rattle.std.specs.List.{list_any}
use Rattle.group_model.proofs.IndexLemmas.{is_some-position}
use Rattle.pull_sessions.specs.Sessions.{has_cookies, is_of}
use Rattle.pull_sessions.proofs.SaLemmas.{taken}
use Rattle.pull_sessions.proofs.sas.Sas.has.Goals as goal

pub returns-then-is_some : goal.returns-then-is_some
returns-then-is_some c =
    let sas = c.args.self.now in
    let phase = c.args.phase.now in
    c.if-is_some.true
    ∙ sym (ap (λ b. b || list_any (is_of phase.member) sas)
    (sym (is_some-position (has_cookies phase.cookies) sas) ∙ ap is_some (sym c.place_with.ensures) ∙ sym c.is_some.ensures ∙ c.if-is_some.true))
    ∙ sym (taken phase sas)

pub returns-else-is_some : goal.returns-else-is_some
returns-else-is_some c =
    let sas = c.args.self.now in
    let phase = c.args.phase.now in
    c.is_some-else-is_some.ensures ∙ ap is_some c.place_of.ensures ∙ is_some-position (is_of phase.member) sas
    ∙ sym (ap (λ b. b || list_any (is_of phase.member) sas)
    (sym (is_some-position (has_cookies phase.cookies) sas) ∙ ap is_some (sym c.place_with.ensures) ∙ sym c.is_some.ensures ∙ c.if-is_some.false))
    ∙ sym (taken phase sas)
