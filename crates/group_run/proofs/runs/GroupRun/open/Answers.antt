use Rattle.std.proofs.Common.{◌≡◌, ◌∙◌, ◌∷◌, [], List, None, refl, sym, ap, subst}
use Rattle.group_model.specs.declared.entries.Answer.TheVariants.{Refused}
use Rattle.group_model.specs.declared.entries.Asked.TheVariants.{Begin}
use Rattle.group_model.specs.declared.entries.Entry.{Entry}
use Rattle.server_steps.specs.Entries.{noted}
use Rattle.server_steps.specs.Hosts.{no_host}
use Rattle.server_steps.specs.Openings.{IsBeginning}
use Rattle.group_steps.specs.Runs.{no_run, outset_of}
use Rattle.group_run.specs.Openings.{FailsToOpen}
use Rattle.group_run.specs.Views.{View}
use Rattle.group_run.proofs.OpenLemmas.{bare_begun, just_opened, opens, opens_not, pair_fits, stands_on}
use Rattle.group_run.proofs.runs.GroupRun.open.Goals as goal

pub opened-requires-clause-host : goal.opened-requires-clause-host
opened-requires-clause-host g c = ((c.in-Ok-open.ensures.ok [] 0).next, (c.in-Ok-open.ensures.ok [] 0).server)

pub opened-requires-clause-nobody : goal.opened-requires-clause-nobody
opened-requires-clause-nobody g c =
    let parts = c.args.parts in
    (bare_begun g.D.Disk g.R.Draws parts (no_host parts.disk [] 0 (g.R.Draws.place_of parts.draws) c.args.phases)
    (record { rules = refl; sas = refl }) c.in-Ok-open.field-0.server c.in-Ok-open.field-0.resent g.G.Signer parts.signer Begin (c.in-Ok-open.ensures.ok [] 0)).sas

pub opened-requires-clause-fits : goal.opened-requires-clause-fits
opened-requires-clause-fits g c =
    pair_fits g.D.Disk g.R.Draws c.in-Ok-open.field-0.server (c.in-Ok-open.ensures.ok [] 0).next (c.in-Ok-open.ensures.ok [] 0).server c.in-Ok-open.field-0.resent c.show_opened-answer.result
    c.show_opened-answer.ensures c.in-Ok-open.ensures.fits

pub returns-in-Ok-open-clause-ok : goal.returns-in-Ok-open-clause-ok
returns-in-Ok-open-clause-ok g c name limit =
    let parts = c.args.parts in
    let draws = g.R.Draws in
    let start = no_host parts.disk name limit (draws.place_of parts.draws) c.args.phases in
    let server = c.in-Ok-open.field-0.server in
    let answer = c.show_opened-answer in
    opens g.D.Disk draws (IsBeginning g.D.Disk g.G.Signer parts.signer) Begin start parts c.args.members_place server c.in-Ok-open.field-0.resent
    answer.result (c.in-Ok-open.ensures.ok name limit) answer.ensures
    (c.opened.ensures ∙ (λ i. just_opened server (c.in-Ok.ensures i) Begin answer.result (c.place-place.ensures i)))

pub returns-in-Ok-open-clause-begins : goal.returns-in-Ok-open-clause-begins
returns-in-Ok-open-clause-begins g c =
    let parts = c.args.parts in
    let bare = bare_begun g.D.Disk g.R.Draws parts (no_host parts.disk [] 0 (g.R.Draws.place_of parts.draws) c.args.phases)
    (record { rules = refl; sas = refl }) c.in-Ok-open.field-0.server c.in-Ok-open.field-0.resent g.G.Signer parts.signer Begin (c.in-Ok-open.ensures.ok [] 0) in (
      ap (λ (held : View g.row.D.Denot g.row.G.Denot g.row.R.Denot). held.server.rules) c.opened.ensures ∙ bare.rules,
      ap (λ (held : View g.row.D.Denot g.row.G.Denot g.row.R.Denot). held.members.mail) c.opened.ensures,
      ap (λ (held : View g.row.D.Denot g.row.G.Denot g.row.R.Denot). held.members.place) c.opened.ensures ∙ c.in-Ok.ensures,
    )

pub returns-in-Ok-open-clause-goes_on : goal.returns-in-Ok-open-clause-goes_on
returns-in-Ok-open-clause-goes_on g c =
    let parts = c.args.parts in
    let draws = g.R.Draws in
    stands_on g.D.Disk draws (IsBeginning g.D.Disk g.G.Signer parts.signer) Begin
    (no_host parts.disk [] 0 (draws.place_of parts.draws) c.args.phases) parts c.args.members_place c.in-Ok-open.field-0.server c.in-Ok-open.field-0.resent
    (c.in-Ok-open.ensures.ok [] 0) c.opened.result (ap (λ (held : View g.row.D.Denot g.row.G.Denot g.row.R.Denot). held.server) c.opened.ensures)

pub returns-in-Err-clause-err : goal.returns-in-Err-clause-err
returns-in-Err-clause-err g c name limit =
    let parts = c.args.parts in
    let draws = g.R.Draws in
    let place = draws.place_of parts.draws in
    let step = IsBeginning g.D.Disk g.G.Signer parts.signer in
    let opening = c.in-Err.opening in
    let says : c.refused.result.history ≡ noted Begin (Refused opening.refusal) place ∷ [] =
    c.refused.ensures.history ∙ ap (λ p. noted Begin (Refused opening.refusal) p ∷ []) c.place-place.ensures in
    subst (λ (x : List Entry × g.row.D.Denot). FailsToOpen g.D.Disk step Begin
    (no_run (outset_of parts.disk name limit place c.args.members_place c.args.phases)) x.0 x.1)
    (λ i. (sym says i, sym (ap (λ p. p.disk) c.refused.ensures.parts) i))
    (opens_not g.D.Disk draws step Begin (no_host parts.disk name limit place c.args.phases) parts c.args.members_place opening.refusal
    opening.parts (c.in-Err.ensures.err name limit))
