use Rattle.std.proofs.Common.{◌≡◌, ◌∙◌, ◌∷◌, [], List, None, refl, sym, ap, subst}
use Rattle.group_model.specs.declared.entries.Answer.TheVariants.{Refused}
use Rattle.group_model.specs.declared.entries.Asked.TheVariants.{Create}
use Rattle.group_model.specs.declared.entries.Entry.{Entry}
use Rattle.server_steps.specs.Entries.{noted}
use Rattle.server_steps.specs.Hosts.{no_host}
use Rattle.server_steps.specs.Openings.{IsCreation}
use Rattle.group_steps.specs.Runs.{no_run, outset_of}
use Rattle.group_run.specs.Openings.{FailsToOpen}
use Rattle.group_run.specs.Views.{View}
use Rattle.group_run.proofs.OpenLemmas.{bare_created, just_opened, opens, opens_not, pair_fits, stands_on}
use Rattle.group_run.proofs.runs.GroupRun.create.Goals as goal

pub opened-requires-clause-host : goal.opened-requires-clause-host
opened-requires-clause-host g c = (c.in-Ok-create.ensures.ok.next, c.in-Ok-create.ensures.ok.server)

pub opened-requires-clause-nobody : goal.opened-requires-clause-nobody
opened-requires-clause-nobody g c =
    let parts = c.args.parts in
    let group = c.args.group.now in
    (bare_created g.D.Disk g.R.Draws parts (no_host parts.disk group.name group.limit (g.R.Draws.place_of parts.draws) c.args.phases)
    (record { rules = refl; sas = refl }) c.in-Ok-create.server None (g.R.Draws.block_at parts.draws) group.depth (Create group.depth) c.in-Ok-create.ensures.ok).sas

pub opened-requires-clause-fits : goal.opened-requires-clause-fits
opened-requires-clause-fits g c =
    pair_fits g.D.Disk g.R.Draws c.in-Ok-create.server c.in-Ok-create.ensures.ok.next c.in-Ok-create.ensures.ok.server None c.show_opened-answer.result
    c.show_opened-answer.ensures tt

pub returns-in-Ok-create-clause-ok : goal.returns-in-Ok-create-clause-ok
returns-in-Ok-create-clause-ok g c =
    let parts = c.args.parts in
    let group = c.args.group.now in
    let draws = g.R.Draws in
    let start = no_host parts.disk group.name group.limit (draws.place_of parts.draws) c.args.phases in
    let server = c.in-Ok-create.server in
    let answer = c.show_opened-answer in
    opens g.D.Disk draws (IsCreation g.D.Disk (draws.block_at parts.draws) group.depth) (Create group.depth) start parts c.args.members_place server None
    answer.result c.in-Ok-create.ensures.ok answer.ensures
    (c.opened.ensures ∙ (λ i. just_opened server (c.in-Ok.ensures i) (Create group.depth) answer.result (c.place-place.ensures i)))

pub returns-in-Ok-create-clause-begins : goal.returns-in-Ok-create-clause-begins
returns-in-Ok-create-clause-begins g c =
    let parts = c.args.parts in
    let group = c.args.group.now in
    let bare = bare_created g.D.Disk g.R.Draws parts (no_host parts.disk group.name group.limit (g.R.Draws.place_of parts.draws) c.args.phases)
    (record { rules = refl; sas = refl }) c.in-Ok-create.server None (g.R.Draws.block_at parts.draws) group.depth (Create group.depth) c.in-Ok-create.ensures.ok in (
      ap (λ (held : View g.row.D.Denot g.row.G.Denot g.row.R.Denot). held.server.rules) c.opened.ensures ∙ bare.rules,
      ap (λ (held : View g.row.D.Denot g.row.G.Denot g.row.R.Denot). held.members.mail) c.opened.ensures,
      ap (λ (held : View g.row.D.Denot g.row.G.Denot g.row.R.Denot). held.members.place) c.opened.ensures ∙ c.in-Ok.ensures,
    )

pub returns-in-Ok-create-clause-goes_on : goal.returns-in-Ok-create-clause-goes_on
returns-in-Ok-create-clause-goes_on g c =
    let parts = c.args.parts in
    let group = c.args.group.now in
    let draws = g.R.Draws in
    stands_on g.D.Disk draws (IsCreation g.D.Disk (draws.block_at parts.draws) group.depth) (Create group.depth)
    (no_host parts.disk group.name group.limit (draws.place_of parts.draws) c.args.phases) parts c.args.members_place c.in-Ok-create.server None c.in-Ok-create.ensures.ok
    c.opened.result (ap (λ (held : View g.row.D.Denot g.row.G.Denot g.row.R.Denot). held.server) c.opened.ensures)

pub returns-in-Err-clause-err : goal.returns-in-Err-clause-err
returns-in-Err-clause-err g c =
    let parts = c.args.parts in
    let group = c.args.group.now in
    let draws = g.R.Draws in
    let place = draws.place_of parts.draws in
    let step = IsCreation g.D.Disk (draws.block_at parts.draws) group.depth in
    let opening = c.in-Err.opening in
    let says : c.refused.result.history ≡ noted (Create group.depth) (Refused opening.refusal) place ∷ [] =
    c.refused.ensures.history ∙ ap (λ p. noted (Create group.depth) (Refused opening.refusal) p ∷ []) c.place-place.ensures in
    subst (λ (x : List Entry × g.row.D.Denot). FailsToOpen g.D.Disk step (Create group.depth)
    (no_run (outset_of parts.disk group.name group.limit place c.args.members_place c.args.phases)) x.0 x.1)
    (λ i. (sym says i, sym (ap (λ p. p.disk) c.refused.ensures.parts) i))
    (opens_not g.D.Disk draws step (Create group.depth) (no_host parts.disk group.name group.limit place c.args.phases) parts c.args.members_place opening.refusal
    opening.parts c.in-Err.ensures.err)
