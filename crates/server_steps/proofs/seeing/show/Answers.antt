use Rattle.std.proofs.Common.{◌∙◌, refl, sym}
use Rattle.group_model.specs.declared.entries.Answer.TheVariants.{Refused, Shown}
use Rattle.group_model.specs.declared.entries.Asked.TheVariants.{Show}
use Rattle.group_model.specs.declared.entries.Refusal.TheVariants.{NeedsReopen}
use Rattle.server_steps.specs.Changes.{shown_group}
use Rattle.server_steps.proofs.SeenLemmas.{shown_open, shown_stopped}
use Rattle.server_steps.proofs.StillLemmas.{IsPlain, says_due, serves_still}
use Rattle.server_steps.proofs.seeing.show.Goals as goal

pub returns-then-needs_reopen-clause-serves : goal.returns-then-needs_reopen-clause-serves
returns-then-needs_reopen-clause-serves g c =
    let stops = sym c.needs_reopen.ensures ∙ c.if-needs_reopen.true in
    let plain : IsPlain (Refused NeedsReopen) = record { no_fault = refl; not_opened = refl } in
    serves_still g.D.Disk g.G.Signer g.R.Draws Show c.args.core.now (Refused NeedsReopen) (λ host server. (
      plain,
      says_due g.D.Disk g.G.Signer g.R.Draws (λ host. shown_group host.server) c.args.core.now (Refused NeedsReopen) host server plain
          (shown_stopped host.server (sym server.stands.needs_reopen ∙ stops)),
    ))

pub returns-clause-serves : goal.returns-clause-serves
returns-clause-serves g c =
    let goes = sym c.needs_reopen.ensures ∙ c.if-needs_reopen.false in
    let plain : IsPlain (Shown c.seen.result) = record { no_fault = refl; not_opened = refl } in
    serves_still g.D.Disk g.G.Signer g.R.Draws Show c.args.core.now (Shown c.seen.result) (λ host server. (
      plain,
      says_due g.D.Disk g.G.Signer g.R.Draws (λ host. shown_group host.server) c.args.core.now (Shown c.seen.result) host server plain
          (shown_open host.server c.seen.result (sym server.stands.needs_reopen ∙ goes) (c.seen.ensures host.server server.stands)),
    ))
