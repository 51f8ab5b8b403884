use Rattle.std.proofs.Common.{◌∙◌, refl, sym}
use Rattle.group_model.specs.declared.entries.Answer.TheVariants.{Refused}
use Rattle.group_model.specs.declared.entries.Asked.TheVariants.{DeliverAll}
use Rattle.group_model.specs.declared.entries.Refusal.TheVariants.{NeedsReopen}
use Rattle.server_steps.proofs.StillLemmas.{IsPlain, says_due, serves_still}
use Rattle.server_steps.proofs.seeing.refuse_deliveries.Goals as goal

pub returns-clause-serves : goal.returns-clause-serves
returns-clause-serves g c =
    let plain : IsPlain (Refused NeedsReopen) = record { no_fault = refl; not_opened = refl } in
    serves_still g.D.Disk g.G.Signer g.R.Draws DeliverAll c.args.core.now (Refused NeedsReopen) (λ host server. (
      plain,
      record {
        stopped = sym server.stands.needs_reopen ∙ c.requires;
        says = says_due g.D.Disk g.G.Signer g.R.Draws (λ host. Refused NeedsReopen) c.args.core.now (Refused NeedsReopen) host server plain refl;
      },
    ))
