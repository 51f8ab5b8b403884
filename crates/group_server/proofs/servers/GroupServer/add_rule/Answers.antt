use Rattle.std.proofs.Common.{◌<◌, length, sym, ap, subst}
use Rattle.group_model.specs.declared.entries.Answer.TheVariants.{RuleNumber}
use Rattle.group_model.specs.declared.entries.Asked.TheVariants.{AddRule}
use Rattle.server_steps.specs.Serves.{Serves}
use Rattle.server_steps.specs.Views.{View, server_of}
use Rattle.group_server.proofs.AcceptLemmas.{no_rule, rule_added}
use Rattle.group_server.proofs.SoundLemmas.{answered_rule}
use Rattle.group_server.proofs.servers.GroupServer.add_rule.Goals as goal

pub add-requires : goal.add-requires
add-requires g c = subst (λ (view : View g.row.D.Denot g.row.G.Denot g.row.R.Denot). length view.rules < 4294967295) (sym c.self.view_is) c.requires

pub returns : goal.returns
returns g c =
    let rule = c.args.rule in
    let old = server_of c.self.inside.core c.self.inside.rules c.self.inside.sessions in
    let new = server_of c.self.inside.core c.add.new.self c.self.inside.sessions in
    subst (λ (view : View g.row.D.Denot g.row.G.Denot g.row.R.Denot). Serves g.D.Disk g.G.Signer g.R.Draws (AddRule rule) (RuleNumber c.in_ok-add.field-0) view new) c.self.view_is
    (rule_added g.D.Disk g.G.Signer g.R.Draws old rule c.in_ok-add.field-0 new c.in_ok-add.ensures.number
    (ap (λ rules. server_of c.self.inside.core rules c.self.inside.sessions) c.in_ok-add.ensures.ok))

pub returns-in_err-add : goal.returns-in_err-add
returns-in_err-add g c =
    let rule = c.args.rule in
    let old = server_of c.self.inside.core c.self.inside.rules c.self.inside.sessions in
    let new = server_of c.self.inside.core c.add.new.self c.self.inside.sessions in
    answered_rule (λ answer. Serves g.D.Disk g.G.Signer g.R.Draws (AddRule rule) answer c.args.self.now new) _ c.from_residual.ensures.1
    (subst (λ (view : View g.row.D.Denot g.row.G.Denot g.row.R.Denot). Serves g.D.Disk g.G.Signer g.R.Draws (AddRule rule) _ view new) c.self.view_is
    (no_rule g.D.Disk g.G.Signer g.R.Draws old rule new (ap (λ rules. server_of c.self.inside.core rules c.self.inside.sessions) c.in_err-add.ensures.err)))
