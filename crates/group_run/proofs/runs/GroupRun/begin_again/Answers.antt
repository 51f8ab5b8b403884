use Rattle.std.proofs.Common.{◌∙◌, sym, ap}
use Rattle.group_peers.specs.Peers.{sent_by}
use Rattle.group_run.specs.Views.{View}
use Rattle.group_run.proofs.BeginLemmas.{reaches_again, reaches_none}
use Rattle.group_run.proofs.MemberLemmas.{none_of, some_of}
use Rattle.group_run.proofs.runs.GroupRun.begin_again.Goals as goal

pub returns-then-is_some-clause-ok : goal.returns-then-is_some-clause-ok
returns-then-is_some-clause-ok g c = λ keys.
    let m = c.args.member.now in
    let some = some_of c.sent.result (sym c.is_some.ensures ∙ c.if-is_some.true) in
    let view = ap (λ (held : View g.row.D.Denot g.row.G.Denot g.row.R.Denot). sent_by held.members.all m) c.self.view_is in
    reaches_again g.D.Disk g.G.Signer g.R.Draws keys m some.0 (sym view ∙ sym c.sent.ensures ∙ some.1)

pub returns-clause-ok : goal.returns-clause-ok
returns-clause-ok g c = λ keys.
    let m = c.args.member.now in
    let view = ap (λ (held : View g.row.D.Denot g.row.G.Denot g.row.R.Denot). sent_by held.members.all m) c.self.view_is in
    reaches_none g.D.Disk g.G.Signer g.R.Draws keys m
    (sym view ∙ sym c.sent.ensures ∙ none_of c.sent.result (sym c.is_some.ensures ∙ c.if-is_some.false))
    c.in_ok-note_nothing.ensures.ok c.in_ok-note_nothing.ensures.members
