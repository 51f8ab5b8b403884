use Rattle.std.proofs.Common.{◌∙◌, List, [], IsSome, refl, sym, ap, subst}
use Rattle.group_peers.specs.declared.members.Peer.{Peer}
use Rattle.member_steps.specs.Acts.{BeginsPull}
use Rattle.member_steps.specs.Members.{Members}
use Rattle.group_run.specs.Mails.{mail_since}
use Rattle.group_run.specs.Private.Kept.{members_at}
use Rattle.group_run.specs.Private.Places.{KeepsSent}
use Rattle.group_run.specs.Views.{View}
use Rattle.group_run.proofs.BeginLemmas.{begun_keeps, reaches_pull, reaches_unpulled}
use Rattle.group_run.proofs.KeptLemmas.{kept_peers}
use Rattle.group_run.proofs.MemberLemmas.{has_begun, keeps_same}
use Rattle.group_run.proofs.runs.GroupRun.begin_pull.Goals as goal

pub returns-then-not-was_introduced-clause-ok : goal.returns-then-not-was_introduced-clause-ok
returns-then-not-was_introduced-clause-ok g c = λ keys blocks group.
    reaches_unpulled g.D.Disk g.G.Signer g.R.Draws keys c.args.member.now (sym c.was_introduced.ensures ∙ c.if-not-was_introduced.true)

pub invariant_of-self-2 : goal.invariant_of-self-2
invariant_of-self-2 g c =
    kept_peers g.D.Disk g.R.Draws (keeps_same (has_begun (c.in_ok-begin_pull.ensures.begins [])).same) c.self.invariant

pub returns-clause-ok : goal.returns-clause-ok
returns-clause-ok g c = λ keys blocks group.
    let run = c.self.inside in
    let begun = c.begin_pull.new.self in
    let mail = mail_since run.entries.items run.unread.place run.unread.taken in
    reaches_pull g.D.Disk g.G.Signer g.R.Draws keys c.args.member.now
    (sym c.was_introduced.ensures ∙ c.if-not-was_introduced.false)
    (ap (λ (held : View g.row.D.Denot g.row.G.Denot g.row.R.Denot). held.server) c.self.view_is)
    (ap (λ (held : View g.row.D.Denot g.row.G.Denot g.row.R.Denot). held.entries) c.self.view_is)
    (subst (λ (members : Members). BeginsPull keys.members_block keys.group c.args.member.now members (members_at begun run.entries.items run.unread))
    (ap (λ (held : View g.row.D.Denot g.row.G.Denot g.row.R.Denot). held.members) c.self.view_is)
    (subst (λ block. BeginsPull block keys.group c.args.member.now (members_at run.members run.entries.items run.unread)
    (members_at begun run.entries.items run.unread)) (sym blocks)
    (subst (λ name. BeginsPull (g.P.Draws.block_at c.args.draws.now) name c.args.member.now (members_at run.members run.entries.items run.unread)
    (members_at begun run.entries.items run.unread)) (sym group) (c.in_ok-begin_pull.ensures.begins mail))))

pub returns-clause-sent : goal.returns-clause-sent
returns-clause-sent g c = λ handed. subst IsSome (sym (has_begun (c.in_ok-begin_pull.ensures.begins [])).sent) refl

pub returns-clause-keeps : goal.returns-clause-keeps
returns-clause-keeps g c =
    subst (λ (peers : List Peer). KeepsSent peers c.begin_pull.new.self.all)
    (ap (λ (held : View g.row.D.Denot g.row.G.Denot g.row.R.Denot). held.members.all) c.self.view_is)
    (begun_keeps (c.in_ok-begin_pull.ensures.begins []))
