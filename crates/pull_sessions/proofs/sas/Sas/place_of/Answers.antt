use Rattle.std.proofs.Common.{◌∙◌, ap}
use Rattle.std.specs.List.{position}
use Rattle.std.specs.Str.{bytes_eq}
use Rattle.pull_sessions.specs.declared.sas.Sa.{Sa}
use Rattle.pull_sessions.specs.Sessions.{is_of}
use Rattle.pull_sessions.proofs.IndexLemmas.{position_keyed}
use Rattle.pull_sessions.proofs.sas.Sas.place_of.Goals as goal

pub returns : goal.returns
returns c =
    c.get_index_of.ensures.index ∙ ap (position (bytes_eq c.args.member.now)) c.self.invariant.2
    ∙ position_keyed (λ (sa : Sa). sa.phase.member) c.args.member.now c.self.inside.list.items
    ∙ ap (position (is_of c.args.member.now)) c.self.view_is
