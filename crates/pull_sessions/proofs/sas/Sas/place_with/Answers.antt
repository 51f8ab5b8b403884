use Rattle.std.proofs.Common.{◌∙◌, ap}
use Rattle.std.specs.List.{position}
use Rattle.std.specs.Str.{bytes_eq}
use Rattle.pull_sessions.specs.declared.sas.Sa.{Sa}
use Rattle.pull_sessions.specs.Sessions.{has_cookies}
use Rattle.pull_sessions.proofs.IndexLemmas.{position_keyed}
use Rattle.pull_sessions.proofs.sas.Sas.place_with.Goals as goal

pub returns : goal.returns
returns c =
    c.get_index_of.ensures.index ∙ ap (position (bytes_eq c.args.cookies.now)) c.self.invariant.1
    ∙ position_keyed (λ (sa : Sa). sa.phase.cookies) c.args.cookies.now c.self.inside.list.items
    ∙ ap (position (has_cookies c.args.cookies.now)) c.self.view_is
