use Rattle.std.proofs.Common.{◌∙◌, ap}
use Rattle.std.specs.List.{fold}
use Rattle.group_peers.specs.Peers.{is_peer}
use Rattle.group_run.specs.Private.Lendings.{all_with}
use Rattle.group_run.proofs.LendLemmas.{all_took, named_still}
use Rattle.group_run.proofs.lending.take_back.Goals as goal

pub returns-clause-all : goal.returns-clause-all
returns-clause-all c all once is =
    let lines = c.args.lines.now in
    c.take_back_all.ensures.all ∙ ap (fold all_with c.args.members.now.all) c.as_mut_slice.ensures.value ∙ ap (λ all. fold all_with all lines) is
    ∙ all_took lines all c.requires.apart

pub returns-clause-peers : goal.returns-clause-peers
returns-clause-peers c name =
    let lines = c.args.lines.now in
    ap (λ all. is_peer all name) (c.take_back_all.ensures.all ∙ ap (fold all_with c.args.members.now.all) c.as_mut_slice.ensures.value)
    ∙ named_still lines name c.args.members.now.all
