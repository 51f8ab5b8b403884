use Rattle.std.proofs.Common.{refl}
use Rattle.group_peers.specs.Lent.{after_lending}
use Rattle.member_steps.specs.Views.{members_with}
use Rattle.group_run.proofs.LendLemmas.{for_nobody, nothing_handed, nothing_ready}
use Rattle.group_run.proofs.lending.line_of.Goals as goal

pub returns-in_default : goal.returns-in_default
returns-in_default c =
    let members = c.args.members.now in
    let ask = c.args.ask.now in
    let line = c.with_lent.result in
    record {
      handed = λ mail. nothing_handed (members_with members mail) ask line c.in_default.not-Join c.in_default.not-Again c.with_lent.ensures;
      ready = nothing_ready ask line c.in_default.not-Join c.in_default.not-Again c.with_lent.ensures;
      all = for_nobody ask c.in_default.not-Join c.in_default.not-Again after_lending members.all;
      place = refl;
    }
