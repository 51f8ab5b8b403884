use Rattle.std.proofs.Common.{refl}
use Rattle.group_peers.specs.declared.members.Peer.{Peer}
use Rattle.group_run.proofs.LendLemmas.{for_nobody}
use Rattle.group_run.proofs.lending.take_back_one.Goals as goal

pub returns-in_default : goal.returns-in_default
returns-in_default c =
    let line = c.args.line.now in
    record {
      all = for_nobody line.asked c.in_default.not-Join c.in_default.not-Again
          (λ (peer : Peer). record peer { pull = line.pull; sent = line.sent; loses = line.lose }) c.args.members.now.all;
      place = refl;
      seen = refl;
    }
