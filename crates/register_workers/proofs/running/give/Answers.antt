use Rattle.std.proofs.Common.{refl, subst}
use Rattle.member_pull.specs.Pulls.{IsSecond}
use Rattle.register_workers.proofs.GiveLemmas.{left_alone, passed_over}
use Rattle.register_workers.proofs.running.give.Goals as goal

pub returns-in-Ok : goal.returns-in-Ok
returns-in-Ok c = (
  c.in-Ok.third,
  record { pull = c.in-Some.pull; has = c.in-Some.is; after = c.second.new.self; takes = c.in-Ok.ensures; now = refl },
)

pub returns-in-NoMemory : goal.returns-in-NoMemory
returns-in-NoMemory c =
    left_alone c.args.line.now c.in-Some.pull c.second.new.self c.in-Some.is c.args.datagram.now c.in-Err.why
    (subst (λ result. IsSecond c.in-Some.pull c.args.datagram.now result c.second.new.self) c.in-Err.is c.second.ensures)

pub returns-in_default-why : goal.returns-in_default-why
returns-in_default-why c =
    let takes = subst (λ result. IsSecond c.in-Some.pull c.args.datagram.now result c.second.new.self) c.in-Err.is c.second.ensures in (
      passed_over c.args.line.now c.in-Some.pull c.second.new.self c.in-Some.is c.args.datagram.now c.in-Err.why takes c.in_default-why.not-NoMemory,
      left_alone c.args.line.now c.in-Some.pull c.second.new.self c.in-Some.is c.args.datagram.now c.in-Err.why takes,
    )
