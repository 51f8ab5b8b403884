use Rattle.group_run.proofs.WayLemmas.{left_other, on_any, on_ok, served_same}
use Rattle.group_run.proofs.lefts.add_left.Goals as goal

pub returns-in_default : goal.returns-in_default
returns-in_default c = record {
  lefts = on_ok c.add_all-in_default.result c.add_all-in_default.ensures
      (λ before entries later there served are. left_other c.args.members.now.all entries c.args.entry.now later c.args.place there c.args.lefts.now c.add_all-in_default.new.lefts
      are c.in_default.not-Serve before);
  served = on_any c.add_all-in_default.result
      (λ later served. served_same c.args.entry.now later c.args.served.now.keys served c.in_default.not-Serve);
}
