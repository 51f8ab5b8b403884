use Rattle.journal_gates.proofs.AnswerLemmas.{at_err, at_ok}
use Rattle.journal_gates.proofs.CallLemmas.{one_call}
use Rattle.tree_journal.proofs.reads.read_front.Goals as goal

pub returns-clause-reads : goal.returns-clause-reads
returns-clause-reads g c = record {
  reports = record {
    cause = at_err c.read.result c.read.ensures.cause;
    no_fault = at_ok c.read.result c.read.ensures.no_fault;
    keeps = record { honest = c.read.ensures.honest; exposed = c.read.ensures.exposed; counted = c.read.ensures.counted };
  };
  same = c.read.ensures.image;
  any_moment = λ file is.
      one_call g.D.Disk c.args.disk.now c.read.new.self (g.D.Disk.may_leave c.args.disk.now) (g.met.D.Disk.only_now c.args.disk.now) (λ k now. now)
      c.read.ensures.time (λ k now. (c.read.ensures.crash file is k).0 now);
}
