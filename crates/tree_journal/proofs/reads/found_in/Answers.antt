use Rattle.std.proofs.Common.{◌∙◌, ◌+◌, ◌≤◌, ℕ, List, length, take, drop, Some, ap, sym, arith}
use Rattle.journal_gates.specs.Heads.{head_in}
use Rattle.tree_journal.specs.Records.{IsRecordAt}
use Rattle.tree_journal.proofs.HeadLemmas.{found_cut, found_nothing, found_record, found_whole, on_error, seen_body, seen_cut, seen_end, seen_few, seen_head, seen_long, seen_there}
use Rattle.tree_journal.proofs.reads.found_in.Goals as goal

pub returns-in-Shut-clause-seen : goal.returns-in-Shut-clause-seen
returns-in-Shut-clause-seen c file at n is = seen_end file c.args.octets.now at n is c.min.result (sym c.in-Shut.is ∙ c.head_in.ensures.head)

pub returns-in-Shut-clause-found : goal.returns-in-Shut-clause-found
returns-in-Shut-clause-found c file at is = seen_end file c.args.octets.now at 65541 is c.min.result (sym c.in-Shut.is ∙ c.head_in.ensures.head)

pub returns-in-Broken-clause-found : goal.returns-in-Broken-clause-found
returns-in-Broken-clause-found c file at is =
    found_nothing file at c.head_in.result
    (c.head_in.ensures.head ∙ ap head_in (seen_head file c.args.octets.now at 65541 is (omega arith) c.min.result c.min.ensures)) c.in-Broken.is

pub returns-then-octets-size-clause-found : goal.returns-then-octets-size-clause-found
returns-then-octets-size-clause-found c file at is =
    let octets = c.args.octets.now in
    let size = c.in-Open.size in
    let short : size ≤ 65536 = c.head_in.ensures.short size c.in-Open.is in
    found_cut file at c.head_in.result (c.head_in.ensures.head ∙ ap head_in (seen_head file octets at 65541 is (omega arith) c.min.result c.min.ensures))
    size c.in-Open.is (seen_cut file octets at 65541 is size (omega (arith, short)) (seen_long file octets at 65541 is c.min.result size (sym c.in-Open.is ∙ c.head_in.ensures.head)) (omega (arith, c.if-octets-size.true)))

pub returns-in_err-replace-clause-memory : goal.returns-in_err-replace-clause-memory
returns-in_err-replace-clause-memory c file at n is =
    let octets = c.args.octets.now in
    let size = c.in-Open.size in
    let whole : 5 + size ≤ length octets = omega (arith, c.if-octets-size.false) in
    let five : 5 ≤ n = omega (arith, whole, seen_few file octets at n is) in
    on_error c.from_residual.result ((body : List ℕ) × IsRecordAt file at body) (
      take size (drop (at + 5) file),
      found_whole file at c.head_in.result (c.head_in.ensures.head ∙ ap head_in (seen_head file octets at n is five c.min.result c.min.ensures))
          size c.in-Open.is (seen_there file octets at n is size whole),
    )

pub returns-clause-seen : goal.returns-clause-seen
returns-clause-seen c file at n is =
    let octets = c.args.octets.now in
    let size = c.in-Open.size in
    let whole : 5 + size ≤ length octets = omega (arith, c.if-octets-size.false) in
    let five : 5 ≤ n = omega (arith, whole, seen_few file octets at n is) in
    found_record file at c.head_in.result (c.head_in.ensures.head ∙ ap head_in (seen_head file octets at n is five c.min.result c.min.ensures))
    size c.replace.new.text c.in-Open.is (ap Some c.in_ok-replace.ensures.ok ∙ seen_body file octets at n is size whole)

pub returns-clause-found : goal.returns-clause-found
returns-clause-found c file at is =
    let octets = c.args.octets.now in
    let size = c.in-Open.size in
    let whole : 5 + size ≤ length octets = omega (arith, c.if-octets-size.false) in
    found_record file at c.head_in.result (c.head_in.ensures.head ∙ ap head_in (seen_head file octets at 65541 is (omega arith) c.min.result c.min.ensures))
    size c.replace.new.text c.in-Open.is (ap Some c.in_ok-replace.ensures.ok ∙ seen_body file octets at 65541 is size whole)
