use Rattle.std.proofs.Common.{◌∙◌, refl, Err, ◌++◌, sym, ap, ap₂}
use Rattle.gd_wire.specs.Readings.{from_start, value_of}
use Rattle.pull_msgs.specs.declared.faults.PullFault.TheVariants.{Malformed}
use Rattle.pull_msgs.specs.Private.Seen.{seen_fourth}
use Rattle.pull_msgs.specs.Pulls.{fourth_awaited}
use Rattle.pull_msgs.specs.Readings as readings
use Rattle.pull_msgs.proofs.ReaderLemmas.{header_fault, no_memory, payload_fault, other_hash, due_hash}
use Rattle.pull_msgs.proofs.readers.read_fourth.Goals as goal

pub returns-in_err-head : goal.returns-in_err-head
returns-in_err-head c =
    header_fault _ _ c.args.phase.now (fourth_awaited c.args.message.now c.args.iv.now c.args.ni.now c.args.nr.now c.args.spi.now) c.args.datagram.now
    c.in_err-head.field-0.0 c.from_residual.result (sym c.in_err-head.was ∙ c.pull_header.ensures.answer) c.from_residual.ensures.1

pub returns-in_err-text : goal.returns-in_err-text
returns-in_err-text c =
    no_memory _ _ c.args.phase.now (fourth_awaited c.args.message.now c.args.iv.now c.args.ni.now c.args.nr.now c.args.spi.now) c.args.datagram.now
    c.in_ok-head.head c.from_residual-in_err-text.result (sym c.in_ok-head.was ∙ c.pull_header.ensures.answer) c.from_residual-in_err-text.ensures.1

pub returns-in-Err : goal.returns-in-Err
returns-in-Err c =
    payload_fault _ _ c.args.phase.now (fourth_awaited c.args.message.now c.args.iv.now c.args.ni.now c.args.nr.now c.args.spi.now) c.args.datagram.now
    c.in_ok-head.head c.in_ok-text.text (sym c.in_ok-head.was ∙ c.pull_header.ensures.answer) c.in_ok-text.ensures.opened
    c.in-Err.fault (Err (Malformed c.in-Err.fault))
    (ap (λ text. value_of (readings.fourth c.args.spi.now text c.in_ok-head.head.next (from_start 28 text))) (sym c.as_slice.ensures) ∙ ap value_of c.in-Err.ensures)
    refl

pub returns-in_err-due_hash : goal.returns-in_err-due_hash
returns-in_err-due_hash c =
    other_hash _ _ c.args.phase.now (fourth_awaited c.args.message.now c.args.iv.now c.args.ni.now c.args.nr.now c.args.spi.now) c.args.datagram.now
    c.in_ok-head.head c.in_ok-text.text (sym c.in_ok-head.was ∙ c.pull_header.ensures.answer) c.in_ok-text.ensures.opened
    (seen_fourth c.in-Ok.read) _ _ c.due_hash.result
    (ap (λ text. value_of (readings.fourth c.args.spi.now text c.in_ok-head.head.next (from_start 28 text))) (sym c.as_slice.ensures) ∙ c.in-Ok.ensures)
    (ap₂ (λ ni nr. ni ++ nr) c.octets.ensures.octets c.octets-2.ensures.octets) c.hash_of-due.ensures c.due_hash.ensures
    c.in_err-due_hash.field-0.0 c.from_residual-in_err-due_hash.result c.in_err-due_hash.was c.from_residual-in_err-due_hash.ensures.1

pub returns : goal.returns
returns c =
    due_hash _ _ c.args.phase.now (fourth_awaited c.args.message.now c.args.iv.now c.args.ni.now c.args.nr.now c.args.spi.now) c.args.datagram.now
    c.in_ok-head.head c.in_ok-text.text (sym c.in_ok-head.was ∙ c.pull_header.ensures.answer) c.in_ok-text.ensures.opened
    (seen_fourth c.in-Ok.read) _ _ c.due_hash.result
    (ap (λ text. value_of (readings.fourth c.args.spi.now text c.in_ok-head.head.next (from_start 28 text))) (sym c.as_slice.ensures) ∙ c.in-Ok.ensures)
    (ap₂ (λ ni nr. ni ++ nr) c.octets.ensures.octets c.octets-2.ensures.octets) c.hash_of-due.ensures c.due_hash.ensures
    _ c.in_ok-due_hash.was (λ i. record { epoch = c.root_made.ensures i; sequence = c.in-Ok.read.said.sequence; spi = c.in-Ok.read.said.spi; path = c.in-Ok.read.said.path; traffic = c.in-Ok.read.said.traffic })
