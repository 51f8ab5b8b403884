use Rattle.std.proofs.Common.{◌≡◌, ◌∙◌, List, ℕ, take, drop, Ok, Err, ap, sym, arith}
use Rattle.gd_wire.specs.Chains.{body_of}
use Rattle.group_terms.specs.declared.pushes.PushRefusal.TheVariants.{Malformed, BadSignature, Stale}
use Rattle.push_msg.specs.Pushes.{payloads_of, given_by}
use Rattle.push_msg.proofs.OpeningLemmas.{same_head, same_refusal, same_value, same_text, opened_rest}
use Rattle.push_msg.proofs.opening.open_push.Goals as goal

pub returns-in_err-head-clause-malformed : goal.returns-in_err-head-clause-malformed
returns-in_err-head-clause-malformed g c fault has =
    let ok = c.push_header.ensures.ok has.head has.opens.has_header has.opens.for_spi in
    let err = c.in_err-head.was in
    absurd (cc)

pub returns-in_err-head-clause-bad_signature : goal.returns-in_err-head-clause-bad_signature
returns-in_err-head-clause-bad_signature g c read has refused =
    let ok = c.push_header.ensures.ok has.head has.opens.has_header has.opens.for_spi in
    let err = c.in_err-head.was in
    absurd (cc)

pub returns-in_err-head-clause-stale : goal.returns-in_err-head-clause-stale
returns-in_err-head-clause-stale g c read has accepted late =
    let ok = c.push_header.ensures.ok has.head has.opens.has_header has.opens.for_spi in
    let err = c.in_err-head.was in
    absurd (cc)

pub returns-in_err-head-clause-ok : goal.returns-in_err-head-clause-ok
returns-in_err-head-clause-ok g c read has accepted new =
    let ok = c.push_header.ensures.ok has.head has.opens.has_header has.opens.for_spi in
    let err = c.in_err-head.was in
    absurd (cc)

pub returns-in-Ok-clause-opened : goal.returns-in-Ok-clause-opened
returns-in-Ok-clause-opened g c head has_header for_spi = (
  c.open_text.new.self,
  record {
    has_header = has_header;
    for_spi = for_spi;
    opened = opened_rest c.args.kek.now.key c.args.kek.now.iv c.args.datagram.now c.open_text.new.self c.open_text.ensures;
  },
)

pub returns-in-Err-clause-opened : goal.returns-in-Err-clause-opened
returns-in-Err-clause-opened g c head has_header for_spi = (
  c.open_text.new.self,
  record {
    has_header = has_header;
    for_spi = for_spi;
    opened = opened_rest c.args.kek.now.key c.args.kek.now.iv c.args.datagram.now c.open_text.new.self c.open_text.ensures;
  },
)

pub returns-in-Err-clause-malformed : goal.returns-in-Err-clause-malformed
returns-in-Err-clause-malformed g c fault has =
    let kind = g.V.Verifier.kind_of c.args.verifier.now in
    let heads = same_head c.push_header.result c.in_ok-head.head has.head c.in_ok-head.was (c.push_header.ensures.ok has.head has.opens.has_header has.opens.for_spi) in
    let texts = c.text-text.ensures ∙ same_text c.args.kek.now.key c.args.kek.now.iv c.args.datagram.now c.open_text.new.self has.text
    c.a_text_is_opened_in_one_way.ensures c.open_text.ensures has.opens.opened in
    let read_so = (λ i. payloads_of c.args.spi.now kind (heads i).next (texts i)) ∙ has.is in
    ap Err (same_refusal c.examine.result c.in-Err.refusal (Malformed fault.at) c.in-Err.is (c.examine.ensures.malformed fault read_so))

pub returns-in-Ok-clause-malformed : goal.returns-in-Ok-clause-malformed
returns-in-Ok-clause-malformed g c fault has =
    let kind = g.V.Verifier.kind_of c.args.verifier.now in
    let heads = same_head c.push_header.result c.in_ok-head.head has.head c.in_ok-head.was (c.push_header.ensures.ok has.head has.opens.has_header has.opens.for_spi) in
    let texts = c.text-text.ensures ∙ same_text c.args.kek.now.key c.args.kek.now.iv c.args.datagram.now c.open_text.new.self has.text
    c.a_text_is_opened_in_one_way.ensures c.open_text.ensures has.opens.opened in
    let read_so = (λ i. payloads_of c.args.spi.now kind (heads i).next (texts i)) ∙ has.is in
    let answer = c.examine.ensures.malformed fault read_so in
    let found = c.in-Ok.is in
    absurd (cc)

pub returns-in-Err-clause-bad_signature : goal.returns-in-Err-clause-bad_signature
returns-in-Err-clause-bad_signature g c read has refused =
    let kind = g.V.Verifier.kind_of c.args.verifier.now in
    let heads = same_head c.push_header.result c.in_ok-head.head has.head c.in_ok-head.was (c.push_header.ensures.ok has.head has.opens.has_header has.opens.for_spi) in
    let texts = c.text-text.ensures ∙ same_text c.args.kek.now.key c.args.kek.now.iv c.args.datagram.now c.open_text.new.self has.text
    c.a_text_is_opened_in_one_way.ensures c.open_text.ensures has.opens.opened in
    let read_so = (λ i. payloads_of c.args.spi.now kind (heads i).next (texts i)) ∙ has.is in
    ap Err (same_refusal c.examine.result c.in-Err.refusal (BadSignature) c.in-Err.is (c.examine.ensures.bad_signature read read_so refused))

pub returns-in-Ok-clause-bad_signature : goal.returns-in-Ok-clause-bad_signature
returns-in-Ok-clause-bad_signature g c read has refused =
    let kind = g.V.Verifier.kind_of c.args.verifier.now in
    let heads = same_head c.push_header.result c.in_ok-head.head has.head c.in_ok-head.was (c.push_header.ensures.ok has.head has.opens.has_header has.opens.for_spi) in
    let texts = c.text-text.ensures ∙ same_text c.args.kek.now.key c.args.kek.now.iv c.args.datagram.now c.open_text.new.self has.text
    c.a_text_is_opened_in_one_way.ensures c.open_text.ensures has.opens.opened in
    let read_so = (λ i. payloads_of c.args.spi.now kind (heads i).next (texts i)) ∙ has.is in
    let answer = c.examine.ensures.bad_signature read read_so refused in
    let found = c.in-Ok.is in
    absurd (cc)

pub returns-in-Err-clause-stale : goal.returns-in-Err-clause-stale
returns-in-Err-clause-stale g c read has accepted late =
    let kind = g.V.Verifier.kind_of c.args.verifier.now in
    let heads = same_head c.push_header.result c.in_ok-head.head has.head c.in_ok-head.was (c.push_header.ensures.ok has.head has.opens.has_header has.opens.for_spi) in
    let texts = c.text-text.ensures ∙ same_text c.args.kek.now.key c.args.kek.now.iv c.args.datagram.now c.open_text.new.self has.text
    c.a_text_is_opened_in_one_way.ensures c.open_text.ensures has.opens.opened in
    let read_so = (λ i. payloads_of c.args.spi.now kind (heads i).next (texts i)) ∙ has.is in
    ap Err (same_refusal c.examine.result c.in-Err.refusal (Stale c.args.last read.number) c.in-Err.is (c.examine.ensures.stale read read_so accepted late))

pub returns-in-Ok-clause-stale : goal.returns-in-Ok-clause-stale
returns-in-Ok-clause-stale g c read has accepted late =
    let kind = g.V.Verifier.kind_of c.args.verifier.now in
    let heads = same_head c.push_header.result c.in_ok-head.head has.head c.in_ok-head.was (c.push_header.ensures.ok has.head has.opens.has_header has.opens.for_spi) in
    let texts = c.text-text.ensures ∙ same_text c.args.kek.now.key c.args.kek.now.iv c.args.datagram.now c.open_text.new.self has.text
    c.a_text_is_opened_in_one_way.ensures c.open_text.ensures has.opens.opened in
    let read_so = (λ i. payloads_of c.args.spi.now kind (heads i).next (texts i)) ∙ has.is in
    let answer = c.examine.ensures.stale read read_so accepted late in
    let found = c.in-Ok.is in
    absurd (cc)

pub returns-in-Err-clause-ok : goal.returns-in-Err-clause-ok
returns-in-Err-clause-ok g c read has accepted new =
    let kind = g.V.Verifier.kind_of c.args.verifier.now in
    let heads = same_head c.push_header.result c.in_ok-head.head has.head c.in_ok-head.was (c.push_header.ensures.ok has.head has.opens.has_header has.opens.for_spi) in
    let texts = c.text-text.ensures ∙ same_text c.args.kek.now.key c.args.kek.now.iv c.args.datagram.now c.open_text.new.self has.text
    c.a_text_is_opened_in_one_way.ensures c.open_text.ensures has.opens.opened in
    let read_so = (λ i. payloads_of c.args.spi.now kind (heads i).next (texts i)) ∙ has.is in
    let answer = (c.examine.ensures.ok read read_so accepted new).1 in
    let found = c.in-Err.is in
    absurd (cc)

pub returns-in-Ok-clause-ok : goal.returns-in-Ok-clause-ok
returns-in-Ok-clause-ok g c read has accepted new =
    let kind = g.V.Verifier.kind_of c.args.verifier.now in
    let heads = same_head c.push_header.result c.in_ok-head.head has.head c.in_ok-head.was (c.push_header.ensures.ok has.head has.opens.has_header has.opens.for_spi) in
    let texts = c.text-text.ensures ∙ same_text c.args.kek.now.key c.args.kek.now.iv c.args.datagram.now c.open_text.new.self has.text
    c.a_text_is_opened_in_one_way.ensures c.open_text.ensures has.opens.opened in
    let read_so = (λ i. payloads_of c.args.spi.now kind (heads i).next (texts i)) ∙ has.is in
    let answer = c.examine.ensures.ok read read_so accepted new in
    let same = same_value c.examine.result (c.in-Ok.open, c.in-Ok.keys) (given_by read, answer.0) c.in-Ok.is answer.1 in
    (ap (λ found. Ok found.0) same, (λ i. body_of (sym c.text-text.ensures i) (same i).1) ∙ answer.2)
