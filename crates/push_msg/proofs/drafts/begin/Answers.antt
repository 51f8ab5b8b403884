use Rattle.std.proofs.Common.{◌≡◌, ◌∙◌, ◌+◌, ◌++◌, [], ◌∷◌, List, ℕ, ap, sym}
use Rattle.gd_wire.specs.Bodies.{sequence_text}
use Rattle.gd_wire.specs.Headers.{header_text}
use Rattle.gd_wire.specs.Payloads.{payload_head}
use Rattle.sa_wire.specs.Texts.{sa_size, sa_text}
use Rattle.push_msg.proofs.DraftLemmas.{push_begun}
use Rattle.push_msg.proofs.drafts.begin.Goals as goal

pub returns : goal.returns
returns c push begun =
    push_begun c.args.head.now c.args.policy.now c.args.keys c.args.size push c.write_payload_head-3.new.out
    c.a_payload_is_its_head_and_its_body.ensures c.written_policies_have_their_size.ensures begun
    (c.in_ok-write_payload_head-3.ensures.ok
    ∙ ap (λ octets. octets ++ payload_head 9 c.args.keys) (c.in_ok-write_sa.ensures.ok
    ∙ ap (λ octets. octets ++ sa_text c.args.policy.now) (c.in_ok-write_payload_head-2.ensures.ok
    ∙ (λ i. c.write_sequence.new.out ++ payload_head 17 (c.sa_size.ensures i))
    ∙ ap (λ octets. octets ++ payload_head 17 (sa_size c.args.policy.now)) (c.in_ok-write_sequence.ensures.ok
    ∙ ap (λ octets. octets ++ sequence_text c.args.head.now.sequence) (c.in_ok-write_payload_head.ensures.ok
    ∙ ap (λ octets. octets ++ payload_head 1 4) (c.in_ok-extend.ensures.ok
    ∙ (λ i. c.in_ok-out.ensures i ++ c.write_header.ensures i)
    ∙ ap (λ (spi : List ℕ). [] ++ header_text (record { cookies = spi; next = 18; exchange = 33; message = 0 ∷ 0 ∷ 0 ∷ 0 ∷ []; length = 28 + c.args.size })) (sym begun.spi)))))))
