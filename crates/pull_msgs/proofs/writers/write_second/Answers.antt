use Rattle.std.proofs.Common.{◌∙◌, ◌++◌, [], refl, sym, ap, length, arith}
use Rattle.std.proofs.lemmas.List.{append-nil}
use Rattle.gd_wire.specs.Chains.{payload_text}
use Rattle.sa_wire.specs.Texts.{sa_text}
use Rattle.pull_msgs.specs.Texts.{second_message}
use Rattle.pull_msgs.proofs.DraftLemmas.{two_drafted}
use Rattle.pull_msgs.proofs.writers.write_second.Goals as goal

pub returns : goal.returns
returns c =
    let ni = c.args.ni.now in
    let nr = c.args.nr.now in
    let policy = c.args.policy.now in
    let sized = c.written_policies_have_their_size.ensures policy c.prove_policies_fit.ensures.fits in
    c.in_ok-finish.ensures (second_message c.args.message.now ni nr policy) refl
    (sym (append-nil ni) ∙ ap (λ octets. octets ++ []) (sym c.octets-3.ensures.octets))
    (two_drafted c.args.phase.now c.args.message.now ni 10 1 _ _ nr (sa_text policy) c.in_ok-out.out c.write_payload.new.out c.write_payload_head.new.out
    c.write_sa.new.out c.a_payload_is_its_head_and_its_body.ensures (c.sa_size-2.ensures ∙ sym sized)
    (omega (arith, ap length c.octets.ensures.octets, c.sa_size.ensures, sized)) c.in_ok-out.ensures.text
    (c.in_ok-write_payload.ensures.ok ∙ ap (λ octets. c.in_ok-out.out ++ payload_text 1 octets) c.octets-2.ensures.octets)
    c.in_ok-write_payload_head.ensures.ok c.in_ok-write_sa.ensures.ok)
