use Rattle.std.proofs.Common.{◌∙◌, ◌++◌, ◌-◌, ◌%◌, List, ℕ, length, take, drop, replicate, length-append, ap, ap₂, subst, arith}
use Rattle.std.proofs.lemmas.List.{length-replicate}
use Rattle.gd_wire.specs.Chains.{payload_text}
use Rattle.group_terms.specs.Octets.{AreOctets}
use Rattle.push_msg.specs.Digests.{digest}
use Rattle.push_msg.proofs.DraftLemmas.{push_written}
use Rattle.push_msg.proofs.drafts.finish.Goals as goal

pub seal-requires-clause-long : goal.seal-requires-clause-long
seal-requires-clause-long g c =
    let zeros : List ℕ = replicate ((16 - (length c.append_signature.new.out - 28) % 16) % 16) 0 in
    omega (arith, c.requires, ap length c.in_ok-append_signature.ensures.ok, length-append c.args.out (payload_text 0 c.as_slice-2.result.now), ap length c.in_ok-write_padding.ensures.ok, length-append c.append_signature.new.out zeros)

pub seal-requires-clause-whole : goal.seal-requires-clause-whole
seal-requires-clause-whole g c =
    let many = (16 - (length c.append_signature.new.out - 28) % 16) % 16 in
    omega (
      arith,
      c.requires,
      ap length c.in_ok-append_signature.ensures.ok,
      length-append c.args.out (payload_text 0 c.as_slice-2.result.now),
      ap length c.in_ok-write_padding.ensures.ok,
      length-append c.append_signature.new.out (replicate many 0),
      length-replicate {A = ℕ} many 0,
    )

pub returns : goal.returns
returns g c push size begun long sized =
    push_written (g.G.Signer.signature c.args.signer.now) (g.G.Signer.size_of c.args.signer.now) c.args.kek.now push size c.args.out c.append_signature.new.out c.write_padding.new.out c.seal.ensures.0 c.seal.new.out
    c.sign-signature.result (omega arith) (omega arith) c.sign-signature.ensures.size (subst AreOctets c.as_slice-2.ensures.octets c.append_signature.ensures.octets)
    long begun
    (c.sign-signature.ensures.octets ∙ ap (g.G.Signer.signature c.args.signer.now) (c.digest.ensures ∙ ap₂ digest (c.split_at.ensures.front ∙ ap (take 28) c.as_slice.ensures) (c.split_at.ensures.back ∙ ap (drop 28) c.as_slice.ensures)))
    (sized c.sign-signature.result c.sign-signature.ensures.size)
    (c.in_ok-append_signature.ensures.ok ∙ ap (λ octets. c.args.out ++ payload_text 0 octets) c.as_slice-2.ensures.octets)
    c.in_ok-write_padding.ensures.ok c.seal.ensures.1 c.seal.ensures.2
