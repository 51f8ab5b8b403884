use Rattle.std.proofs.Common.{◌∙◌, ◌++◌, ap, length, replicate}
use Rattle.gd_wire.specs.Chains.{payload_text}
use Rattle.pull_msgs.proofs.DraftLemmas.{before_long}
use Rattle.pull_msgs.proofs.drafts.begin.Goals as goal

pub returns-clause-long : goal.returns-clause-long
returns-clause-long c =
    ap length (c.in_ok-write_payload.ensures.ok
    ∙ ap (λ octets. octets ++ payload_text c.args.next (replicate 32 0))
    (c.in_ok-extend.ensures.ok ∙ (λ i. c.in_ok-out.ensures i ++ c.write_header.ensures i)))
    ∙ before_long c.args.phase.now c.args.message.now c.args.next c.args.size c.prove_phase_fits.ensures.cookies c.told-message
