use Rattle.std.proofs.Common.{◌∙◌, length, drop, sym, ap, arith}
use Rattle.pull_msgs.specs.Hashes.{hash_of}
use Rattle.pull_msgs.proofs.DraftLemmas.{message_written}
use Rattle.pull_msgs.proofs.drafts.finish.Goals as goal

pub returns : goal.returns
returns c said message nonces draft =
    message_written c.args.phase.now c.args.iv.now said c.args.out c.hash_of-hash.result c.put_hash.new.out c.write_padding.new.out c.seal.ensures.0 c.seal.new.out
    c.prove_phase_fits.ensures.cookies (ap length message ∙ c.told-message) (omega arith) draft
    (c.hash_of-hash.ensures
    ∙ (λ i. hash_of c.args.phase.now (sym message i) (sym nonces i) ((c.split_at.ensures.back ∙ ap (drop 64) c.as_slice.ensures) i)))
    c.put_hash.ensures c.in_ok-write_padding.ensures.ok c.seal.ensures.1 c.seal.ensures.2
