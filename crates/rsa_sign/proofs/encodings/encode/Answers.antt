use Rattle.std.proofs.Common.{length, ◌∙◌}
use Rattle.rsa_sign.proofs.MessageLemmas.{encoded_at}
use Rattle.rsa_sign.proofs.encodings.encode.Goals as goal

pub returns : goal.returns
returns c =
    encoded_at (length c.args.out.now) c.args.digest.now c.copy_from_slice.new.self c.fill.new.self c.requires (c.fill.ensures.after (λ y h. cc))
    (c.copy_from_slice.ensures.after ∙ c.last_octets.ensures.is)
