use Rattle.std.proofs.Common.{take, ap, ◌∙◌}
use Rattle.std.proofs.Common.{◌%◌, ◌^◌}
use Rattle.std.specs.Str.{bytes_eq}
use Rattle.big_mod.specs.Numbers.{number_of, octets_of}
use Rattle.rsa_sign.proofs.verifiers.is_power.Goals as goal

pub returns : goal.returns
returns c =
    c.are_same.ensures ∙ ap (λ octets. bytes_eq octets (take c.args.size c.message-message.result)) c.powered-found.ensures ∙
    ap (bytes_eq (octets_of c.args.size (number_of c.args.signature.now ^ c.args.exponent % c.args.modulus.now))) c.message-message.ensures.is
