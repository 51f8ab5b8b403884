use Rattle.std.proofs.Common.{◌≡◌, ◌+◌, ◌%◌, [], ◌∷◌, ap, ◌∙◌, arith}
use Rattle.script_text.proofs.SoakLemmas.{soak_member-one, soak_member-two}
use Rattle.script_text.proofs.soaks.member_of.Goals as goal

pub returns-then-number-lt10 : goal.returns-then-number-lt10
returns-then-number-lt10 c =
    let n = c.args.number in
    let one : n % 10 ≡ n = omega (arith, c.if-number-lt10.true) in
    c.named.ensures ∙ ap (λ digit. 109 ∷ (48 + digit) ∷ []) one ∙ soak_member-one n c.if-number-lt10.true

pub returns : goal.returns
returns c = c.named-2.ensures ∙ soak_member-two c.args.number c.if-number-lt10.false (omega (arith, c.requires))
