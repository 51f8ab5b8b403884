use Rattle.std.proofs.Common.{◌-◌, ◌^◌, ◌<◌, ◌≤◌, subst, sym, ap, ◌∙◌, arith}
use Rattle.rsa_sign.specs.Keys.{PublicKey, octet_count}
use Rattle.rsa_sign.proofs.verifiers.RsaVerifier.size.Goals as goal

pub returns-clause-is : goal.returns-clause-is
returns-clause-is c = c.self.invariant.1 ∙ ap (λ (key : PublicKey). octet_count key.bits) c.self.view_is

pub returns-clause-long : goal.returns-clause-long
returns-clause-long c = omega (arith, c.self.invariant.1, c.self.invariant.0.fewest)

pub returns-clause-few : goal.returns-clause-few
returns-clause-few c = omega (arith, c.self.invariant.1, c.self.invariant.0.most)

pub returns-clause-least : goal.returns-clause-least
returns-clause-least c =
    let least : 256 ^ (c.self.inside.size - 1) ≤ c.self.inside.modulus =
    subst (λ n. 256 ^ (n - 1) ≤ c.self.inside.modulus) (sym c.self.invariant.1) c.self.invariant.0.least in
    subst (λ (key : PublicKey). 256 ^ (c.self.inside.size - 1) ≤ key.modulus) c.self.view_is least

pub returns-clause-room : goal.returns-clause-room
returns-clause-room c =
    let room : c.self.inside.modulus < 256 ^ c.self.inside.size =
    subst (λ n. c.self.inside.modulus < 256 ^ n) (sym c.self.invariant.1) c.self.invariant.0.room in
    subst (λ (key : PublicKey). key.modulus < 256 ^ c.self.inside.size) c.self.view_is room
