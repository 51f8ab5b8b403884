use Rattle.std.proofs.Common.{◌∙◌, sym, subst, nat_eq}
use Rattle.std.specs.Cmp.Lexicographic.{same_text}
use lib.Pointwise.{pointwise}
use Rattle.gd_cipher.specs.Chains.{IsOpened}
use Rattle.push_msg.proofs.TextLemmas.{both_hold, opened_alike}
use Rattle.push_msg.proofs.texts.OpenText.is_of.Goals as goal

pub returns-then-eq : goal.returns-then-eq
returns-then-eq c same =
    let kept = c.self.inside in
    let kek = c.args.kek.now in
    let parts = both_hold (pointwise nat_eq kept.kek.iv kek.iv) (pointwise nat_eq kept.kek.key kek.key) c.if-eq.ensures in
    let octets = sym c.text.ensures ∙ same_text c.text.result.now c.args.sealed.now (sym same ∙ c.eq-then-eq.ensures) in
    subst (IsOpened kek.key kek.iv c.args.sealed.now) c.self.view_is
    (opened_alike kept.kek.key kept.kek.iv kept.sealed.octets kek.key kek.iv c.args.sealed.now kept.octets.octets
    (same_text kept.kek.key kek.key parts.1) (same_text kept.kek.iv kek.iv parts.0) octets c.self.invariant.2)
