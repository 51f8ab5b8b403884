use Rattle.std.proofs.Common.{refl, sym, subst}
use Rattle.std.proofs.lemmas.Bool.{false≢true}
use Rattle.group_model.specs.Derivations.{IsAtHand}
use Rattle.sym_closure.proofs.DerivationLemmas.{IsDerivation-more, IsDerivation-at}
use Rattle.sym_closure.proofs.derivations.each_is_at_hand.Goals as goal

pub returns-then-not-is_at_hand : goal.returns-then-not-is_at_hand
returns-then-not-is_at_hand c =
    let have = c.args.have.now in
    let pairs = c.args.pairs.now in
    let names = c.args.names.now in
    let place = c.loop-place.place in
    let name = c.index-names-place.result in (
      λ no. absurd (false≢true no),
      λ derivation. c.if-not-is_at_hand.ensures.1 (subst (λ earlier. IsAtHand have pairs earlier name) (sym c.split_at.ensures.front) (IsDerivation-at have pairs names place name c.loop-place-test.true c.index-names-place.is derivation)),
    )

pub loop-place-preserved : goal.loop-place-preserved
loop-place-preserved c =
    let have = c.args.have.now in
    let pairs = c.args.pairs.now in
    let names = c.args.names.now in
    let place = c.loop-place.place in
    let name = c.index-names-place.result in
    IsDerivation-more have pairs names place name c.loop-place-test.true c.index-names-place.is c.loop-place.invariant
    (subst (λ earlier. IsAtHand have pairs earlier name) c.split_at.ensures.front (c.if-not-is_at_hand.ensures.0 refl))
