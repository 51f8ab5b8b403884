use Rattle.std.proofs.Common.{subst, sym, ◌+◌, ◌≤◌}
use Rattle.group_terms.specs.declared.pushes.PushRefusal.TheVariants.{Stale}
use Rattle.member_store.specs.Steps.{IsRefused}
use Rattle.law_member_roots.proofs.DueLemmas.{reads_own}
use Rattle.law_member_roots.proofs.laws.a_repeated_push_is_stale.Goals as goal

pub returns-clause-membership : goal.returns-clause-membership
returns-clause-membership g c signer verifier depth epoch spi list m pair store next result group checks at is low step =
    let ways = c.each_law_holds.ensures in
    let gives = c.a_sent_push_is_read.ensures.membership signer verifier depth epoch spi list pair group checks at in
    subst (λ n. IsRefused store (Stale store.sequence n) result next) gives.is_read.number_is
    (c.each_cause_has_its_refusal.ensures.stale verifier store next pair.membership gives.is_read.read result step
    (reads_own ways g.V.Verifier verifier depth epoch spi list m store is pair.first pair.membership gives.is_read) gives.is_read.signed
    (subst (λ n. n ≤ store.sequence) (sym gives.is_read.number_is) low))

pub returns-clause-traffic : goal.returns-clause-traffic
returns-clause-traffic g c signer verifier depth epoch spi list m pair store next result group checks at is low step =
    let ways = c.each_law_holds.ensures in
    let gives = c.a_sent_push_is_read.ensures.traffic signer verifier depth epoch spi list pair group checks at in
    subst (λ n. IsRefused store (Stale store.sequence n) result next) gives.is_read.number_is
    (c.each_cause_has_its_refusal.ensures.stale verifier store next pair.traffic gives.is_read.read result step
    (reads_own ways g.V.Verifier verifier depth epoch spi list m store is (pair.first + 1) pair.traffic gives.is_read) gives.is_read.signed
    (subst (λ n. n ≤ store.sequence) (sym gives.is_read.number_is) low))
