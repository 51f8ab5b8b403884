use Rattle.std.proofs.Common.{subst, sym, ◌<◌}
use Rattle.law_member_roots.proofs.DueLemmas.{left, reads_own}
use Rattle.law_member_roots.proofs.laws.a_member_that_left_finds_no_path.Goals as goal

pub returns : goal.returns
returns g c signer verifier depth epoch spi list m pair store next result group checks at is gone greater step =
    let ways = c.each_law_holds.ensures in
    let gives = c.a_sent_push_is_read.ensures.membership signer verifier depth epoch spi list pair group checks at in
    let takes = c.each_cause_has_its_refusal.ensures.taken verifier store next pair.membership gives.is_read.read result step
    (reads_own ways g.V.Verifier verifier depth epoch spi list m store is pair.first pair.membership gives.is_read) gives.is_read.signed
    (subst (λ n. store.sequence < n) (sym gives.is_read.number_is) greater) in
    left ways g.V.Verifier verifier depth epoch spi list m store is next result pair.first pair.membership gives takes gone
