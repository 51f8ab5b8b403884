use Rattle.std.proofs.Common.{subst, sym, ◌+◌, ◌<◌, arith}
use Rattle.member_store.specs.Stores.{root_epoch}
use Rattle.law_member_roots.proofs.DueLemmas.{membership_taken, reads_own, traffic_taken}
use Rattle.law_member_roots.proofs.SentLemmas.{number_less, up}
use Rattle.law_member_roots.proofs.laws.a_due_push_is_taken.Goals as goal

pub returns-clause-membership : goal.returns-clause-membership
returns-clause-membership g c signer verifier depth epoch spi list m pair store next result group checks at is member greater step =
    let ways = c.each_law_holds.ensures in
    let gives = c.a_sent_push_is_read.ensures.membership signer verifier depth epoch spi list pair group checks at in
    let takes = c.each_cause_has_its_refusal.ensures.taken verifier store next pair.membership gives.is_read.read result step
    (reads_own ways g.V.Verifier verifier depth epoch spi list m store is pair.first pair.membership gives.is_read) gives.is_read.signed
    (subst (λ n. store.sequence < n) (sym gives.is_read.number_is) greater) in
    membership_taken ways g.V.Verifier verifier depth epoch spi list m store is next result pair.first pair.membership gives takes group.some group.valid at.early
    member

pub returns-clause-traffic : goal.returns-clause-traffic
returns-clause-traffic g c signer verifier depth epoch spi list m pair store next result group checks at is greater step =
    let ways = c.each_law_holds.ensures in
    let gives = c.a_sent_push_is_read.ensures.traffic signer verifier depth epoch spi list pair group checks at in
    let takes = c.each_cause_has_its_refusal.ensures.taken verifier store next pair.traffic gives.is_read.read result step
    (reads_own ways g.V.Verifier verifier depth epoch spi list m store is (pair.first + 1) pair.traffic gives.is_read) gives.is_read.signed
    (subst (λ n. store.sequence < n) (sym gives.is_read.number_is) greater) in
    traffic_taken ways g.V.Verifier verifier depth epoch spi list m store is next result (pair.first + 1) pair.traffic gives takes

pub returns-clause-goes_on : goal.returns-clause-goes_on
returns-clause-goes_on g c signer verifier depth spi list m pair store next result group checks at is member step =
    let ways = c.each_law_holds.ensures in
    let less = number_less ways depth spi list m c.first_epochs_stay.ensures.holders g.G.Signer signer pair store next is at in
    let taken = returns-clause-membership g c signer verifier depth (root_epoch store) spi list m pair store next result group checks at is.root member
    (omega (arith, less)) step in
    (taken.0, up ways depth spi list m c.first_epochs_stay.ensures.holders g.G.Signer signer pair store next is at taken.1 taken.2 taken.3 taken.4)
