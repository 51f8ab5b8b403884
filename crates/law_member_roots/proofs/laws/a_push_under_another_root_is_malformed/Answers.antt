use Rattle.std.proofs.Common.{subst, sym}
use Rattle.push_msg.specs.Pushes.{Reads}
use Rattle.member_store.specs.Steps.{kek_of}
use Rattle.law_member_roots.proofs.AtRootLemmas.{kek_is}
use Rattle.law_member_roots.proofs.DueLemmas.{malformed, own_header}
use Rattle.law_member_roots.proofs.laws.a_push_under_another_root_is_malformed.Goals as goal

pub returns-clause-membership : goal.returns-clause-membership
returns-clause-membership g c signer verifier depth epoch sent spi list m pair store next result group at for_one is other step =
    let ways = c.each_law_holds.ensures in
    let own = c.a_sent_push_is_read.ensures.membership_header signer depth sent spi list pair group at in
    malformed ways g.V.Verifier verifier depth epoch spi list m store is next result pair.membership step.opening step.is_opening
    (λ read reads. for_one epoch (kek_of store) read (λ same. other (sym same)) (kek_is ways depth epoch spi list m store is)
    (subst (λ spi. Reads pair.membership spi (kek_of store) (g.V.Verifier.kind_of verifier) read) is.spi reads))
    (own_header ways g.V.Verifier verifier depth epoch spi list m store is next result pair.membership own) step.after

pub returns-clause-traffic : goal.returns-clause-traffic
returns-clause-traffic g c signer verifier depth epoch sent spi list m pair store next result group at for_one is other step =
    let ways = c.each_law_holds.ensures in
    let own = c.a_sent_push_is_read.ensures.traffic_header signer depth sent spi list pair group at in
    malformed ways g.V.Verifier verifier depth epoch spi list m store is next result pair.traffic step.opening step.is_opening
    (λ read reads. for_one epoch (kek_of store) read (λ same. other (sym same)) (kek_is ways depth epoch spi list m store is)
    (subst (λ spi. Reads pair.traffic spi (kek_of store) (g.V.Verifier.kind_of verifier) read) is.spi reads))
    (own_header ways g.V.Verifier verifier depth epoch spi list m store is next result pair.traffic own) step.after
