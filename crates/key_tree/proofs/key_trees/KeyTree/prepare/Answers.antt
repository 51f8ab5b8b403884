use Rattle.std.proofs.Math.Dec.{leb}
use Rattle.std.proofs.Common.{◌≡◌, ◌∙◌, ◌+◌, ◌≤◌, cond, None, length, refl, sym, ap, subst, arith}
use Rattle.std.proofs.Math.Pow.{pow_mono}
use Rattle.std.specs.List.{list_any}
use Rattle.group_model.proofs.QueueLemmas.{member_count-le}
use Rattle.group_model.specs.Indexes.{AreOnce}
use Rattle.group_model.specs.Places.{Fits, Holders, holders_after}
use Rattle.tree_leaves.specs.Unchanged.{unchanged_holders}
use Rattle.key_tree.specs.declared.marks.Marked.{Marked}
use Rattle.key_tree.specs.Present.{Present}
use Rattle.key_tree.specs.Marks.{IsMarkedFor, IsReady, seated}
use Rattle.key_tree.specs.Private.Outcomes.{IsOutcome, stays_at_root}
use Rattle.key_tree.proofs.AfterLemmas.{marked_for, none_past, same_after, some_chosen}
use Rattle.key_tree.proofs.ReadyLemmas.{root_stays}
use Rattle.key_tree.proofs.SeatLemmas.{length-seated, seated_after}
use Rattle.key_tree.proofs.key_trees.KeyTree.prepare.Goals as goal

pub work_out-requires-clause-fits : goal.work_out-requires-clause-fits
work_out-requires-clause-fits c =
    subst (Fits c.as_slice.result.now) (sym c.changes.ensures.changes)
    (subst (λ (holders : Holders). Fits holders c.args.batch.now) (ap (λ (tree : Present). tree.holders) (sym c.self.view_is) ∙ sym c.as_slice.ensures) c.requires)

pub overflow_cast-result : goal.overflow_cast-result
overflow_cast-result c =
    let before : Holders = c.as_slice.result.now in
    let outcome = c.in_ok-outcome.outcome in
    let after : Holders = seated before outcome.seats in
    let few : length before ≤ 512 = omega (arith, ap length c.as_slice.ensures, c.self.invariant.leaves, pow_mono {i = c.self.inside.depth} {j = 9} c.self.invariant.not_deep) in
    omega (arith, few, c.in_ok-outcome.ensures.members, member_count-le after, length-seated before outcome.seats)

pub returns-in_default-clause-none : goal.returns-in_default-clause-none
returns-in_default-clause-none c =
    let was : Present = record { depth = c.self.inside.depth; epoch = c.self.inside.epoch; sequence = c.self.inside.sequence; holders = c.self.inside.holders; changes = c.self.inside.made; kept = c.self.inside.kept } in
    let batch = c.args.batch.now in
    let outcome = c.in_ok-outcome.outcome in
    let fits : Fits was.holders batch = subst (λ (tree : Present). Fits tree.holders batch) (sym c.self.view_is) c.requires in
    let is : IsOutcome was.depth was.holders batch outcome =
    subst (λ changes. IsOutcome was.depth was.holders changes outcome) c.changes.ensures.changes
    (subst (λ (holders : Holders). IsOutcome was.depth holders c.changes.result.now outcome) c.as_slice.ensures c.in_ok-outcome.ensures) in
    let after : Holders = seated was.holders outcome.seats in
    let now : AreOnce was.holders → after ≡ holders_after was.holders batch = λ once. ap (seated was.holders) is.seats ∙ seated_after was.holders batch once in
    let stays : c.stays_at_root-stayed.result ≡ list_any (λ mark. mark) (unchanged_holders was.holders after) =
    c.stays_at_root-stayed.ensures ∙ ap stays_at_root c.as_slice-2.ensures
    ∙ root_stays was.depth was.holders after c.self.invariant.leaves (length-seated was.holders outcome.seats) outcome.renewed is.renewed in
    same_after was c.args.self.now batch c.args.limit None c.self.view_is
    (none_past was batch after c.stays_at_root-stayed.result c.args.limit fits now stays (sym c.in_default.is ∙ c.number_within.ensures))

pub returns-clause-some : goal.returns-clause-some
returns-clause-some c =
    let was : Present = record { depth = c.self.inside.depth; epoch = c.self.inside.epoch; sequence = c.self.inside.sequence; holders = c.self.inside.holders; changes = c.self.inside.made; kept = c.self.inside.kept } in
    let batch = c.args.batch.now in
    let outcome = c.in_ok-outcome.outcome in
    let fits : Fits was.holders batch = subst (λ (tree : Present). Fits tree.holders batch) (sym c.self.view_is) c.requires in
    let is : IsOutcome was.depth was.holders batch outcome =
    subst (λ changes. IsOutcome was.depth was.holders changes outcome) c.changes.ensures.changes
    (subst (λ (holders : Holders). IsOutcome was.depth holders c.changes.result.now outcome) c.as_slice.ensures c.in_ok-outcome.ensures) in
    let after : Holders = seated was.holders outcome.seats in
    let now : AreOnce was.holders → after ≡ holders_after was.holders batch = λ once. ap (seated was.holders) is.seats ∙ seated_after was.holders batch once in
    let stays : c.stays_at_root-stayed.result ≡ list_any (λ mark. mark) (unchanged_holders was.holders after) =
    c.stays_at_root-stayed.ensures ∙ ap stays_at_root c.as_slice-2.ensures
    ∙ root_stays was.depth was.holders after c.self.invariant.leaves (length-seated was.holders outcome.seats) outcome.renewed is.renewed in
    let marked : Marked = record {
      epoch = was.epoch + 1;
      sequence = c.in-Some.sequence;
      members = outcome.members;
      stayed = c.stays_at_root-stayed.result;
      seats = outcome.seats;
      renewed = outcome.renewed;
      drawn = outcome.drawn;
      joined = outcome.joined;
    } in
    let number = was.sequence + cond c.stays_at_root-stayed.result 2 0 in
    let chosen = sym c.in-Some.is ∙ c.number_within.ensures in
    let ready : IsReady was marked = record {
      epoch = refl;
      sequence = (some_chosen (leb number c.args.limit) number c.in-Some.sequence chosen).1;
      within = is.within;
      members = is.members;
      stayed = stays;
      renewed = is.renewed;
      drawn = is.drawn;
    } in
    subst (λ tree. IsMarkedFor tree batch c.args.limit marked) c.self.view_is
    (marked_for was batch marked c.args.limit fits now ready chosen (omega (arith, c.if-self-limit.false)) is.seats is.joined)
