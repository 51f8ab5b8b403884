use Rattle.std.proofs.Common.{◌≡◌, ◌∙◌, ◌+◌, [], ◌∷◌, List, length, drop, refl, sym, ap, subst, arith}
use Rattle.std.proofs.lemmas.List.{drop_all, drop_more}
use Rattle.group_terms.specs.Changes.{joiners}
use Rattle.group_terms.specs.declared.changes.Change.{Change}
use Rattle.key_tree.specs.declared.vacant.Vacant.{Vacant}
use Rattle.key_tree.specs.Private.Seats.{IsLeft, IsVacant, placements}
use Rattle.key_tree.proofs.ComingLemmas.{GoesOn, all_came, goes_out, nobody_came, nobody_yet, somebody_came}
use Rattle.key_tree.proofs.seats.take_all.Goals.{in-In+in_ok-take, in_default}
use Rattle.key_tree.proofs.seats.take_all.Goals as goal

pub loop-change-init : goal.loop-change-init
loop-change-init c = record {
  vacant = c.requires.vacant;
  left = refl;
  taken = λ before left h strangers.
      nobody_yet before left (placements left (joiners c.args.batch.now)) c.args.seats.now c.args.free.now.leaves c.args.vacant.now.left c.args.batch.now c.args.vacant.now.from h c.requires.first
      strangers refl;
}

pub loop-change-preserved : goal.loop-change-preserved
loop-change-preserved c =
    let batch = c.args.batch.now in
    let start = c.args.seats.now in
    let i = c.loop-change.change-index in
    let was = c.loop-change.invariant in
    let rest : List Change = drop (i + 1) batch in
    let free = c.args.free.now.leaves in
    let here : drop i batch ≡ c.change-item.result ∷ rest =
    drop_more batch i c.change-item.result (omega (arith, c.loop-change-test.true)) ∙ ap (λ change. change ∷ rest) (sym c.change-item.is) in
    elim c.match-change.branch [
      | in-In+in_ok-take w ↦ record {
        vacant = subst IsVacant (sym w.vacant-is) w.take.ensures.vacant;
        left = ap (λ (vacant : Vacant). vacant.left) w.vacant-is ∙ w.take.ensures.left ∙ was.left;
        taken = λ before left h strangers.
            let all = placements left (joiners batch) in
            subst (λ (vacant : Vacant). GoesOn before left all start rest c.match-change.seats vacant.from) (sym w.vacant-is)
            (subst (λ seats. GoesOn before left all start rest seats w.take.new.vacant.from) (sym w.seats-is)
            (somebody_came before left all start (drop i batch) rest c.loop-change.seats w.in-In.member c.loop-change.vacant.from w.take.new.vacant.from w.take.new.seats
            (here ∙ ap (λ change. change ∷ rest) w.in-In.is)
            (w.in_ok-take.ensures.taken before left (drop (length start) c.loop-change.seats) (subst (IsLeft before left free) (sym was.left) h))
            (was.taken before left h strangers)));
      }
      | in_default w ↦ record {
        vacant = subst IsVacant (sym w.vacant-is) was.vacant;
        left = ap (λ (vacant : Vacant). vacant.left) w.vacant-is ∙ was.left;
        taken = λ before left h strangers.
            let all = placements left (joiners batch) in
            subst (λ (vacant : Vacant). GoesOn before left all start rest c.match-change.seats vacant.from) (sym w.vacant-is)
            (subst (λ seats. GoesOn before left all start rest seats c.loop-change.vacant.from) (sym w.seats-is)
            (nobody_came before left all start (drop i batch) rest c.loop-change.seats c.change-item.result c.loop-change.vacant.from here (goes_out c.change-item.result w.in_default.not-In)
            (was.taken before left h strangers)));
      }
    ]

pub returns-clause-taken : goal.returns-clause-taken
returns-clause-taken c before left h strangers =
    let batch = c.args.batch.now in
    all_came before left (placements left (joiners batch)) c.args.seats.now (drop c.loop-change.change-index batch) [] c.loop-change.seats c.loop-change.vacant.from
    (drop_all c.loop-change.change-index batch (omega (arith, c.loop-change-test.false))) (c.loop-change.invariant.taken before left h strangers)
