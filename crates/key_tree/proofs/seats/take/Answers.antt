use Rattle.std.proofs.Common.{◌∙◌, ◌++◌, ◌∷◌, [], sym, ap, subst}
use Rattle.std.proofs.lemmas.List.{append-nil}
use Rattle.key_tree.specs.Marks.{seated}
use Rattle.key_tree.specs.Private.Seats.{IsTaken, placements, places_of}
use Rattle.key_tree.proofs.TakenLemmas.{none_comes, one_comes}
use Rattle.key_tree.proofs.seats.take.Goals as goal

pub returns-in_ok-push-in-Some-clause-taken : goal.returns-in_ok-push-in-Some-clause-taken
returns-in_ok-push-in-Some-clause-taken c before left came h stranger t =
    let seats = c.args.seats.now in
    let m = c.args.member.now in
    let all = came ++ placements (seated left came) (m ∷ []) in
    let both = one_comes before left c.args.free.now.leaves c.args.vacant.now.left h came c.args.vacant.now.from t m c.in-Some.place stranger c.in-Some.ensures.lowest in (
      c.in_ok-push-in-Some.ensures.ok ∙ ap (λ found. seats ++ found) (sym both.0),
      subst (λ n. IsTaken before left (seated left all) n (places_of all)) (sym c.in-Some.ensures.some) both.1,
    )

pub returns-in-None-clause-taken : goal.returns-in-None-clause-taken
returns-in-None-clause-taken c before left came h stranger t =
    let seats = c.args.seats.now in
    let m = c.args.member.now in
    let all = came ++ placements (seated left came) (m ∷ []) in
    let both = none_comes before left c.args.free.now.leaves c.args.vacant.now.left h came c.args.vacant.now.from t m c.in-None.ensures.lowest in (
      sym (ap (λ found. seats ++ found) both.0 ∙ append-nil seats),
      subst (λ n. IsTaken before left (seated left all) n (places_of all)) (sym c.in-None.ensures.none) both.1,
    )
