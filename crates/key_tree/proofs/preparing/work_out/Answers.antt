use Rattle.std.proofs.Common.{◌≡◌, ◌∙◌, ◌+◌, ◌^◌, ◌<◌, ◌≤◌, ◌||◌, eqb, length, map, ap, arith}
use Rattle.std.specs.Prelude.{reverse}
use Rattle.std.specs.List.{filter}
use Rattle.std.proofs.lemmas.Grind.{pow_more}
use Rattle.std.proofs.lemmas.List.Elements.{All-weaker}
use Rattle.group_terms.specs.Positions.{some_leaf_below}
use Rattle.group_model.specs.Fresh.{changed_leaves}
use Rattle.group_model.specs.Places.{Holders}
use Rattle.key_tree.specs.declared.marks.Renewed.{Renewed}
use Rattle.key_tree.specs.Marks.{fresh_between, ids_renewed, renewal, seated}
use Rattle.key_tree.specs.Private.Levels.{levels}
use Rattle.key_tree.proofs.ChangedLemmas.{leaves_within}
use Rattle.key_tree.proofs.ReadyLemmas.{drawn_are, renewed_are}
use Rattle.key_tree.proofs.SeatLemmas.{length-seated}
use Rattle.key_tree.proofs.preparing.work_out.Goals as goal

pub all_levels-requires-clause-from : goal.all_levels-requires-clause-from
all_levels-requires-clause-from c =
    let depth = c.args.depth in
    let before : Holders = c.args.holders.now in
    let seating = c.in_ok-seats.field-0 in
    let after : Holders = seated before seating.seats in
    All-weaker (λ (leaf : Renewed). (2 ^ depth ≤ leaf.id) × (leaf.id < 2 ^ depth + 2 ^ depth)) (λ leaf. 2 ^ depth ≤ leaf.id) (λ leaf h. h.0) seating.leaves
    (leaves_within depth before after (λ v. some_leaf_below depth (changed_leaves before after) v) seating.leaves c.in_ok-seats.ensures.leaves)

pub all_levels-requires-clause-to : goal.all_levels-requires-clause-to
all_levels-requires-clause-to c =
    let depth = c.args.depth in
    let before : Holders = c.args.holders.now in
    let seating = c.in_ok-seats.field-0 in
    let after : Holders = seated before seating.seats in
    All-weaker (λ (leaf : Renewed). (2 ^ depth ≤ leaf.id) × (leaf.id < 2 ^ depth + 2 ^ depth)) (λ leaf. leaf.id < 2 ^ (depth + 1)) (λ leaf h. omega (arith, h.1, pow_more 2 depth)) seating.leaves
    (leaves_within depth before after (λ v. some_leaf_below depth (changed_leaves before after) v) seating.leaves c.in_ok-seats.ensures.leaves)

pub returns : goal.returns
returns c =
    let depth = c.args.depth in
    let before : Holders = c.args.holders.now in
    let seating = c.in_ok-seats.field-0 in
    let is = c.in_ok-seats.ensures in
    let after : Holders = seated before seating.seats in
    let same : length after ≡ length before = length-seated before seating.seats in
    let renewed : c.in_ok-renewed.renewed ≡ map (renewal depth before after) (fresh_between depth before after) =
    c.in_ok-renewed.ensures ∙ ap (λ held. reverse (levels held depth seating.leaves)) c.requires.held
    ∙ renewed_are depth before after c.requires.leaves same seating.leaves is.leaves in
    record {
      seats = is.seats;
      within = is.within;
      members = is.members;
      joined = is.joined;
      renewed = renewed;
      drawn = c.in_ok-drawn.ensures ∙ ap (λ list. ids_renewed (filter (λ (found : Renewed). eqb found.id 1 || found.held) list)) c.as_slice.ensures
          ∙ drawn_are depth before after c.requires.leaves same c.in_ok-renewed.renewed renewed;
    }
