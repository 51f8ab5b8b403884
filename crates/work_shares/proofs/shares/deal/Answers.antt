use Rattle.std.proofs.Common.{◌≡◌, ◌∙◌, ◌<◌, ◌≤◌, ◌%◌, [], ◌∷◌, ◌++◌, length, map, reverse, slice_index_or, slice_set, Global, Vec, vec_capacity, refl, sym, ap, subst, arith}
use Rattle.std.proofs.lemmas.List.{append-nil, get_or-map, length-append, length-map, length-set, map-set, set-get_or}
use Rattle.std.proofs.lemmas.Nat.{mod_below}
use Rattle.work_shares.specs.Shares.{share}
use Rattle.work_shares.proofs.ShareLemmas.{has_place, none_yet, put_at}
use Rattle.work_shares.proofs.shares.deal.Goals as goal

pub loop-item-init : goal.loop-item-init
loop-item-init g c = record {
  count = refl;
  dealt = λ w less.
      ap (λ list. list ++ reverse (share (length c.args.hands.now) w c.args.items))
      (sym (none_yet (λ (hand : Vec g.row.T.Denot Global). hand.items) c.args.hands.now c.requires.empty w less));
  room = c.requires.room;
}

pub push_reserved-requires : goal.push_reserved-requires
push_reserved-requires g c =
    let inv = c.loop-item.invariant in
    let hands = c.loop-item.hands in
    let n = length c.args.hands.now in
    let at = c.len.result % length hands in
    let hand = slice_index_or hands at c.index-hands-at.result in
    let below : at < length hands = mod_below c.len.result (length hands) (subst (λ m. 0 < m) (sym inv.count) c.requires.some) in
    let below_n : at < n = subst (λ m. at < m) inv.count below in
    let items = get_or-map (λ (hand : Vec g.row.T.Denot Global). hand.items) hands at c.index-hands-at.result [] below in
    let room = get_or-map (λ (hand : Vec g.row.T.Denot Global). vec_capacity hand) hands at c.index-hands-at.result 0 below in
    let place = has_place n (slice_index_or (map (λ (hand : Vec g.row.T.Denot Global). hand.items) hands) at []) c.pop.new.self c.in-Some.item at
    (share n at c.args.items) (ap (λ m. m % length hands) c.len.ensures ∙ ap (λ m. length c.pop.new.self % m) inv.count)
    (inv.dealt at below_n ∙ ap (λ list. slice_index_or (map (λ (hand : Vec g.row.T.Denot Global). hand.items) hands) at [] ++ reverse (share n at list)) c.in-Some.ensures.last) in
    omega (arith, place, ap length items, room, inv.room at below_n)

pub loop-item-smaller : goal.loop-item-smaller
loop-item-smaller g c = omega (arith, ap length c.in-Some.ensures.last, length-append c.pop.new.self (c.in-Some.item ∷ []))

pub loop-item-preserved : goal.loop-item-preserved
loop-item-preserved g c =
    let inv = c.loop-item.invariant in
    let hands = c.loop-item.hands in
    let n = length c.args.hands.now in
    let at = c.len.result % length hands in
    let hand = slice_index_or hands at c.index-hands-at.result in
    let after = c.push_reserved.new.self in
    let lists = map (λ (hand : Vec g.row.T.Denot Global). hand.items) hands in
    let rooms = map (λ (hand : Vec g.row.T.Denot Global). vec_capacity hand) hands in
    let below : at < length hands = mod_below c.len.result (length hands) (subst (λ m. 0 < m) (sym inv.count) c.requires.some) in
    let had : slice_index_or lists at [] ≡ hand.items = get_or-map (λ (hand : Vec g.row.T.Denot Global). hand.items) hands at c.index-hands-at.result [] below in
    let now : map (λ (hand : Vec g.row.T.Denot Global). hand.items) (slice_set hands at after) ≡ slice_set lists at (slice_index_or lists at [] ++ c.in-Some.item ∷ [])
    = map-set (λ (hand : Vec g.row.T.Denot Global). hand.items) hands at after
    ∙ ap (slice_set lists at) (c.push_reserved.ensures.items ∙ ap (λ list. list ++ c.in-Some.item ∷ []) (sym had)) in
    let rooms_now : map (λ (hand : Vec g.row.T.Denot Global). vec_capacity hand) (slice_set hands at after) ≡ rooms
    = map-set (λ (hand : Vec g.row.T.Denot Global). vec_capacity hand) hands at after
    ∙ ap (slice_set rooms at) (c.push_reserved.ensures.capacity ∙ sym (get_or-map (λ (hand : Vec g.row.T.Denot Global). vec_capacity hand) hands at c.index-hands-at.result 0 below))
    ∙ set-get_or rooms at 0 in
    record {
      count = length-set hands at after ∙ inv.count;
      dealt = λ w less.
          inv.dealt w less ∙ ap (λ list. slice_index_or lists w [] ++ reverse (share n w list)) c.in-Some.ensures.last
          ∙ put_at n lists c.pop.new.self c.in-Some.item at w
          (ap (λ m. m % length hands) c.len.ensures ∙ ap (λ m. length c.pop.new.self % m) inv.count)
          (subst (λ m. at < m) (sym (length-map hands (λ (hand : Vec g.row.T.Denot Global). hand.items))) below)
          ∙ ap (λ all. slice_index_or all w [] ++ reverse (share n w c.pop.new.self)) (sym now);
      room = λ w less. subst (λ all. length (share n w c.args.items) ≤ slice_index_or all w 0) (sym rooms_now) (inv.room w less);
    }

pub returns-clause-dealt : goal.returns-clause-dealt
returns-clause-dealt g c w less =
    let inv = c.loop-item.invariant in
    let lists = map (λ (hand : Vec g.row.T.Denot Global). hand.items) c.loop-item.hands in
    sym (inv.dealt w less
    ∙ ap (λ list. slice_index_or lists w [] ++ reverse (share (length c.args.hands.now) w list)) (c.in_default.ensures.empty.0 refl)
    ∙ append-nil (slice_index_or lists w []))
