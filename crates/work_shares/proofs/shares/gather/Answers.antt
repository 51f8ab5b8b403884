use Rattle.std.proofs.Common.{◌≡◌, ◌∙◌, ◌-◌, ◌<◌, ◌≤◌, ◌%◌, [], ◌∷◌, ◌++◌, length, map, reverse, slice_index_or, slice_set, Global, Vec, append_assoc, refl, sym, ap, subst, arith}
use Rattle.std.proofs.lemmas.List.{append-nil, get_or-map, length-append, length-map, length-set, map-set, nil_from_length, reverse-append}
use Rattle.std.proofs.lemmas.Nat.{mod_below}
use Rattle.std.specs.Option.{option_to_list}
use Rattle.work_shares.specs.Shares.{share}
use Rattle.work_shares.proofs.ShareLemmas.{back_put, has_one, last_of, one_less}
use Rattle.work_shares.proofs.shares.gather.Goals as goal

pub loop-left-init : goal.loop-left-init
loop-left-init g c = record {
  count = refl;
  room = (omega (arith, ap length c.requires.room.0), c.requires.room.1);
  left = (
    c.requires.shares.list,
    c.requires.shares.counted,
    λ w less.
        subst (λ n. length (slice_index_or (map (λ (hand : Vec g.row.T.Denot Global). hand.items) c.args.hands.now) w [])
        ≡ length (share n w c.requires.shares.list)) (length-map c.args.hands.now (λ (hand : Vec g.row.T.Denot Global). hand.items))
        (c.requires.shares.each w (subst (λ n. w < n) (sym (length-map c.args.hands.now (λ (hand : Vec g.row.T.Denot Global). hand.items))) less)),
  );
  taken = λ list counted shares w less.
      ap (λ items. share (length c.args.hands.now) w (list ++ reverse items)) c.requires.room.0
      ∙ ap (share (length c.args.hands.now) w) (append-nil list) ∙ shares w less;
}

pub unwrap-requires : goal.unwrap-requires
unwrap-requires g c =
    let inv = c.loop-left.invariant in
    let hands = c.loop-left.hands in
    let n = length c.args.hands.now in
    let m = c.loop-left.left - 1 in
    let at = m % length hands in
    let below : at < length hands = mod_below m (length hands) (subst (λ m. 0 < m) (sym inv.count) c.requires.some) in
    let items = get_or-map (λ (hand : Vec g.row.T.Denot Global). hand.items) hands at c.index-hands-at.result [] below in
    let some = c.loop-left-test.true in
    let last = last_of inv.left.0 m (omega (arith, inv.left.1, some)) in
    let one = has_one n (slice_index_or (map (λ (hand : Vec g.row.T.Denot Global). hand.items) hands) at []) last.0 last.1 at
    (ap (λ k. m % k) inv.count ∙ ap (λ k. k % n) (sym last.3))
    (inv.left.2 at (subst (λ k. at < k) inv.count below) ∙ ap (λ list. length (share n at list)) last.2) in
    c.pop.ensures.variant.1 (omega (
      arith,
      one,
      ap length items,
      c.pop.ensures.len,
      ap length c.pop.ensures.items,
      length-append c.pop.new.self.items (option_to_list c.pop.result),
    ))

pub loop-left-preserved : goal.loop-left-preserved
loop-left-preserved g c =
    let inv = c.loop-left.invariant in
    let hands = c.loop-left.hands in
    let n = length c.args.hands.now in
    let m = c.loop-left.left - 1 in
    let at = m % length hands in
    let item = c.unwrap.result in
    let after = c.pop.new.self in
    let lists = map (λ (hand : Vec g.row.T.Denot Global). hand.items) hands in
    let below : at < length hands = mod_below m (length hands) (subst (λ m. 0 < m) (sym inv.count) c.requires.some) in
    let within : at < length lists = subst (λ m. at < m) (sym (length-map hands (λ (hand : Vec g.row.T.Denot Global). hand.items))) below in
    let had : slice_index_or lists at [] ≡ after.items ++ item ∷ []
    = get_or-map (λ (hand : Vec g.row.T.Denot Global). hand.items) hands at c.index-hands-at.result [] below ∙ c.pop.ensures.items
    ∙ ap (λ o. after.items ++ option_to_list o) c.unwrap.ensures in
    let now : map (λ (hand : Vec g.row.T.Denot Global). hand.items) (slice_set hands at after) ≡ slice_set lists at after.items
    = map-set (λ (hand : Vec g.row.T.Denot Global). hand.items) hands at after in
    let some = c.loop-left-test.true in
    let last = last_of inv.left.0 m (omega (arith, inv.left.1, some)) in
    let room = inv.room.0 in
    let longer = c.push_reserved.ensures.len in
    record {
      count = length-set hands at after ∙ inv.count;
      room = (omega (arith, some, room, longer), subst (λ r. c.args.count ≤ r) (sym c.push_reserved.ensures.capacity) inv.room.1);
      left = (
        last.0,
        last.3,
        λ w less.
            ap (λ all. length (slice_index_or all w [])) now
            ∙ one_less n lists at after.items item had within last.0 last.1 (ap (λ k. m % k) inv.count ∙ ap (λ k. k % n) (sym last.3))
            (λ v lower. inv.left.2 v lower ∙ ap (λ list. length (share n v list)) last.2) w less,
      );
      taken = λ list counted shares w less.
          ap (λ back. share n w (list ++ back))
          (ap reverse c.push_reserved.ensures.items ∙ reverse-append c.loop-left.room.items (item ∷ []))
          ∙ ap (share n w) (sym (append_assoc list (item ∷ []) (reverse c.loop-left.room.items)))
          ∙ inv.taken (list ++ item ∷ []) (omega (arith, some, counted, length-append list (item ∷ [])))
          (back_put n lists at after.items item had within list (ap (λ k. m % k) inv.count ∙ ap (λ k. k % n) (sym counted))
          (λ v lower. shares v lower ∙ ap (λ all. slice_index_or all v []) now)) w less;
    }

pub returns-clause-shares : goal.returns-clause-shares
returns-clause-shares g c w less =
    let inv = c.loop-left.invariant in
    let none = c.loop-left-test.false in
    let n = length c.args.hands.now in
    let lists = map (λ (hand : Vec g.row.T.Denot Global). hand.items) c.loop-left.hands in
    let empty : inv.left.0 ≡ [] = nil_from_length inv.left.0 (omega (arith, none, inv.left.1)) in
    ap (share n w) (c.from_vec.ensures ∙ c.reverse.ensures.items)
    ∙ inv.taken [] (omega (arith, none))
    (λ v lower. sym (nil_from_length (slice_index_or lists v []) (inv.left.2 v lower ∙ ap (λ list. length (share n v list)) empty))) w less
