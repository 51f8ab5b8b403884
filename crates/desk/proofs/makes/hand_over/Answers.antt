use Rattle.std.proofs.Common.{arith, ◌≡◌, ℕ, suc, ◌+◌, ◌-◌, ◌*◌, List, [], ◌∷◌, ◌++◌, length, Some, vec_len, ap, sym, refl, ◌∙◌, suc-mul}
use Rattle.std.proofs.lemmas.List.FromFn.{length-map-range_with_len, map-range_with_len_more}
use Rattle.std.proofs.lemmas.List.Elements.{All-map, All-same}
use Rattle.std.specs.List.{range_with_len}
use Rattle.atomic_table.specs.Seated.{TableId}
use Rattle.desk.specs.declared.views.Terms.{Terms}
use Rattle.desk.specs.Opened.{terms_of}
use Rattle.desk.specs.Plays.{first_of, others_of, turns_told}
use Rattle.desk.specs.Turns.{blank_share, blank_shares}
use Rattle.desk.specs.Views.{Holder, first_number, first_mine}
use Rattle.desk.proofs.Meetings.{hands_over}
use Rattle.desk.proofs.makes.hand_over.Goals as goal

abbrev fresh : {E G : Type 0} → TableId → Terms E G → ℕ → Holder E G
fresh table terms number = record { desk = record { table = table; told = Some terms }; number = number; seen = terms.start; mine = [] }

pub split_seat-seat-requires : goal.split_seat-seat-requires
split_seat-seat-requires g c =
    let inv = c.loop.invariant in let words = c.requires.table.0.words in let more = c.loop-test.true in
    let one_more : c.args.passes - c.loop.counter ≡ suc (c.args.passes - c.loop.counter - 1) = omega (arith, more) in (
      inv.2.table_is,
      omega (arith, words),
      hands_over g.K.Kept.listed g.K.Kept.spare g.K.Kept.tag (terms_of g.K.Kept.listed g.K.Kept.tag c.args.top.now.key) _ _ (c.loop.counter + 1) (c.args.passes - c.loop.counter - 1) inv.3.idle inv.2.told
          (inv.4 ∙ ap (blank_shares (c.loop.counter + 1)) one_more) (inv.5 ∙ ap (λ n. n * c.args.top.now.key.turns) one_more),
    )

pub invariant_of-push_reserved : goal.invariant_of-push_reserved
invariant_of-push_reserved g c =
    let inv = c.loop.invariant in let more = c.loop-test.true in let made = c.split_seat-seat.ensures in
    let one_more : c.args.passes - c.loop.counter ≡ suc (c.args.passes - c.loop.counter - 1) = omega (arith, more) in
    let shares = inv.4 ∙ ap (blank_shares (c.loop.counter + 1)) one_more in record {
      rest = record { idle = ap (λ m. m.0.phase) made.4 ∙ inv.3.idle; empty = ap (λ m. m.1) made.4 };
      player = record { share = blank_share (c.loop.counter + 1); one = ap (λ m. m.0.shares) made.4 ∙ ap first_of shares; count = refl };
      terms = terms_of g.K.Kept.listed g.K.Kept.tag c.args.top.now.key;
      told = ap (λ m. m.0.terms) made.4 ∙ inv.2.told;
      within = omega arith;
    }

pub push_reserved-requires : goal.push_reserved-requires
push_reserved-requires g c =
    let inv = c.loop.invariant in let more = c.loop-test.true in let room = inv.1 in
    let terms : Terms g.row.K-Entry.Denot g.row.K-Tag.Denot = terms_of g.K.Kept.listed g.K.Kept.tag c.args.top.now.key in
    let many : vec_len c.loop.made ≡ c.loop.counter = c.loop.made.ok.0 ∙ ap (λ (l : List (Holder g.row.K-Entry.Denot g.row.K-Tag.Denot)). length l) inv.0 ∙ length-map-range_with_len (fresh c.args.top.now.table_id terms) 1 c.loop.counter in
    omega (arith, many, more, room)

pub loop-preserved : goal.loop-preserved
loop-preserved g c =
    let inv = c.loop.invariant in let more = c.loop-test.true in let made = c.split_seat-seat.ensures in let pushed = c.push_reserved.ensures in
    let terms : Terms g.row.K-Entry.Denot g.row.K-Tag.Denot = terms_of g.K.Kept.listed g.K.Kept.tag c.args.top.now.key in
    let one_more : c.args.passes - c.loop.counter ≡ suc (c.args.passes - c.loop.counter - 1) = omega (arith, more) in
    let one_less : c.args.passes - c.loop.counter - 1 ≡ c.args.passes - (c.loop.counter + 1) = omega (arith, more) in
    let shares = inv.4 ∙ ap (blank_shares (c.loop.counter + 1)) one_more in
    let one = ap (λ m. m.0.shares) made.4 ∙ ap first_of shares in
    let table = made.3 ∙ inv.2.table_is in let told = ap (λ m. m.0.terms) made.4 ∙ inv.2.told in let seen = ap (λ m. m.0.seen) made.4 ∙ inv.6 in
    let turns = ap turns_told inv.2.told in let left = inv.5 ∙ (ap (λ n. n * c.args.top.now.key.turns) one_more ∙ suc-mul (c.args.passes - c.loop.counter - 1) c.args.top.now.key.turns) in
    let less : (c.args.passes - c.loop.counter - 1) * c.args.top.now.key.turns ≡ (c.args.passes - (c.loop.counter + 1)) * c.args.top.now.key.turns = ap (λ n. n * c.args.top.now.key.turns) one_less in (
      pushed.items ∙ ((λ i. inv.0 i ++ (record { desk = record { table = table i; told = told i }; number = first_number (one i); seen = seen i; mine = first_mine (one i) }) ∷ []) ∙ sym (map-range_with_len_more (fresh c.args.top.now.table_id terms) 1 c.loop.counter (c.loop.counter + 1) (omega arith))),
      (let room = inv.1 in let same = pushed.capacity in omega (arith, room, same)),
      record { table_is = made.0 ∙ inv.2.table_is; told = ap (λ m. m.0.terms) made.2 ∙ inv.2.told },
      record { idle = ap (λ m. m.0.phase) made.2 ∙ inv.3.idle; empty = ap (λ m. m.1) made.2 ∙ inv.3.empty },
      ap (λ m. m.0.shares) made.2 ∙ (ap others_of shares ∙ ap (blank_shares (c.loop.counter + 1 + 1)) one_less),
      ap (λ m. m.0.left) made.2 ∙ (let w = left in omega (arith, w, turns, less)),
      ap (λ m. m.0.seen) made.2 ∙ inv.6,
    )

pub returns-clause-own : goal.returns-clause-own
returns-clause-own g c =
    let terms : Terms g.row.K-Entry.Denot g.row.K-Tag.Denot = terms_of g.K.Kept.listed g.K.Kept.tag c.args.top.now.key in
    let own : Holder g.row.K-Entry.Denot g.row.K-Tag.Denot → Type 0 = λ pass. pass.desk ≡ record { table = c.args.top.now.table_id; told = Some terms } in
    All-same own c.from_vec.result _ (c.from_vec.ensures ∙ c.loop.invariant.0) (All-map own (fresh c.args.top.now.table_id terms) (range_with_len 1 c.loop.counter) (λ k d l. refl))
