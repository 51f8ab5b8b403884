use Rattle.std.proofs.Common.{◌≡◌, ◌∙◌, ℕ, ◌*◌, ◌≤◌, List, [], length, map, vec_capacity, Global, Vec, refl, rules, sym, ap, subst}
use Rattle.std.proofs.lemmas.List.Elements.{All-map, All-same}
use Rattle.std.specs.List.{range_with_len}
use Rattle.desk.specs.Views.{Holder}
use Rattle.group_model.specs.declared.entries.Entry.{Entry}
use Rattle.work_shares.specs.Shares.{rounds}
use Rattle.register_workers.specs.Private.Seating.{AreHands, IsNewPass, IsRoomFor, LeavesDesk}
use Rattle.register_workers.specs.Private.Seats.{Seated}
use Rattle.group_steps.specs.Shows.{pairs_shown}
use Rattle.register_workers.specs.declared.desk_books.OnBoard.{OnBoard}
use Rattle.register_workers.specs.declared.lines.BlockLine.{BlockLine}
use Rattle.register_workers.proofs.BlockLemmas.{told_at_desk}
use Rattle.register_workers.proofs.blocks.at_desk.Goals as goal

abbrev items_of : Vec BlockLine Global → List BlockLine
items_of hand = hand.items

abbrev room_of : Vec BlockLine Global → ℕ
room_of hand = vec_capacity hand

pub sit-requires-clause-passes : goal.sit-requires-clause-passes
sit-requires-clause-passes g c =
    let made = c.in-Ok-new.made in
    let new : ℕ → Holder Entry OnBoard = λ number. record { desk = made.desk.id; number = number; seen = made.desk.terms.start; mine = [] } in
    let fact = All-same (IsNewPass made.desk.id) made.passes (map new (range_with_len 1 made.desk.terms.passes)) c.in-Ok-new.ensures.passes
    (All-map (IsNewPass made.desk.id) new (range_with_len 1 made.desk.terms.passes) (λ k d less. record { own = refl; fresh = refl })) in
    search (rules, fact)

pub sit-requires-clause-many : goal.sit-requires-clause-many
sit-requires-clause-many g c =
    let many = c.in-Ok-new.ensures.many in
    let fact : (1 ≤ length c.in-Ok-new.made.passes) × (c.in-Ok-new.made.desk.terms.passes ≡ length c.in-Ok-new.made.passes)
    = (subst (λ n. 1 ≤ n) (sym many) c.requires.workers.0, ap (λ terms. terms.passes) c.in-Ok-new.ensures.desk ∙ sym many) in
    search (rules, fact)

pub sit-requires-clause-turns : goal.sit-requires-clause-turns
sit-requires-clause-turns g c =
    let many = c.in-Ok-new.ensures.many in
    let fact : c.in-Ok-new.made.desk.terms.turns ≡ 2 * rounds (length c.in-Ok-new.made.passes) (length c.args.lines)
    = ap (λ terms. terms.turns) c.in-Ok-new.ensures.desk ∙ c.turns_each.ensures.two ∙ ap (λ count. 2 * rounds c.args.workers count) c.len-count.ensures
    ∙ ap (λ n. 2 * rounds n (length c.args.lines)) (sym many) in
    search (rules, fact)

pub sit-requires-clause-board : goal.sit-requires-clause-board
sit-requires-clause-board g c =
    let fact = sym (ap (λ terms. terms.tag.board) c.in-Ok-new.ensures.desk ∙ c.requires.board.0) in
    search (rules, fact)

pub sit-requires-clause-reader : goal.sit-requires-clause-reader
sit-requires-clause-reader g c =
    let fact : (c.args.reader.now.board ≡ c.args.board.now) × (c.args.reader.now.seen ≡ pairs_shown c.in-Ok-new.made.desk.terms.start)
    = (c.requires.board.1, c.requires.shown ∙ ap pairs_shown (sym (ap (λ terms. terms.start) c.in-Ok-new.ensures.desk))) in
    search (rules, fact)

pub sit-requires-clause-ready : goal.sit-requires-clause-ready
sit-requires-clause-ready g c =
    let fact = c.requires.ready in
    search (rules, fact)

pub sit-requires-clause-due : goal.sit-requires-clause-due
sit-requires-clause-due g c =
    let many = c.in-Ok-new.ensures.many in
    let hands = c.in-Ok.rooms.due.items in
    let fact : AreHands hands items_of room_of (length c.in-Ok-new.made.passes) (length c.args.lines)
    = subst (λ n. AreHands hands items_of room_of n (length c.args.lines)) (sym many)
    (subst (λ count. AreHands hands items_of room_of c.args.workers count) c.len-count.ensures c.in-Ok.ensures.due) in
    search (rules, fact)

pub sit-requires-clause-done : goal.sit-requires-clause-done
sit-requires-clause-done g c =
    let many = c.in-Ok-new.ensures.many in
    let hands = c.in-Ok.rooms.done.items in
    let fact : AreHands hands items_of room_of (length c.in-Ok-new.made.passes) (length c.args.lines)
    = subst (λ n. AreHands hands items_of room_of n (length c.args.lines)) (sym many)
    (subst (λ count. AreHands hands items_of room_of c.args.workers count) c.len-count.ensures c.in-Ok.ensures.done) in
    search (rules, fact)

pub sit-requires-clause-workers : goal.sit-requires-clause-workers
sit-requires-clause-workers g c =
    let room = c.in-Ok.rooms.workers in
    let fact = subst (λ n. IsRoomFor n room.items (vec_capacity room)) (sym c.in-Ok-new.ensures.many) c.in-Ok.ensures.workers in
    search (rules, fact)

pub sit-requires-clause-left_passes : goal.sit-requires-clause-left_passes
sit-requires-clause-left_passes g c =
    let room = c.in-Ok.rooms.left.passes in
    let fact = subst (λ n. IsRoomFor n room.items (vec_capacity room)) (sym c.in-Ok-new.ensures.many) c.in-Ok.ensures.passes in
    search (rules, fact)

pub sit-requires-clause-left_readers : goal.sit-requires-clause-left_readers
sit-requires-clause-left_readers g c =
    let room = c.in-Ok.rooms.left.readers in
    let fact = subst (λ n. IsRoomFor n room.items (vec_capacity room)) (sym c.in-Ok-new.ensures.many) c.in-Ok.ensures.readers in
    search (rules, fact)

pub sit-requires-clause-left_ran : goal.sit-requires-clause-left_ran
sit-requires-clause-left_ran g c =
    let room = c.in-Ok.rooms.left.ran in
    let fact = subst (λ n. IsRoomFor n room.items (vec_capacity room)) (sym c.in-Ok-new.ensures.many) c.in-Ok.ensures.ran in
    search (rules, fact)

pub sit-requires-clause-lines : goal.sit-requires-clause-lines
sit-requires-clause-lines g c =
    let room = c.in-Ok.rooms.lines in
    let fact = subst (λ n. IsRoomFor n room.items (vec_capacity room)) c.len-count.ensures c.in-Ok.ensures.lines in
    search (rules, fact)

pub returns-in-Ok-new-clause-ended : goal.returns-in-Ok-new-clause-ended
returns-in-Ok-new-clause-ended g c =
    let made = c.in-Ok-new.made in
    let done = c.in-Ok-new.ensures in
    let blocked = c.sit.result in
    let ended = c.sit.ensures.ended in
    told_at_desk blocked.calls ended.0 blocked.memory (length made.passes) c.args.workers c.args.lines blocked.lines c.args.book.server made.desk.terms.start
    c.args.book.entries blocked.book ended.1 done.many (ap (λ terms. terms.start) done.desk) ended.2

pub returns-in-Ok-new-clause-board : goal.returns-in-Ok-new-clause-board
returns-in-Ok-new-clause-board g c = c.sit.ensures.board ∙ ap (λ terms. terms.tag.board) c.in-Ok-new.ensures.desk ∙ c.requires.board.0

pub returns-in-Err-clause-ended : goal.returns-in-Err-clause-ended
returns-in-Err-clause-ended g c =
    let left = c.untouched-in-Err.result in
    subst (λ (b : Seated g.row.D.Denot g.row.G.Denot g.row.R.Denot).
    LeavesDesk left.calls left.memory c.args.workers c.args.lines left.lines b.server b.entries left.book) c.in-Err.ensures.lost
    (c.untouched-in-Err.ensures.ended c.args.workers)
