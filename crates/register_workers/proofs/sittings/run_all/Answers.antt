use Rattle.std.proofs.Common.{◌≡◌, ◌∙◌, ℕ, ◌*◌, ◌<◌, ◌≤◌, List, [], length, reverse, slice_index_or, vec_capacity, Global, Vec, rules, sym, ap, subst}
use Rattle.std.proofs.lemmas.List.{get_or-map, length-map}
use Rattle.work_shares.specs.Shares.{rounds, share}
use Rattle.register_workers.specs.Private.Running.{Worker}
use Rattle.register_workers.specs.Private.Seating.{AreHands}
use Rattle.register_workers.specs.declared.lines.BlockLine.{BlockLine}
use Rattle.register_workers.proofs.SeatingLemmas.{has_work, have_run, turns_fit}
use Rattle.register_workers.proofs.sittings.run_all.Goals as goal

abbrev items_of : Vec BlockLine Global → List BlockLine
items_of hand = hand.items

abbrev room_of : Vec BlockLine Global → ℕ
room_of hand = vec_capacity hand

abbrev due_of : Worker → List BlockLine
due_of worker = worker.due

pub dealt-due-requires : goal.dealt-due-requires
dealt-due-requires g c = record {
  some = subst (λ n. 1 ≤ n) (sym c.requires.due.many) c.requires.some;
  hands = subst (λ n. AreHands c.args.due.items items_of room_of n (length c.args.lines)) (sym c.requires.due.many) c.requires.due;
}

pub seat_workers-seated-requires : goal.seat_workers-seated-requires
seat_workers-seated-requires g c =
    let lines = c.args.lines in
    let dealt = c.dealt-due.result.items in
    let n = length c.args.due.items in
    let many = c.requires.due.many in
    record {
      reader = c.requires.reader.0;
      passes = c.requires.passes;
      many = (c.dealt-due.ensures.many ∙ many, c.requires.done.many);
      due = λ k d less.
          let below = subst (λ n. k < n) c.dealt-due.ensures.many less in
          has_work n k c.args.floor.now.desk.now.terms.turns lines (slice_index_or dealt k d).items
          (sym (get_or-map items_of dealt k d [] less) ∙ c.dealt-due.ensures.dealt k below)
          (c.no_share_has_more_than_the_rounds.ensures lines n k below) (c.requires.turns ∙ ap (λ n. 2 * rounds n (length lines)) (sym many)) c.requires.ready;
      done = λ k d less. (
        c.requires.done.empty k d less,
        turns_fit (rounds (length c.args.passes) (length lines)) (vec_capacity (slice_index_or c.args.done.items k d)) c.args.floor.now.desk.now.terms.turns
            (c.requires.done.even k d less) c.requires.turns,
      );
      room = c.requires.room;
    }

pub all_done-requires-clause-some : goal.all_done-requires-clause-some
all_done-requires-clause-some g c =
    let many = sym (length-map c.seat_workers-seated.result.items due_of) ∙ ap length c.seat_workers-seated.ensures.due
    ∙ length-map c.dealt-due.result.items items_of ∙ c.dealt-due.ensures.many ∙ c.requires.due.many in
    let fact : 1 ≤ length c.seat_workers-seated.result.items = subst (λ n. 1 ≤ n) (sym many) c.requires.some in
    search (rules, fact)

pub all_done-requires-clause-fresh : goal.all_done-requires-clause-fresh
all_done-requires-clause-fresh g c =
    let fact = c.seat_workers-seated.ensures.fresh in
    search (rules, fact)

pub returns-clause-many : goal.returns-clause-many
returns-clause-many g c =
    c.all_done.ensures.many ∙ sym (length-map c.seat_workers-seated.result.items due_of) ∙ ap length c.seat_workers-seated.ensures.due
    ∙ length-map c.dealt-due.result.items items_of ∙ c.dealt-due.ensures.many ∙ c.requires.due.many

pub returns-clause-ran : goal.returns-clause-ran
returns-clause-ran g c =
    let lines = c.args.lines in
    let seated = c.seat_workers-seated.result.items in
    let seat = c.seat_workers-seated.ensures in
    let many : length seated ≡ length c.args.due.items
    = sym (length-map seated due_of) ∙ ap length seat.due ∙ length-map c.dealt-due.result.items items_of ∙ c.dealt-due.ensures.many in
    have_run c.args.floor.now.desk.now lines seated c.all_done.result.items c.all_done.ensures.many c.all_done.ensures.did
    (λ k d less. seat.knew k d less ∙ c.requires.reader.1)
    (λ w less. ap (λ list. slice_index_or list w []) seat.due ∙ c.dealt-due.ensures.dealt w (subst (λ n. w < n) many less)
    ∙ ap (λ n. reverse (share n w lines)) (sym many))

pub returns-clause-reader : goal.returns-clause-reader
returns-clause-reader g c = c.seat_workers-seated.ensures.reader
