use Rattle.std.proofs.Common.{◌≡◌, ◌∙◌, ◌+◌, ◌≤◌, List, [], ◌∷◌, ◌++◌, length, map, reverse, vec_capacity, false, Some, Global, Vec, append-nil, arith, refl, sym, ap}
use Rattle.std.proofs.lemmas.List.{length-append, nil_from_length}
use Rattle.std.proofs.lemmas.List.Elements.{All-nil, All-pop, All-push, All-same}
use Rattle.register_workers.specs.Private.Running.{IsFresh, Worker}
use Rattle.register_workers.specs.Private.Seating.{HasWork, IsNewPass}
use Rattle.register_workers.specs.declared.lines.BlockLine.{BlockLine}
use Rattle.register_workers.proofs.SeatingLemmas.{all_reversed, one_back}
use Rattle.register_workers.proofs.seats.seat_workers.Goals as goal

abbrev items_of : Vec BlockLine Global → List BlockLine
items_of hand = hand.items

abbrev due_of : Worker → List BlockLine
due_of worker = worker.due

pub loop-pass-init : goal.loop-pass-init
loop-pass-init g c =
    let empty = c.requires.room.empty in
    let desk = c.args.floor.now.desk.now in
    record {
      many = c.requires.many;
      seats = omega (arith, ap length empty, c.requires.room.enough);
      passes = c.requires.passes;
      due = c.requires.due;
      done = c.requires.done;
      dealt = sym (append-nil (map items_of c.args.due.items))
          ∙ ap (λ (list : List Worker). map items_of c.args.due.items ++ map due_of (reverse list)) (sym empty);
      fresh = All-same (IsFresh desk) c.args.room.items [] empty (All-nil (IsFresh desk));
      knew = All-same (λ (worker : Worker). worker.reader.seen ≡ c.args.reader.now.seen) c.args.room.items [] empty
          (All-nil (λ (worker : Worker). worker.reader.seen ≡ c.args.reader.now.seen));
      reader = refl;
    }

pub loop-pass-smaller : goal.loop-pass-smaller
loop-pass-smaller g c = omega (arith, ap length c.in-Some.ensures.last, length-append c.pop.new.self (c.in-Some.pass ∷ []))

pub last_hand-lines-requires : goal.last_hand-lines-requires
last_hand-lines-requires g c =
    omega (arith, c.loop-pass.invariant.many.0, ap length c.in-Some.ensures.last, length-append c.pop.new.self (c.in-Some.pass ∷ []))

pub last_hand-ran-requires : goal.last_hand-ran-requires
last_hand-ran-requires g c =
    omega (arith, c.loop-pass.invariant.many.1, ap length c.in-Some.ensures.last, length-append c.pop.new.self (c.in-Some.pass ∷ []))

pub split-requires : goal.split-requires
split-requires g c = ap (λ p. p.board) c.loop-pass.invariant.reader ∙ c.requires.reader

pub invariant_of-worker : goal.invariant_of-worker
invariant_of-worker g c =
    let inv = c.loop-pass.invariant in
    let desk = c.args.floor.now.desk.now in
    let work = (All-pop (λ (hand : Vec BlockLine Global). HasWork desk.terms.turns hand.items) c.loop-pass.due.items c.last_hand-lines.new.hands.items
    (Some c.last_hand-lines.result) c.last_hand-lines.ensures inv.due).1 in
    let room = (All-pop (λ (hand : Vec BlockLine Global). (hand.items ≡ []) × (desk.terms.turns ≤ vec_capacity hand + vec_capacity hand)) c.loop-pass.done.items
    c.last_hand-ran.new.hands.items (Some c.last_hand-ran.result) c.last_hand-ran.ensures inv.done).1 in
    omega (arith, work.few, room.1, ap length room.0, c.last_hand-lines.result.ok.0, c.last_hand-ran.result.ok.0)

pub push_reserved-requires : goal.push_reserved-requires
push_reserved-requires g c =
    omega (arith, c.loop-pass.invariant.seats, c.loop-pass.workers.ok.0, ap length c.in-Some.ensures.last, length-append c.pop.new.self (c.in-Some.pass ∷ []))

pub loop-pass-preserved : goal.loop-pass-preserved
loop-pass-preserved g c =
    let inv = c.loop-pass.invariant in
    let desk = c.args.floor.now.desk.now in
    let last : c.loop-pass.passes ≡ c.pop.new.self ++ c.in-Some.pass ∷ [] = c.in-Some.ensures.last in
    let fewer = length-append c.pop.new.self (c.in-Some.pass ∷ []) in
    let pass = All-pop (IsNewPass desk.id) c.loop-pass.passes c.pop.new.self (Some c.in-Some.pass) last inv.passes in
    let lines = c.last_hand-lines.result in
    let work = All-pop (λ (hand : Vec BlockLine Global). HasWork desk.terms.turns hand.items) c.loop-pass.due.items c.last_hand-lines.new.hands.items
    (Some lines) c.last_hand-lines.ensures inv.due in
    let room = All-pop (λ (hand : Vec BlockLine Global). (hand.items ≡ []) × (desk.terms.turns ≤ vec_capacity hand + vec_capacity hand)) c.loop-pass.done.items
    c.last_hand-ran.new.hands.items (Some c.last_hand-ran.result) c.last_hand-ran.ensures inv.done in
    let reader = c.split.ensures.new ∙ inv.reader in
    let worker : Worker = record {
      pass = c.in-Some.pass;
      reader = c.split.result;
      due = lines.items;
      done = c.last_hand-ran.result.items;
      memory = false;
    } in
    let workers = c.loop-pass.workers.items in
    let pushed = c.push_reserved.ensures in
    record {
      many = (
        omega (arith, inv.many.0, ap length last, fewer, ap length c.last_hand-lines.ensures, length-append c.last_hand-lines.new.hands.items (lines ∷ [])),
        omega (
          arith,
          inv.many.1,
          ap length last,
          fewer,
          ap length c.last_hand-ran.ensures,
          length-append c.last_hand-ran.new.hands.items (c.last_hand-ran.result ∷ []),
        ),
      );
      seats = omega (arith, inv.seats, ap length last, fewer, ap length pushed.items, length-append workers (worker ∷ []), pushed.capacity);
      passes = pass.0;
      due = work.0;
      done = room.0;
      dealt = one_back items_of due_of (map items_of c.args.due.items) c.last_hand-lines.new.hands.items lines workers worker
          (inv.dealt ∙ ap (λ (hands : List (Vec BlockLine Global)). map items_of hands ++ map due_of (reverse workers)) c.last_hand-lines.ensures) refl
          ∙ ap (λ (list : List Worker). map items_of c.last_hand-lines.new.hands.items ++ map due_of (reverse list)) (sym pushed.items);
      fresh = All-same (IsFresh desk) c.push_reserved.new.self.items (workers ++ worker ∷ []) pushed.items
          (All-push (IsFresh desk) workers worker inv.fresh (record {
            own = pass.1.own;
            fresh = pass.1.fresh;
            reads = ap (λ p. p.board) reader ∙ c.requires.reader ∙ c.args.floor.now.one_board;
            none_done = room.1.0;
            turns = work.1.few;
            ready = work.1.ready;
          }));
      knew = All-same (λ (worker : Worker). worker.reader.seen ≡ c.args.reader.now.seen) c.push_reserved.new.self.items (workers ++ worker ∷ []) pushed.items
          (All-push (λ (worker : Worker). worker.reader.seen ≡ c.args.reader.now.seen) workers worker inv.knew (ap (λ p. p.seen) reader));
      reader = c.split.ensures.same ∙ inv.reader;
    }

pub returns-clause-due : goal.returns-clause-due
returns-clause-due g c =
    let inv = c.loop-pass.invariant in
    let none : c.loop-pass.due.items ≡ [] = nil_from_length c.loop-pass.due.items (inv.many.0 ∙ ap length (c.in_default.ensures.empty.0 refl)) in
    ap (map due_of) c.reverse.ensures.items
    ∙ sym (inv.dealt ∙ ap (λ (hands : List (Vec BlockLine Global)). map items_of hands ++ map due_of (reverse c.loop-pass.workers.items)) none)

pub returns-clause-fresh : goal.returns-clause-fresh
returns-clause-fresh g c =
    let desk = c.args.floor.now.desk.now in
    All-same (IsFresh desk) c.reverse.new.self.items (reverse c.loop-pass.workers.items) c.reverse.ensures.items
    (all_reversed (IsFresh desk) c.loop-pass.workers.items c.loop-pass.invariant.fresh)

pub returns-clause-knew : goal.returns-clause-knew
returns-clause-knew g c =
    All-same (λ (worker : Worker). worker.reader.seen ≡ c.args.reader.now.seen) c.reverse.new.self.items (reverse c.loop-pass.workers.items)
    c.reverse.ensures.items
    (all_reversed (λ (worker : Worker). worker.reader.seen ≡ c.args.reader.now.seen) c.loop-pass.workers.items c.loop-pass.invariant.knew)

pub returns-clause-reader : goal.returns-clause-reader
returns-clause-reader g c = c.loop-pass.invariant.reader
