use Rattle.std.proofs.Common.{◌≡◌, ◌∙◌, Bool, true, false, List, [], ◌∷◌, ◌++◌, length, map, reverse, Global, Vec, append-nil, arith, refl, sym, ap}
use Rattle.std.proofs.lemmas.List.{length-append, length-reverse, map_push, nil_from_length, reverse-append, reverse-reverse}
use Rattle.std.specs.List.{list_any}
use Rattle.std.specs.Prelude.{◌||◌}
use Rattle.desk.specs.Views.{Holder}
use Rattle.epoch_board.specs.Passes.{PassState}
use Rattle.group_model.specs.declared.entries.Entry.{Entry}
use Rattle.register_workers.specs.Private.Running.{Worker}
use Rattle.register_workers.specs.declared.desk_books.OnBoard.{OnBoard}
use Rattle.register_workers.specs.declared.lines.BlockLine.{BlockLine}
use Rattle.register_workers.proofs.SeatingLemmas.{one_forth}
use Rattle.register_workers.proofs.seats.rise.Goals as goal

abbrev items_of : Vec BlockLine Global → List BlockLine
items_of hand = hand.items

abbrev pass_of : Worker → Holder Entry OnBoard
pass_of worker = worker.pass

abbrev reader_of : Worker → PassState
reader_of worker = worker.reader

abbrev done_of : Worker → List BlockLine
done_of worker = worker.done

abbrev short_of : Worker → Bool
short_of worker = worker.memory

or_assoc : (a b c : Bool) → (a || (b || c)) ≡ ((a || b) || c)
or_assoc true b c = refl
or_assoc false b c = refl

or_none : (a : Bool) → (a || false) ≡ a
or_none true = refl
or_none false = refl

pub loop-worker-init : goal.loop-worker-init
loop-worker-init g c =
    let workers = c.args.workers.items in
    let twice : reverse c.reverse.new.self.items ≡ workers = ap reverse c.reverse.ensures.items ∙ reverse-reverse workers in
    let many : length c.reverse.new.self.items ≡ length workers = ap length c.reverse.ensures.items ∙ length-reverse workers in
    record {
      passes = sym (ap (λ list. list ++ map (λ (worker : Worker). worker.pass) (reverse c.reverse.new.self.items)) c.requires.passes.empty
          ∙ ap (map (λ (worker : Worker). worker.pass)) twice);
      readers = sym (ap (λ list. list ++ map (λ (worker : Worker). worker.reader) (reverse c.reverse.new.self.items)) c.requires.readers.empty
          ∙ ap (map (λ (worker : Worker). worker.reader)) twice);
      ran = sym (ap (λ list. map items_of list ++ map (λ (worker : Worker). worker.done) (reverse c.reverse.new.self.items)) c.requires.ran.empty
          ∙ ap (map (λ (worker : Worker). worker.done)) twice);
      memory = ap (list_any short_of) (sym twice);
      room_passes = omega (arith, ap length c.requires.passes.empty, many, c.requires.passes.enough);
      room_readers = omega (arith, ap length c.requires.readers.empty, many, c.requires.readers.enough);
      room_ran = omega (arith, ap length c.requires.ran.empty, many, c.requires.ran.enough);
    }

pub loop-worker-smaller : goal.loop-worker-smaller
loop-worker-smaller g c = omega (arith, ap length c.in-Some.ensures.items, length-append c.pop.new.self.items (c.in-Some.worker ∷ []))

pub push_reserved-requires : goal.push_reserved-requires
push_reserved-requires g c =
    omega (
      arith,
      c.loop-worker.invariant.room_passes,
      ap length c.in-Some.ensures.items,
      length-append c.pop.new.self.items (c.in-Some.worker ∷ []),
      c.loop-worker.left.passes.ok.0,
    )

pub push_reserved-requires-in-Some : goal.push_reserved-requires-in-Some
push_reserved-requires-in-Some g c =
    omega (
      arith,
      c.loop-worker.invariant.room_readers,
      ap length c.in-Some.ensures.items,
      length-append c.pop.new.self.items (c.in-Some.worker ∷ []),
      c.loop-worker.left.readers.ok.0,
    )

pub push_reserved-requires-in-Some-2 : goal.push_reserved-requires-in-Some-2
push_reserved-requires-in-Some-2 g c =
    omega (
      arith,
      c.loop-worker.invariant.room_ran,
      ap length c.in-Some.ensures.items,
      length-append c.pop.new.self.items (c.in-Some.worker ∷ []),
      c.loop-worker.left.ran.ok.0,
    )

pub loop-worker-preserved : goal.loop-worker-preserved
loop-worker-preserved g c =
    let inv = c.loop-worker.invariant in
    let front = c.pop.new.self.items in
    let worker = c.in-Some.worker in
    let inside = c.worker.inside in
    let last : c.loop-worker.workers.items ≡ front ++ worker ∷ [] = c.in-Some.ensures.items in
    let fewer = length-append front (worker ∷ []) in
    let workers = c.args.workers.items in
    let left = c.loop-worker.left in
    let rest = list_any short_of (reverse front) in
    record {
      passes = one_forth pass_of (map pass_of workers) front worker left.passes.items c.push_reserved.new.self.items
          (inv.passes ∙ ap (λ (list : List Worker). left.passes.items ++ map pass_of (reverse list)) last)
          (c.push_reserved.ensures.items ∙ ap (λ (worker : Worker). left.passes.items ++ worker.pass ∷ []) c.worker.view_is);
      readers = one_forth reader_of (map reader_of workers) front worker left.readers.items c.push_reserved-in-Some.new.self.items
          (inv.readers ∙ ap (λ (list : List Worker). left.readers.items ++ map reader_of (reverse list)) last)
          (c.push_reserved-in-Some.ensures.items ∙ ap (λ (worker : Worker). left.readers.items ++ worker.reader ∷ []) c.worker.view_is);
      ran = one_forth done_of (map done_of workers) front worker (map items_of left.ran.items) (map items_of c.push_reserved-in-Some-2.new.self.items)
          (inv.ran ∙ ap (λ (list : List Worker). map items_of left.ran.items ++ map done_of (reverse list)) last)
          (ap (map items_of) c.push_reserved-in-Some-2.ensures.items ∙ map_push items_of left.ran.items inside.done
          ∙ ap (λ (worker : Worker). map items_of left.ran.items ++ worker.done ∷ []) c.worker.view_is);
      memory = inv.memory ∙ ap (λ (list : List Worker). c.loop-worker.short || list_any short_of (reverse list)) last
          ∙ ap (λ (list : List Worker). c.loop-worker.short || list_any short_of list) (reverse-append front (worker ∷ []))
          ∙ or_assoc c.loop-worker.short worker.memory rest
          ∙ ap (λ (worker : Worker). (c.loop-worker.short || worker.memory) || rest) (sym c.worker.view_is);
      room_passes = omega (
        arith,
        inv.room_passes,
        ap length last,
        fewer,
        ap length c.push_reserved.ensures.items,
        length-append left.passes.items (inside.pass ∷ []),
        c.push_reserved.ensures.capacity,
      );
      room_readers = omega (
        arith,
        inv.room_readers,
        ap length last,
        fewer,
        ap length c.push_reserved-in-Some.ensures.items,
        length-append left.readers.items (inside.reader ∷ []),
        c.push_reserved-in-Some.ensures.capacity,
      );
      room_ran = omega (
        arith,
        inv.room_ran,
        ap length last,
        fewer,
        ap length c.push_reserved-in-Some-2.ensures.items,
        length-append left.ran.items (inside.done ∷ []),
        c.push_reserved-in-Some-2.ensures.capacity,
      );
    }

pub returns-clause-passes : goal.returns-clause-passes
returns-clause-passes g c =
    let inv = c.loop-worker.invariant in
    let left = c.loop-worker.left.passes.items in
    let none : c.loop-worker.workers.items ≡ []
    = nil_from_length c.loop-worker.workers.items (omega (arith, c.in_default.ensures.cases.0, c.loop-worker.workers.ok.0)) in
    sym (inv.passes ∙ ap (λ (list : List Worker). left ++ map pass_of (reverse list)) none ∙ append-nil left)

pub returns-clause-readers : goal.returns-clause-readers
returns-clause-readers g c =
    let inv = c.loop-worker.invariant in
    let left = c.loop-worker.left.readers.items in
    let none : c.loop-worker.workers.items ≡ []
    = nil_from_length c.loop-worker.workers.items (omega (arith, c.in_default.ensures.cases.0, c.loop-worker.workers.ok.0)) in
    sym (inv.readers ∙ ap (λ (list : List Worker). left ++ map reader_of (reverse list)) none ∙ append-nil left)

pub returns-clause-ran : goal.returns-clause-ran
returns-clause-ran g c =
    let inv = c.loop-worker.invariant in
    let left = map items_of c.loop-worker.left.ran.items in
    let none : c.loop-worker.workers.items ≡ []
    = nil_from_length c.loop-worker.workers.items (omega (arith, c.in_default.ensures.cases.0, c.loop-worker.workers.ok.0)) in
    sym (inv.ran ∙ ap (λ (list : List Worker). left ++ map done_of (reverse list)) none ∙ append-nil left)

pub returns-clause-memory : goal.returns-clause-memory
returns-clause-memory g c =
    let inv = c.loop-worker.invariant in
    let none : c.loop-worker.workers.items ≡ []
    = nil_from_length c.loop-worker.workers.items (omega (arith, c.in_default.ensures.cases.0, c.loop-worker.workers.ok.0)) in
    sym (inv.memory ∙ ap (λ (list : List Worker). c.loop-worker.short || list_any short_of (reverse list)) none ∙ or_none c.loop-worker.short)
