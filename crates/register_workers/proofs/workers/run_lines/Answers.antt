use Rattle.std.proofs.Common.{◌∙◌, [], ◌∷◌, ◌++◌, length, reverse, Some, append_assoc, ap, arith, refl, rules, sym, subst}
use Rattle.std.proofs.lemmas.List.{append-nil, length-append, nil_from_length, reverse-append}
use Rattle.std.proofs.lemmas.List.Elements.{All-pop}
use Rattle.register_workers.specs.Lines.{IsReady}
use Rattle.register_workers.specs.Workers.{RanAll}
use Rattle.register_workers.proofs.LineLemmas.{one_more}
use Rattle.register_workers.proofs.workers.run_lines.Goals as goal

pub loop-line-init : goal.loop-line-init
loop-line-init g c = record {
  own = c.requires.own;
  turns = omega (arith, ap length c.requires.fresh.0, c.requires.turns);
  ready = c.requires.ready;
  room = c.requires.room;
  lines = [];
  are = refl;
  ran = (c.requires.fresh.0, c.requires.fresh.1, refl);
}

pub run_line-short-requires-clause-own : goal.run_line-short-requires-clause-own
run_line-short-requires-clause-own g c = search (rules, c.loop-line.invariant.own)

pub run_line-short-requires-clause-room : goal.run_line-short-requires-clause-room
run_line-short-requires-clause-room g c =
    omega (arith, c.loop-line.invariant.turns, ap length c.in-Some.ensures.items, length-append c.pop.new.self.items (c.in-Some.line ∷ []))

pub run_line-short-requires-clause-ready : goal.run_line-short-requires-clause-ready
run_line-short-requires-clause-ready g c =
    let parts = All-pop IsReady c.loop-line.due.items c.pop.new.self.items (Some c.in-Some.line) c.in-Some.ensures.items c.loop-line.invariant.ready in
    let ready : IsReady c.in-Some.line = parts.1 in search (rules, ready)

pub push_reserved-requires : goal.push_reserved-requires
push_reserved-requires g c = omega (arith, c.loop-line.invariant.room, c.in-Some.ensures.cases)

pub loop-line-smaller : goal.loop-line-smaller
loop-line-smaller g c = omega (arith, ap length c.in-Some.ensures.items, length-append c.pop.new.self.items (c.in-Some.line ∷ []))

pub loop-line-preserved : goal.loop-line-preserved
loop-line-preserved g c =
    let inv = c.loop-line.invariant in
    let line = c.in-Some.line in
    let due = c.pop.new.self.items in
    let items = c.in-Some.ensures.items in
    let run = c.run_line-short.ensures in
    let put = c.push_reserved.ensures in
    record {
      own = (run.own ∙ inv.own.0, run.board ∙ inv.own.1);
      turns = omega (arith, inv.turns, run.few, ap length run.mine, length-append c.loop-line.pass.mine run.calls, ap length items, length-append due (line ∷ []));
      ready = (All-pop IsReady c.loop-line.due.items due (Some line) items inv.ready).0;
      room = omega (arith, inv.room, c.in-Some.ensures.cases, put.len, put.capacity);
      lines = inv.lines ++ line ∷ [];
      are = inv.are ∙ ap (λ list. inv.lines ++ list) (ap reverse items ∙ reverse-append due (line ∷ []))
          ∙ sym (append_assoc inv.lines (line ∷ []) (reverse due));
      ran = one_more (length c.args.floor.now.desk.now.terms.start) c.loop-line.memory c.run_line-short.result line c.run_line-short.new.line
          c.loop-line.pass c.run_line-short.new.pass c.loop-line.reader c.run_line-short.new.reader inv.lines c.args.reader.now.seen c.loop-line.done.items
          c.push_reserved.new.self.items inv.ran run put.items;
    }

pub returns-clause-ran : goal.returns-clause-ran
returns-clause-ran g c =
    let inv = c.loop-line.invariant in
    let none = nil_from_length c.loop-line.due.items (omega (arith, c.in_default.ensures.cases)) in
    subst (λ lines. RanAll (length c.args.floor.now.desk.now.terms.start) c.loop-line.pass.seen c.loop-line.reader.seen c.loop-line.memory lines
    c.args.reader.now.seen c.loop-line.pass.mine c.loop-line.done.items c.loop-line.reader.seen)
    (sym (inv.are ∙ ap (λ list. inv.lines ++ reverse list) none ∙ append-nil inv.lines)) inv.ran
