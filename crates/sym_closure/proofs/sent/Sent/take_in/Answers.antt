use Rattle.std.proofs.Common.{◌≡◌, ◌+◌, ◌≤◌, ◌<◌, ◌++◌, List, map, length, take, drop, get_or, refl, sym, ap, ◌∙◌, subst, arith}
use Rattle.std.proofs.lemmas.List.{length-drop, take_all}
use Rattle.group_terms.specs.declared.keys.Wrap.{Wrap}
use Rattle.group_model.specs.declared.entries.Entry.{Entry}
use Rattle.group_model.specs.Derivations.{pairs_sent}
use Rattle.sym_closure.specs.Firsts.{HasSame}
use Rattle.sym_closure.specs.Knowledge.{Known}
use Rattle.sym_closure.specs.Private.Graphs.{pairs_of, turned}
use Rattle.sym_closure.proofs.KnowledgeLemmas.{takes_in}
use Rattle.sym_closure.proofs.sent.Sent.take_in.Goals as goal

pub loop-entry-init : goal.loop-entry-init
loop-entry-init c =
    let history = c.args.history.now in
    let count = c.args.self.now.count in
    let none : count ≡ count + 0 = omega arith in
    let pairs : c.args.self.now.pairs ≡ map turned (pairs_of c.self.inside.graph) =
    ap (λ (known : Known). known.pairs) (sym c.self.view_is) in
    subst (HasSame (pairs_sent (take (count + 0) history))) pairs
    (subst (λ n. HasSame (pairs_sent (take n history)) c.args.self.now.pairs) none c.requires.sent)

pub loop-entry-preserved : goal.loop-entry-preserved
loop-entry-preserved c =
    let history = c.args.history.now in
    let count = c.args.self.now.count in
    let place = c.loop-entry.entry-index in
    let entry = c.entry-item.result in
    let old = pairs_of c.loop-entry.self-inside.graph in
    let new = pairs_of c.add_turned.new.graph in
    let later : c.split_at.result.1.now ≡ drop count history = c.split_at.ensures.back
    ∙ ap (λ (known : Known). drop known.count history) c.self.view_is in
    let L : List Entry → Type 0 = λ all. place < length all in
    let I : List Entry → Type 0 = λ all. entry ≡ get_or all place entry in
    let P : List Wrap → Type 0 = λ pairs. HasSame (old ++ map turned pairs) new in
    takes_in history count place entry (subst L later c.loop-entry-test.true) (subst I later c.entry-item.is) old new c.loop-entry.invariant
    (subst P (c.as_slice-in-loop-entry.ensures ∙ c.in_ok-pairs_in.ensures) c.in_ok-add_turned.ensures)

pub returns : goal.returns
returns c =
    let history = c.args.history.now in
    let count = c.args.self.now.count in
    let place = c.loop-entry.entry-index in
    let pairs = map turned (pairs_of c.loop-entry.self-inside.graph) in
    let later : c.split_at.result.1.now ≡ drop count history = c.split_at.ensures.back
    ∙ ap (λ (known : Known). drop known.count history) c.self.view_is in
    let end : length (drop count history) ≤ place = (let L : List Entry
    → Type 0 = λ all. length all ≤ place in subst L later c.loop-entry-test.false) in
    let past : length history ≤ count + place = omega (arith, end, length-drop count history, c.requires.begun) in
    let front : take (count + place) history ≡ take (length history) history = take_all (count + place) history past
    ∙ sym (take_all (length history) history (omega arith)) in
    record {
      knows = record { begun = omega arith; sent = subst (λ all. HasSame (pairs_sent all) pairs) front c.loop-entry.invariant };
      whole = refl;
    }
