use Rattle.std.proofs.Common.{◌≡◌, ◌+◌, ◌∷◌, [], ◌++◌, take, sym, ap, ◌∙◌, subst}
use Rattle.std.specs.Prelude.{All, Contains}
use Rattle.std.proofs.lemmas.List.{take_more, take_all}
use Rattle.std.proofs.lemmas.List.Elements.{All-nil, All-push, All-weaker, Contains-append_left, Contains-get_or}
use Rattle.group_terms.specs.declared.keys.KeyName.TheVariants.{Traffic}
use Rattle.sym_closure.specs.Private.Graphs.{pairs_of}
use Rattle.sym_closure.proofs.FirstLemmas.{HasSame-itself, HasSame-trans}
use Rattle.sym_closure.proofs.graphs.KeyGraph.add_keys.Goals as goal

pub loop-key-init : goal.loop-key-init
loop-key-init c = record { pairs = HasSame-itself (pairs_of c.args.self.now); there = All-nil (Contains c.args.self.now.keys) }

pub loop-key-preserved : goal.loop-key-preserved
loop-key-preserved c =
    let keys = c.args.keys.now in
    let place = c.loop-key.key-index in
    let key = c.key-item.result in
    let old = c.loop-key.self in
    let new = c.add_key.new.self in
    let more = c.in_ok-add_key.ensures.grown.keys in
    let number = c.in_ok-add_key.ensures.number in
    let still = All-weaker (Contains old.keys) (Contains new.keys)
    (λ name there. subst (λ all. Contains all name) (sym more.1) (Contains-append_left old.keys more.0 name there)) (take place keys)
    c.loop-key.invariant.there in
    let front : take place keys ++ key ∷ [] ≡ take (place + 1) keys = ap (λ one. take place keys ++ one ∷ []) c.key-item.is
    ∙ sym (take_more keys place key c.loop-key-test.true) in
    record {
      pairs = HasSame-trans (pairs_of c.args.self.now) (pairs_of old) (pairs_of new) c.loop-key.invariant.pairs
          c.in_ok-add_key.ensures.grown.pairs;
      there = subst (All (Contains new.keys)) front (All-push (Contains new.keys) (take place keys) key still
          (subst (Contains new.keys) number.1 (Contains-get_or new.keys c.in_ok-add_key.field-0 (Traffic 0) number.0)));
    }

pub returns-clause-pairs : goal.returns-clause-pairs
returns-clause-pairs c = c.loop-key.invariant.pairs

pub returns-clause-there : goal.returns-clause-there
returns-clause-there c = subst (All (Contains c.loop-key.self.keys)) (take_all c.loop-key.key-index c.args.keys.now c.loop-key-test.false)
    c.loop-key.invariant.there
