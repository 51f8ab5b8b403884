use Rattle.std.proofs.Common.{◌≡◌, ◌+◌, ◌-◌, Ok, ap, sym, ◌∙◌, arith}
use Rattle.std.specs.Prelude.{◌||◌}
use Rattle.gd_wire.specs.Readings.{mapped}
use Rattle.kd_wire.specs.declared.arrays.Found.{Found}
use Rattle.kd_wire.specs.Arrays.{next_update, more_updates}
use Rattle.kd_wire.specs.Private.Seen.{found_after}
use Rattle.gd_wire.proofs.ReadingLemmas.{one_less}
use Rattle.kd_wire.proofs.LoopLemmas.{some_seen, with_array, update_step}
use Rattle.kd_wire.proofs.arrays.more_updates.Goals as goal

pub loop-preserved : goal.loop-preserved
loop-preserved c =
    let old = c.loop.found in
    let next = c.in-Some.next in
    let after = c.next_update.new.text in
    let more = c.args.most - (c.loop.counter + 1) in
    let seen = some_seen c.loop.handle (next_update c.loop.handle c.loop.text) next after
    (c.in_ok-next.ensures ∙ ap (λ found. Ok (found, after)) c.in-Some.is) in
    let found : c.with-found.result ≡ with_array old next.array after.at =
    c.with-found.ensures ∙ (λ i. record {
      has_root = old.has_root || (sym seen.1 i).has_root;
      end = c.place.ensures i;
      arrays =
          old.arrays + 1;
    }) in
    let step = update_step old (c.args.most - c.loop.counter) more c.loop.handle c.loop.text after next.array
    (one_less c.args.most c.loop.counter c.loop-test.true) seen.0 in
    record {
      same = (λ i. mapped (found_after (found i)) (more_updates more (sym seen.1 i).handle after)) ∙ step ∙ c.loop.invariant.same;
      arrays = ap (λ (found : Found). found.arrays) c.with-found.ensures ∙ omega (arith, c.loop.invariant.arrays);
    }
