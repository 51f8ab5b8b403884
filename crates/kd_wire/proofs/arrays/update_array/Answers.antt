use Rattle.std.proofs.Common.{ℕ, List, Result, Ok, ap, sym, ◌∙◌}
use Rattle.group_terms.specs.declared.wires.WireFault.{WireFault}
use Rattle.gd_wire.specs.Readings.{Cursor, ◌>>=◌, and_then, mapped, give}
use Rattle.kd_wire.specs.declared.updates.UpdateKey.{UpdateKey}
use Rattle.kd_wire.specs.Arrays.{sealer, update_array}
use Rattle.kd_wire.specs.Keys.{given_keys}
use Rattle.kd_wire.specs.Seals.{sealed_under, keys_left}
use Rattle.kd_wire.specs.Private.Seen.{with_seen}
use Rattle.kd_wire.proofs.LoopLemmas.{array_by, array_given}
use Rattle.kd_wire.proofs.arrays.update_array.Goals as goal

pub returns : goal.returns
unfolding update_array
returns c =
    let handle = c.args.handle in
    let count = c.in_ok-count.count in
    let by = c.in_ok-by.by in
    let made = c.in_ok-by.by_made in
    let keys = c.new-keys.ensures ∙ ap (λ cursor. sealed_under by made (keys_left count handle cursor)) c.again.ensures in
    ap (λ (r : Result (ℕ × Cursor) WireFault). mapped (with_seen handle)
    (and_then r (λ (count : ℕ). sealer >>= λ (by : ℕ × ℕ). given_keys count handle
    >>= λ (keys : List UpdateKey). give (array_by by.0 by.1 keys)))) c.in_ok-count.ensures.gives
    ∙ ap (λ (r : Result ((ℕ × ℕ) × Cursor) WireFault). mapped (with_seen handle)
    (and_then r (λ (by : ℕ × ℕ). given_keys count handle >>= λ (keys : List UpdateKey). give (array_by by.0 by.1 keys))))
    c.in_ok-by.ensures
    ∙ array_given count handle by made c.sealer.new.text c.given_keys.new.text c.in_ok-seen.seen c.in_ok-seen.ensures
    ∙ ap (λ keys. Ok (record { array = record { by = by; by_made = made; keys = keys }; seen = c.in_ok-seen.seen }, c.given_keys.new.text))
    (sym keys)
