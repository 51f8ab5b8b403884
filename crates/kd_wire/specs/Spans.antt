-- The arrays of a span, one after the other.
use Rattle.std.specs.Prelude.{ℕ, zero, suc, ◌-◌, ◌&&◌, nat_le, Bool, List, [], ◌∷◌, length, take, drop, Option, None, Some, if◌then◌else◌}
use Rattle.gd_wire.specs.Readings.{Cursor, from_start}
use Rattle.kd_wire.specs.declared.spans.UpdateSpan.{UpdateSpan}
use Rattle.kd_wire.specs.declared.updates.UpdateArray.{UpdateArray}
use Rattle.kd_wire.specs.Arrays.{next_update}
use Rattle.kd_wire.specs.Seals.{handle_after, read_or_none}

-- the list that begins with what was found, or an empty one where nothing was
abbrev pub found_or_none : {A B : Type 0} → Option A → (A → List B) → List B
found_or_none None more = []
found_or_none (Some found) more = more found

-- the arrays that are read from here on, up to the end or the first fault; the number is the most
abbrev pub arrays_left : ℕ → Option ℕ → Cursor → List UpdateArray
arrays_left zero handle cursor = []
arrays_left (suc more) handle cursor =
    read_or_none (next_update handle cursor)
    (λ next after. found_or_none next (λ array. array ∷ arrays_left more (handle_after handle array.keys) after))

module _ (span : UpdateSpan) (body : List ℕ) where
  -- whether a span lies in a body, and its length has 32 bits
  abbrev pub stays : Bool
  stays = nat_le span.start span.end && (nat_le span.end (length body) && nat_le (span.end - span.start) 4294967295)

  -- the octets of a span; those of one that leads out of the body are none
  abbrev pub span_text : List ℕ
  span_text = if stays then take (span.end - span.start) (drop span.start body) else []

  -- its arrays
  abbrev pub span_arrays : List UpdateArray
  span_arrays = arrays_left span.arrays None (from_start 0 span_text)
