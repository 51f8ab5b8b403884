-- A span has the arrays that were read where it is.
use Rattle.std.proofs.Common.{◌≡◌, ℕ, zero, suc, ◌+◌, ◌-◌, ◌≤◌, true, List, [], ◌∷◌, ◌++◌, length, take, drop, Option, None, Some, Result}
use Rattle.std.proofs.Common.{Ok, if◌then◌else◌, refl, sym, ap, ◌∙◌, subst, append_assoc, append-nil, length-append, arith}
use Rattle.std.specs.Prelude.{◌&&◌, nat_le}
use Rattle.std.proofs.lemmas.Bool.{le-leb}
use Rattle.std.proofs.lemmas.List.{take_at, drop_at}
use Rattle.group_terms.specs.declared.wires.WireFault.{WireFault}
use Rattle.gd_wire.specs.Readings.{Cursor, Reading, ◌>>=◌, give, place, end, octets_left}
use Rattle.kd_wire.specs.declared.spans.UpdateSpan.{UpdateSpan}
use Rattle.kd_wire.specs.declared.updates.UpdateArray.{UpdateArray}
use Rattle.kd_wire.specs.Arrays.{signature_keys, update_attribute, next_update, PlacedArray, arrays_of, end_after, go_on, more_updates}
use Rattle.kd_wire.specs.Arrays.{PlacedUpdates, updates}
use Rattle.kd_wire.specs.Seals.{handle_after, read_or_none}
use Rattle.kd_wire.specs.Spans.{found_or_none, arrays_left, span_arrays}
use Rattle.gd_wire.proofs.ReadingLemmas.{same_value, and_then_ok}
use Rattle.gd_wire.proofs.ReadsLemmas.{cursor}
use Rattle.kd_wire.proofs.NextPlaces.{NextTook, next_took, first_took, keys_passed}

-- some arrays that were read are read again from their text
record ArraysTook (handle : Option ℕ) (c : Cursor) (placed : List PlacedArray) : Type 0 where
  text : List ℕ
  later : List ℕ
  left : c.left ≡ text ++ later
  end : end_after c.at placed ≡ c.at + length text
  again : (base at : ℕ) (rest : List ℕ) → arrays_left (length placed) handle (cursor base at (text ++ rest)) ≡ arrays_of placed

no_arrays : (handle : Option ℕ) (c : Cursor) (placed : List PlacedArray) → [] ≡ placed → ArraysTook handle c placed
no_arrays handle c placed none = subst (ArraysTook handle c) none (record
    { text = []; later = c.left; left = refl; end = omega arith; again = λ base at rest. refl })

abbrev array_first : ℕ → Option ℕ → Option UpdateArray → Cursor → List UpdateArray
array_first more handle next after = found_or_none next (λ array. array ∷ arrays_left more (handle_after handle array.keys) after)

-- one array, and then others
one_more : (handle : Option ℕ) (c mid : Cursor) (array : UpdateArray) (more : List PlacedArray) → NextTook handle c mid array
    → ArraysTook (handle_after handle array.keys) mid more
    → ArraysTook handle c (record { array = array; end = mid.at } ∷ more)
one_more handle c mid array more first others = record {
  text = first.text ++ others.text;
  later = others.later;
  left = first.passed.left ∙ ap (λ left. first.text ++ left) others.left ∙ sym (append_assoc first.text others.text others.later);
  end = others.end ∙ omega (arith, first.passed.at, length-append first.text others.text);
  again = λ base at rest.
      ap (λ left. arrays_left (suc (length more)) handle (cursor base at left)) (append_assoc first.text others.text rest)
      ∙ ap (λ (read : Result (Option UpdateArray × Cursor) WireFault). read_or_none read (array_first (length more) handle))
      (first.again base at (others.text ++ rest))
      ∙ ap (λ arrays. array ∷ arrays) (others.again base (at + length first.text) rest);
}

abbrev placed_next : ℕ → Option ℕ → ℕ → Option UpdateArray → Reading (List PlacedArray)
placed_next more handle at next = go_on next (λ array. more_updates more (handle_after handle array.keys)
    >>= λ arrays. give (record { array = array; end = at } ∷ arrays))

found_took : (more : ℕ) (handle : Option ℕ) (c mid after : Cursor) (next : Option UpdateArray) (placed : List PlacedArray)
    → next_update handle c ≡ Ok (next, mid)
    → placed_next more handle mid.at next mid ≡ Ok (placed, after)
    → ((handle : Option ℕ) (c after : Cursor) (placed : List PlacedArray) → more_updates more handle c ≡ Ok (placed, after)
    → ArraysTook handle c placed) → ArraysTook handle c placed
found_took more handle c mid after None placed is rest later = no_arrays handle c placed
    (ap (λ (read : List PlacedArray × Cursor). read.0) (same_value ([], mid) (placed, after) rest))
found_took more handle c mid after (Some array) placed is rest later =
    let read = and_then_ok (more_updates more (handle_after handle array.keys) mid)
    (λ (arrays : List PlacedArray). give (record { array = array; end = mid.at } ∷ arrays)) placed after rest in
    let others = later (handle_after handle array.keys) mid read.1 read.0 read.2 in
    subst (ArraysTook handle c) (ap (λ (read : List PlacedArray × Cursor). read.0)
    (same_value (record { array = array; end = mid.at } ∷ read.0, read.1) (placed, after) read.3))
    (one_more handle c mid array read.0 (next_took handle c mid array is) others)

more_took : (most : ℕ) (handle : Option ℕ) (c after : Cursor) (placed : List PlacedArray) → more_updates most handle c ≡ Ok (placed, after)
    → ArraysTook handle c placed
more_took zero handle c after placed is = no_arrays handle c placed (ap (λ (read : List PlacedArray × Cursor). read.0)
    (same_value ([], c) (placed, after) is))
more_took (suc more) handle c after placed is =
    let read = and_then_ok (next_update handle c) (λ (next : Option UpdateArray). place >>= λ end. placed_next more handle end next) placed
    after is in
    found_took more handle c read.1 after read.0 placed read.2 read.3 (more_took more)

-- ---- the arrays of a packet

pub record SpanTook (c : Cursor) (placed : PlacedUpdates) : Type 0 where
  pub before : List ℕ
  pub text : List ℕ
  pub later : List ℕ
  pub left : c.left ≡ before ++ (text ++ later)
  pub start : placed.span.start ≡ c.at + length before
  pub end : placed.span.end ≡ placed.span.start + length text
  pub again : (base at : ℕ) (rest : List ℕ) → arrays_left placed.span.arrays None (cursor base at (text ++ rest)) ≡ placed.arrays

abbrev placed_of : ℕ → UpdateArray → ℕ → List PlacedArray → PlacedUpdates
placed_of start first end more = record {
  arrays = first ∷ arrays_of more;
  span =
      record { start = start; end = end_after end more; arrays = suc (length more) };
}

pub updates_took : (c after : Cursor) (placed : PlacedUpdates) → updates c ≡ Ok (placed, after) → SpanTook c placed
unfolding updates
updates_took c after placed is =
    let to_more : ℕ → ℕ → UpdateArray → Reading PlacedUpdates = λ start most first. place
    >>= λ end. more_updates (most - 1) (handle_after None first.keys) >>= λ more. give (placed_of start first end more) in
    let keys = and_then_ok (signature_keys c) (λ (done : Unit {0}). place >>= λ start. octets_left >>= λ most. update_attribute None
    >>= to_more start most) placed after is in
    let mid = keys.1 in
    let passed = keys_passed c mid keys.0 keys.2 in
    let first = and_then_ok (update_attribute None mid) (to_more mid.at (length mid.left)) placed after keys.3 in
    let next = first.1 in
    let more = and_then_ok (more_updates (length mid.left - 1) (handle_after None first.0.keys) next)
    (λ (more : List PlacedArray). give (placed_of mid.at first.0 next.at more)) placed after first.3 in
    let others = more_took (length mid.left - 1) (handle_after None first.0.keys) next more.1 more.0 more.2 in
    let all = one_more None mid next first.0 more.0 (first_took None mid next first.0 first.2) others in
    subst (SpanTook c) (ap (λ (read : PlacedUpdates × Cursor). read.0) (same_value (placed_of mid.at first.0 next.at more.0, more.1)
    (placed, after) more.3)) (record {
      before = passed.0;
      text = all.text;
      later = all.later;
      left = passed.1.left ∙ ap (λ left. passed.0 ++ left) all.left;
      start = passed.1.at;
      end = all.end;
      again = all.again;
    })

-- ---- a span of a body

-- where the text of a span is in a body, its arrays are these
pub span_has : (body before text later : List ℕ) (span : UpdateSpan) (arrays : List UpdateArray) → length body ≤ 4294967295 → body ≡ before
    ++ (text ++ later)
    → span.start ≡ length before → span.end ≡ span.start + length text → arrays_left span.arrays None (cursor 0 0 (text ++ [])) ≡ arrays
    → span_arrays span body ≡ arrays
span_has body before text later span arrays small whole start end again =
    let long : length body ≡ length before + (length text + length later) =
    ap length whole ∙ length-append before (text ++ later) ∙ ap (λ size. length before + size) (length-append text later) in
    let rising : nat_le span.start span.end ≡ true = le-leb span.start span.end (omega (arith, end)) in
    let within : nat_le span.end (length body) ≡ true = le-leb span.end (length body) (omega (arith, start, end, long)) in
    let fits : nat_le (span.end - span.start) 4294967295 ≡ true = le-leb (span.end - span.start) 4294967295
    (omega (arith, start, end, long, small)) in
    let size : span.end - span.start ≡ length text = omega (arith, end) in
    let cut : take (span.end - span.start) (drop span.start body) ≡ text =
    (λ i. take (size i) (drop (start i) (whole i))) ∙ ap (take (length text)) (drop_at before (text ++ later) (length before) refl)
    ∙ take_at text later (length text) refl in
    let stays : (nat_le span.start span.end && (nat_le span.end (length body) && nat_le (span.end - span.start) 4294967295)) ≡ true =
    (λ i. rising i && (within i && fits i)) in
    ap (λ stays. arrays_left span.arrays None (cursor 0 0 (if stays then take (span.end - span.start) (drop span.start body) else [])))
    stays
    ∙ ap (λ text. arrays_left span.arrays None (cursor 0 0 text)) (cut ∙ sym (append-nil text))
    ∙ again
