-- A text that is read as a value, wherever it is and whatever comes after it; and texts that are put together of such texts.
use Rattle.std.proofs.Common.{◌≡◌, ℕ, ◌+◌, ◌-◌, ◌<◌, Bool, true, List, [], ◌∷◌, ◌++◌, length, take, drop, Result, Ok, Err, refl, sym, ap}
use Rattle.std.proofs.Common.{◌∙◌, append_assoc, append-nil, length-append, arith}
use Rattle.std.specs.Prelude.{◌==◌, nat_le}
use Rattle.std.specs.List.{list_any}
use Rattle.std.proofs.lemmas.Bool.{le-leb}
use Rattle.std.proofs.lemmas.List.{take_at, drop_at}
use Rattle.byteorder.specs.Endian.{big_bytes}
use Rattle.group_terms.specs.declared.wires.WireFault.{WireFault}
use Rattle.group_terms.specs.declared.wires.WireWhat.{WireWhat}
use Rattle.group_terms.specs.declared.wires.WireWhat.TheVariants.{Short, Length, Reserved, Kind}
use Rattle.gd_wire.specs.Readings.{Cursor, Reading, and_then, ◌>>=◌, ◌>>◌, back_to, give, here, check, inside, part, octets, octet, number}
use Rattle.gd_wire.specs.Readings.{long_number, due_octet, due_number, due_kind, section}
use Rattle.gd_wire.specs.Attributes.{long_value}
use Rattle.gd_wire.proofs.FieldLemmas.{octets_written, octet_written, number_written, long_number_written}

abbrev pub cursor : ℕ → ℕ → List ℕ → Cursor
cursor base at left = record { base = base; at = at; left = left }

-- the reading takes just this text, and gives this value
pub record Reads {A : Type 0} (reading : Reading A) (text : List ℕ) (value : A) : Type 0 where
  pub reads : (base at : ℕ) (rest : List ℕ) → reading (cursor base at (text ++ rest)) ≡ Ok (value, cursor base (at + length text) rest)

-- it takes all of a text
pub record ReadsAll {A : Type 0} (reading : Reading A) (text : List ℕ) (value : A) : Type 0 where
  pub reads : (base at : ℕ) → reading (cursor base at text) ≡ Ok (value, cursor base (at + length text) [])

pub reads_all : {A : Type 0} (reading : Reading A) (text : List ℕ) (value : A) → Reads reading text value → ReadsAll reading text value
reads_all reading text value r = record {
  reads = λ base at. ap (λ left. reading (cursor base at left)) (sym (append-nil text))
      ∙ r.reads base at [];
}

-- ---- one after the other

module _ {A B : Type 0} (first : Reading A) where
  pub reads_then : (next : A → Reading B) (text later : List ℕ) (x : A) (y : B) → Reads first text x → Reads (next x) later y
      → Reads (first >>= next) (text ++ later) y
  reads_then next text later x y r s = record {
    reads = λ base at rest.
        let place : at + length text + length later ≡ at + length (text ++ later) = omega (arith, length-append text later) in
        ap (λ left. (first >>= next) (cursor base at left)) (append_assoc text later rest)
        ∙ ap (λ (read : Result (A × Cursor) WireFault). and_then read next) (r.reads base at (later ++ rest))
        ∙ s.reads base (at + length text) rest
        ∙ ap (λ at. Ok (y, cursor base at rest)) place;
  }

  pub reads_next : (next : Reading B) (text later : List ℕ) (x : A) (y : B) → Reads first text x → Reads next later y
      → Reads (first >> next) (text ++ later) y
  reads_next next text later x y r s = reads_then (λ done. next) text later x y r s

  -- and a value that is made of what was read
  pub reads_made : (make : A → B) (text : List ℕ) (x : A) → Reads first text x → Reads (first >>= λ x. give (make x)) text (make x)
  reads_made make text x r = record {
    reads = λ base at rest. ap (λ (read : Result (A × Cursor) WireFault). and_then read (λ x. give (make x))) (r.reads base at rest);
  }

pub and_assoc : {A B C : Type 0} (read : Result (A × Cursor) WireFault) (next : A → Reading B) (more : B → Reading C)
    → and_then (and_then read next) more ≡ and_then read (λ (x : A). next x >>= more)
and_assoc (Ok read) next more = refl
and_assoc (Err fault) next more = refl

-- a reading that is itself put together
pub reads_assoc : {A B C : Type 0} (first : Reading A) (next : A → Reading B) (more : B → Reading C) (text : List ℕ) (value : C)
    → Reads (first >>= λ x. next x >>= more) text value → Reads (first >>= next >>= more) text value
reads_assoc first next more text value r = record {
  reads = λ base at rest. and_assoc (first (cursor base at (text ++ rest))) next more ∙ r.reads base at rest;
}

pub reads_here : {A : Type 0} (next : ℕ → Reading A) (text : List ℕ) (value : A) → ((at : ℕ) → Reads (next at) text value)
    → Reads (here >>= next) text value
reads_here next text value r = record { reads = λ base at rest. (r (base + at)).reads base at rest }

pub reads_check : {A : Type 0} (holds : Bool) (what : WireWhat) (at : ℕ) (next : Reading A) (text : List ℕ) (value : A) → holds ≡ true
    → Reads next text value
    → Reads (check holds what at >> next) text value
reads_check holds what at next text value true_ r = rw true_ r

-- ---- what takes nothing

pub reads_give : {A : Type 0} (value given : A) → value ≡ given → Reads (give value) [] given
reads_give value given same = record {
  reads = λ base at rest. let place : at ≡ at + 0 = omega arith in λ i. Ok (same i, cursor base (place i) rest);
}

-- a test that holds
pub reads_nothing : (holds : Bool) (what : WireWhat) (at : ℕ) → holds ≡ true → Reads (check holds what at) [] tt
reads_nothing holds what at true_ = rw true_ (reads_give tt tt refl)

-- ---- fields

pub reads_octets : (size : ℕ) (text : List ℕ) → length text ≡ size → Reads (octets size) text text
reads_octets size text long = record {
  reads = λ base at rest. octets_written size base at text rest (sym long) ∙ ap (λ size. Ok (text, cursor base (at + size) rest)) (sym long);
}

pub reads_octet : (value : ℕ) → Reads octet (value ∷ []) value
reads_octet value = record { reads = λ base at rest. octet_written base at value rest }

pub reads_number : (value : ℕ) → value < 65536 → Reads number (big_bytes 2 value) value
reads_number value small = record { reads = λ base at rest. number_written base at value rest small }

pub reads_long_number : (value : ℕ) → value < 4294967296 → Reads long_number (big_bytes 4 value) value
reads_long_number value small = record { reads = λ base at rest. long_number_written base at value rest small }

pub reads_due_octet : (value : ℕ) (what : WireWhat) → (value == value) ≡ true → Reads (due_octet value what) (value ∷ []) tt
unfolding due_octet
reads_due_octet value what same =
    reads_here (λ at. octet >>= λ read. check (read == value) what at) (value ∷ []) tt
    (λ at. reads_then octet (λ read. check (read == value) what at) (value ∷ []) [] value tt (reads_octet value)
    (reads_nothing (value == value) what at same))

pub reads_due_number : (value : ℕ) (what : WireWhat) → value < 65536 → (value == value) ≡ true
    → Reads (due_number value what) (big_bytes 2 value) tt
unfolding due_number
reads_due_number value what small same =
    reads_here (λ at. number >>= λ read. check (read == value) what at) (big_bytes 2 value) tt
    (λ at. reads_then number (λ read. check (read == value) what at) (big_bytes 2 value) [] value tt (reads_number value small)
    (reads_nothing (value == value) what at same))

-- ---- a value of its own

-- its octets
pub part_read : (text : List ℕ) (what : WireWhat) (fault_at base at : ℕ) (rest : List ℕ)
    → part (length text) what fault_at (cursor base at (text ++ rest)) ≡ Ok (cursor base at text, cursor base (at + length text) rest)
unfolding part
part_read text what fault_at base at rest =
    let within : nat_le (length text) (length (text ++ rest)) ≡ true = le-leb (length text) (length (text ++ rest))
    (omega (arith, length-append text rest)) in
    let field : take (length text) (text ++ rest) ≡ text = take_at text rest (length text) refl in
    let left : drop (length text) (text ++ rest) ≡ rest = drop_at text rest (length text) refl in
    rw within (λ i. Ok (cursor base at (field i), cursor base (at + length text) (left i)))

-- they are read by this reading, up to their end
reads_part : {A : Type 0} (reading : Reading A) (text : List ℕ) (value : A) (what : WireWhat) (fault_at : ℕ) → ReadsAll reading text value
    → Reads (part (length text) what fault_at >>= λ field. inside field reading) text value
reads_part reading text value what fault_at all = record {
  reads = λ base at rest.
      ap (λ (read : Result (Cursor × Cursor) WireFault). and_then read (λ (field : Cursor). inside field reading))
      (part_read text what fault_at base at rest)
      ∙ ap (back_to (cursor base (at + length text) rest)) (all.reads base at);
}

-- its size in 2 octets, and then it
pub reads_inside : {A : Type 0} (reading : Reading A) (text : List ℕ) (value : A) → length text < 65536 → ReadsAll reading text value
    → Reads (long_value >>= λ field. inside field reading) (big_bytes 2 (length text) ++ text) value
unfolding long_value
reads_inside reading text value small all =
    reads_assoc number (λ size. here >>= λ at. part size Short at) (λ field. inside field reading) (big_bytes 2 (length text) ++ text) value
    (
    reads_then number (λ size. here >>= λ at. part size Short at >>= λ field. inside field reading) (big_bytes 2 (length text)) text
    (length text) value
    (reads_number (length text) small)
    (reads_here (λ at. part (length text) Short at >>= λ field. inside field reading) text value
    (λ at. reads_part reading text value Short at all))
    )

add_each : (at : ℕ) → at + 1 + 1 + 2 ≡ at + 4
add_each at = omega arith

-- a section of a body
pub section_read : (kinds : List ℕ) (kind : ℕ) (body : List ℕ) (base at : ℕ) (rest : List ℕ) → list_any (λ due. due == kind) kinds ≡ true
    → 4 + length body < 65536
    → section kinds (cursor base at (kind ∷ 0 ∷ big_bytes 2 (4 + length body) ++ (body ++ rest)))
    ≡ Ok ((kind, cursor base (at + 4) body), cursor base (at + 4 + length body) rest)
unfolding section due_kind
section_read kinds kind body base at rest due small =
    let size : ℕ = 4 + length body in
    let sized : List ℕ = big_bytes 2 size ++ (body ++ rest) in
    let least : nat_le 4 size ≡ true = le-leb 4 size (omega arith) in
    let whole : size - 4 ≡ length body = omega arith in
    let given : Cursor → Reading (ℕ × Cursor) = λ body. give (kind, body) in
    let after_size : ℕ → ℕ → Reading (ℕ × Cursor) = λ at size. check (nat_le 4 size) Length at >> (part (size - 4) Length at >>= given) in
    let after_kind : ℕ → Reading (ℕ × Cursor) = λ kind. due_octet 0 Reserved
    >> (here >>= λ at. number >>= λ size. check (nat_le 4 size) Length at
    >> (part (size - 4) Length at >>= λ body. give (kind, body))) in
    let kind_read = reads_here _ (kind ∷ []) kind (λ at.
    reads_then octet (λ kind. check (list_any (λ due. due == kind) kinds) (Kind kind) at >> give kind) (kind ∷ []) [] kind kind
    (reads_octet kind) (reads_check (list_any (λ due. due == kind) kinds) (Kind kind) at _ [] kind due (reads_give kind kind refl))) in
    ap (λ (read : Result (ℕ × Cursor) WireFault). and_then read after_kind) (kind_read.reads base at (0 ∷ sized))
    ∙ ap (λ (read : Result (Unit {0} × Cursor) WireFault). and_then read (λ done. here >>= λ at. number >>= after_size at))
    ((reads_due_octet 0 Reserved refl).reads base (at + 1) sized)
    ∙ ap (λ (read : Result (ℕ × Cursor) WireFault). and_then read (after_size (base + (at + 1 + 1))))
    ((reads_number size small).reads base (at + 1 + 1) (body ++ rest))
    ∙ rw (least, whole) (
    ap (λ (read : Result (Cursor × Cursor) WireFault). and_then read given)
    (part_read body Length (base + (at + 1 + 1)) base (at + 1 + 1 + 2) rest)
    ∙ (let place : at + 1 + 1 + 2 ≡ at + 4 = add_each at in ap (λ place. Ok
    ((kind, cursor base place body), cursor base (place + length body) rest)) place))
