-- Fields that were read, and fields that were written.
-- `nested` (ReadingLemmas) moves a block within a block out, so what is known of a whole header is one `let` for each line of its block. `octets_written`,
-- `number_written`: `rw` with one for each line of a block, and one for each test, ends in `refl`.
use Rattle.std.proofs.Common.{◌≡◌, ℕ, ◌+◌, ◌<◌, ◌≤◌, true, List, [], ◌∷◌, ◌++◌, length, take, drop, leb, slice_index_or, Ok, refl, sym, ap}
use Rattle.std.proofs.Common.{◌∙◌, subst, map, length-append, arith}
use Rattle.std.specs.Prelude.{◌==◌}
use Rattle.std.specs.List.{list_any, range_with_len}
use Rattle.std.proofs.lemmas.Bool.{leb-true, le-leb, eqb-true}
use Rattle.std.proofs.lemmas.Bool.Decides.{nat_tests}
use Rattle.std.proofs.lemmas.List.{take_at, drop_at}
use Rattle.std.proofs.lemmas.List.FromFn.{fill_by_all}
use Rattle.std.proofs.lemmas.List.Elements.{All-head, All-take, All-drop}
use Rattle.byteorder.specs.Endian.{big_from, big_bytes}
use Rattle.byteorder.specs.Numbers.{big_number-reads_back}
use Rattle.group_terms.specs.Octets.{IsOctet, AreOctets}
use Rattle.group_terms.specs.declared.wires.WireWhat.{WireWhat}
use Rattle.group_terms.specs.declared.wires.WireWhat.TheVariants.{Short}
use Rattle.gd_wire.specs.Readings.{Cursor, Reading, and_then, after, part, octets, octet_at, octet, number, long_number, due_octet}
use Rattle.gd_wire.specs.Readings.{due_kind}
use Rattle.gd_wire.proofs.NumberLemmas.{big_bytes-big_from}
use Rattle.gd_wire.proofs.ReadingLemmas.{nested, check_ok, checked_ok, there_ok, same_value}

-- ---- what was read: it is there, and reading goes on with it

pub part_then : {B : Type 0} (size : ℕ) (what : WireWhat) (at : ℕ) (cursor : Cursor) (next : Cursor → Reading B) (all : B × Cursor)
    → and_then (part size what at cursor) next ≡ Ok all
    → (size ≤ length cursor.left) × (next (record { base = cursor.base; at = cursor.at; left = take size cursor.left }) (after size cursor)
    ≡ Ok all)
unfolding part
part_then size what at cursor next all e = let there = there_ok (leb size (length cursor.left)) _ _ next all e in
    (leb-true size (length cursor.left) there.0, there.1)

pub octets_then : {B : Type 0} (size : ℕ) (cursor : Cursor) (next : List ℕ → Reading B) (all : B × Cursor)
    → and_then (octets size cursor) next ≡ Ok all
    → (size ≤ length cursor.left) × (next (take size cursor.left) (after size cursor) ≡ Ok all)
unfolding octets
octets_then size cursor next all e = part_then size Short (cursor.base + cursor.at) cursor (λ field. next field.left) all
    (sym (nested (part size Short (cursor.base + cursor.at) cursor) _ next) ∙ e)

pub octet_then : {B : Type 0} (cursor : Cursor) (next : ℕ → Reading B) (all : B × Cursor) → and_then (octet cursor) next ≡ Ok all
    → (1 ≤ length cursor.left) × (next (slice_index_or (take 1 cursor.left) 0 0) (after 1 cursor) ≡ Ok all)
unfolding octet
octet_then cursor next all e = octets_then 1 cursor _ all (sym (nested (octets 1 cursor) _ next) ∙ e)

pub number_then : {B : Type 0} (cursor : Cursor) (next : ℕ → Reading B) (all : B × Cursor) → and_then (number cursor) next ≡ Ok all
    → (2 ≤ length cursor.left) × (next (big_from 0 2 (take 2 cursor.left)) (after 2 cursor) ≡ Ok all)
unfolding number
number_then cursor next all e = octets_then 2 cursor _ all (sym (nested (octets 2 cursor) _ next) ∙ e)

pub long_number_then : {B : Type 0} (cursor : Cursor) (next : ℕ → Reading B) (all : B × Cursor)
    → and_then (long_number cursor) next ≡ Ok all
    → (4 ≤ length cursor.left) × (next (big_from 0 4 (take 4 cursor.left)) (after 4 cursor) ≡ Ok all)
unfolding long_number
long_number_then cursor next all e = octets_then 4 cursor _ all (sym (nested (octets 4 cursor) _ next) ∙ e)

pub due_octet_then : {B : Type 0} (due : ℕ) (what : WireWhat) (cursor : Cursor) (next : Unit {0} → Reading B) (all : B × Cursor)
    → and_then (due_octet due what cursor) next ≡ Ok all
    → (1 ≤ length cursor.left) × (slice_index_or (take 1 cursor.left) 0 0 ≡ due) × (next tt (after 1 cursor) ≡ Ok all)
unfolding due_octet
due_octet_then due what cursor next all e =
    let found = octet_then cursor _ all (sym (nested (octet cursor) _ next) ∙ e) in
    let value : ℕ = slice_index_or (take 1 cursor.left) 0 0 in
    let same = check_ok (value == due) _ _ _ next all found.1 in
    (found.0, eqb-true value due same.0, same.1)

-- one kind alone was due
pub due_kind_then : {B : Type 0} (due : ℕ) (cursor : Cursor) (next : ℕ → Reading B) (all : B × Cursor)
    → and_then (due_kind (due ∷ []) cursor) next ≡ Ok all
    → (let kind : ℕ = slice_index_or (take 1 cursor.left) 0 0 in (1 ≤ length cursor.left) × (kind ≡ due) ×
    (next kind (after 1 cursor) ≡ Ok all))
unfolding due_kind
due_kind_then due cursor next all e =
    let kind : ℕ = slice_index_or (take 1 cursor.left) 0 0 in
    let found = octet_then cursor _ all (sym (nested (octet cursor) _ next) ∙ e) in
    let same = checked_ok (list_any (λ due. due == kind) (due ∷ [])) _ _ kind (after 1 cursor) next all found.1 in
    let is : list_any (λ due. due == kind) (due ∷ []) ≡ true = same.0 in
    (found.0, grind (arith, nat_tests), same.1)

pub part_octets : (size : ℕ) (what : WireWhat) (at : ℕ) (cursor field now : Cursor) → AreOctets cursor.left
    → part size what at cursor ≡ Ok (field, now) → AreOctets field.left × AreOctets now.left
part_octets size what at cursor field now small e =
    let P : Cursor × Cursor → Type 0 = λ read. AreOctets read.0.left × AreOctets read.1.left in
    let found = part_then size what at cursor (λ field now. Ok (field, now)) (field, now)
    (ap (λ result. and_then result (λ field now. Ok (field, now))) e) in
    subst P (same_value _ _ found.1) (All-take IsOctet size cursor.left small, All-drop IsOctet size cursor.left small)

-- the octets of a number that was read
pub number_text : (left : List ℕ) → AreOctets left → 2 ≤ length left → left ≡ big_bytes 2 (big_from 0 2 (take 2 left)) ++ drop 2 left
number_text [] small within = absurd (omega arith)
number_text (high ∷ []) small within = absurd (omega arith)
number_text (high ∷ low ∷ rest) small within = λ i. sym (big_bytes-big_from 2 0 (high ∷ low ∷ rest) small within) i ++ rest

pub long_number_text : (left : List ℕ) → AreOctets left → 4 ≤ length left → left ≡ big_bytes 4 (big_from 0 4 (take 4 left)) ++ drop 4 left
long_number_text [] small within = absurd (omega arith)
long_number_text (a ∷ []) small within = absurd (omega arith)
long_number_text (a ∷ b ∷ []) small within = absurd (omega arith)
long_number_text (a ∷ b ∷ c ∷ []) small within = absurd (omega arith)
long_number_text (a ∷ b ∷ c ∷ d ∷ rest) small within = λ i. sym (big_bytes-big_from 4 0 (a ∷ b ∷ c ∷ d ∷ rest) small within) i ++ rest

pub octet_text : (left : List ℕ) → 1 ≤ length left → left ≡ slice_index_or (take 1 left) 0 0 ∷ drop 1 left
octet_text [] within = absurd (omega arith)
octet_text (value ∷ rest) within = refl

pub first_small : (left : List ℕ) → AreOctets left → 1 ≤ length left → slice_index_or (take 1 left) 0 0 < 256
first_small [] small within = absurd (omega arith)
first_small (value ∷ rest) small within = All-head IsOctet value rest small

-- ---- what was written

pub octets_written : (size base at : ℕ) (field later : List ℕ) → size ≡ length field
    → octets size (record { base = base; at = at; left = field ++ later })
    ≡ Ok (field, record { base = base; at = at + size; left = later })
unfolding octets part
octets_written size base at field later same =
    let there = le-leb size (length (field ++ later)) (omega (arith, length-append field later)) in
    rw (there, take_at field later size (sym same), drop_at field later size (sym same)) refl

pub octet_written : (base at value : ℕ) (later : List ℕ)
    → octet (record { base = base; at = at; left = value ∷ later }) ≡ Ok (value, record { base = base; at = at + 1; left = later })
unfolding octet octets part
octet_written base at value later = rw (le-leb 1 (length (value ∷ later)) (omega arith)) refl

pub number_written : (base at value : ℕ) (later : List ℕ) → value < 65536
    → number (record { base = base; at = at; left = big_bytes 2 value ++ later })
    ≡ Ok (value, record { base = base; at = at + 2; left = later })
unfolding number octets part
number_written base at value later small =
    rw (le-leb 2 (length (big_bytes 2 value ++ later)) (omega arith), big_number-reads_back 2 value [] small) refl

pub long_number_written : (base at value : ℕ) (later : List ℕ) → value < 4294967296
    → long_number (record { base = base; at = at; left = big_bytes 4 value ++ later })
    ≡ Ok (value, record { base = base; at = at + 4; left = later })
unfolding long_number octets part
long_number_written base at value later small =
    rw (le-leb 4 (length (big_bytes 4 value ++ later)) (omega arith), big_number-reads_back 4 value [] small) refl

-- octets of a known length are their octets, one by one
pub written_out : (size : ℕ) (octets : List ℕ) → length octets ≡ size → map (octet_at octets) (range_with_len 0 size) ≡ octets
written_out size octets long = sym (fill_by_all (octet_at octets) octets size 0 long (λ k within. refl))
