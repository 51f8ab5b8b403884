-- What the readings and texts of records give where a wrong test or kind would give something else: a limit of zero, an octet after the last field, and a change that was
-- written as the other one.
use Rattle.std.proofs.Common.{◌≡◌, ℕ, ◌+◌, List, [], ◌∷◌, ◌++◌, replicate, drop, get_or, Ok, Err, ap, refl, arith}
use Rattle.group_terms.specs.declared.changes.Change.{Change}
use Rattle.group_terms.specs.declared.changes.Change.TheVariants.{In, Out}
use Rattle.group_terms.specs.declared.wires.WireWhat.TheVariants.{Length, Value}
use Rattle.gd_wire.specs.Faults.{fault_at}
use Rattle.gd_wire.specs.Readings.{due_octet, end, from_start, long_number, number, octet, part, value_of}
use Rattle.gd_wire.specs.Readings as fields
use Rattle.group_records.specs.Readings.{batch_record, group_name, head_record, name_size, traffic}
use Rattle.group_records.specs.Texts.{change_text}

-- the head of a group with this limit, and of one with octets after its name
spi : List ℕ
spi = replicate 16 7

head_with : ℕ → List ℕ → List ℕ
head_with limit rest = 0 ∷ 1 ∷ 4 ∷ (spi ++ (0 ∷ 0 ∷ 0 ∷ limit ∷ 1 ∷ 97 ∷ rest))

limit_of_zero : (base : ℕ) → value_of (head_record (from_start base (head_with 0 []))) ≡ Err (fault_at Value (base + 19))
unfolding spi head_with head_record group_name name_size due_octet end long_number number octet fields.octets part
limit_of_zero base = refl

limit_of_one : (base : ℕ)
    → value_of (head_record (from_start base (head_with 1 []))) ≡ Ok (record { depth = 4; name = 97 ∷ []; spi = replicate 16 7; limit = 1 })
unfolding spi head_with head_record group_name name_size due_octet end long_number number octet fields.octets part
limit_of_one base = refl

octet_after_a_head : (base : ℕ) → value_of (head_record (from_start base (head_with 1 (0 ∷ [])))) ≡ Err (fault_at Length (base + 25))
unfolding spi head_with head_record group_name name_size due_octet end long_number number octet fields.octets part
octet_after_a_head base = refl

-- a batch without a change, which made the traffic key alone, and octets after that
batch_with : List ℕ → List ℕ
batch_with rest =
    1 ∷ 1 ∷ 0 ∷ 0 ∷ 0 ∷ 2 ∷ 0 ∷ 0 ∷ 0 ∷ 3 ∷ 0 ∷ 0 ∷ 0 ∷ (replicate 16 5 ++ (replicate 32 6 ++ (128 ∷ 0 ∷ 0 ∷ 9 ∷ rest)))

whole_batch : (base : ℕ)
    → value_of (batch_record (from_start base (batch_with [])))
    ≡ Ok (record {
      batch = [];
      epoch = 2;
      sequence = 3;
      values = record {
        nodes = [];
        traffic = record { cipher_key = replicate 16 5; integrity_key = replicate 32 6; spi = 128 ∷ 0 ∷ 0 ∷ 9 ∷ [] };
      };
    })
unfolding batch_with batch_record traffic due_octet end long_number number octet fields.octets part
whole_batch base = refl

octet_after_a_batch : (base : ℕ) → value_of (batch_record (from_start base (batch_with (0 ∷ [])))) ≡ Err (fault_at Length (base + 65))
unfolding batch_with batch_record traffic due_octet end long_number number octet fields.octets part
octet_after_a_batch base = refl

-- changes with one text are one change
one_text_one_change : (one other : Change) → change_text one ≡ change_text other → one ≡ other
one_text_one_change (Out member) (Out other) same = ap (λ text. Out (drop 2 text)) same
one_text_one_change (In member) (In other) same = ap (λ text. In (drop 2 text)) same
one_text_one_change (Out member) (In other) same =
    let kind : 0 ≡ 1 = ap (λ text. get_or text 0 0) same in
    absurd (omega (arith, kind))
one_text_one_change (In member) (Out other) same =
    let kind : 1 ≡ 0 = ap (λ text. get_or text 0 0) same in
    absurd (omega (arith, kind))
