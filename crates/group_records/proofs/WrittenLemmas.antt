-- Records that are written are read.
use Rattle.std.proofs.Common.{◌≡◌, ◌∙◌, ℕ, suc, ◌+◌, ◌<◌, Bool, true, false, List, [], ◌∷◌, ◌++◌, length, All, Result, Ok, refl, sym, ap, arith, append_assoc, append-nil, length-append}
use Rattle.std.proofs.lemmas.Bool.{le-leb, ne_eqb, and_parts}
use Rattle.std.specs.Prelude.{◌&&◌}
use Rattle.std.proofs.lemmas.List.Elements.{All-nil, All-cons, All-head, All-tail}
use Rattle.std.specs.List.{flat_map}
use Rattle.std.proofs.Math.Dec.{eqb, leb}
use Rattle.byteorder.specs.Endian.{big_bytes}
use Rattle.byteorder.specs.Numbers.{length-bytes_high_first}
use Rattle.group_terms.specs.declared.changes.Change.{Change}
use Rattle.group_terms.specs.declared.changes.Change.TheVariants.{Out, In}
use Rattle.group_terms.specs.declared.values.BatchValues.{BatchValues}
use Rattle.group_terms.specs.declared.values.Drawn.{Drawn}
use Rattle.group_terms.specs.declared.values.TrafficValue.{TrafficValue}
use Rattle.group_terms.specs.declared.wires.WireFault.{WireFault}
use Rattle.group_terms.specs.Names.{is_name}
use Rattle.group_terms.specs.GroupNames.{is_group_name}
use Rattle.gd_wire.specs.Readings.{Cursor, Reading, and_then, give, octets, octet, octet_at, number, long_number, due_octet, due_kind, end, value_of}
use Rattle.gd_wire.proofs.ReadsLemmas.{cursor, Reads}
use Rattle.group_records.specs.declared.heads.Head.{Head}
use Rattle.group_records.specs.Fits.{HeadFits, IsNamed, NodeFits, TrafficFits, BatchFits}
use Rattle.group_records.specs.Readings.{many, name_size, member_name, group_name, head_record, change, node, traffic, batch_record}
use Rattle.group_records.specs.Texts.{named_text, head_text, change_text, changes_text, node_text, nodes_text, traffic_text, batch_text}

-- so many of what is written one after the other
pub many_reads : {A : Type 0} (reading : Reading A) (text : A → List ℕ) (xs : List A) → All (λ x. Reads reading (text x) x) xs
    → Reads (many reading (length xs)) (flat_map text xs) xs
many_reads reading text [] all = record {
  reads = λ base at rest. let place : at ≡ at + 0 = omega arith in λ i. Ok ([], cursor base (place i) rest);
}
many_reads {A = A} reading text (x ∷ xs) all =
    let first = All-head (λ x. Reads reading (text x) x) x xs all in
    let later = many_reads reading text xs (All-tail (λ x. Reads reading (text x) x) x xs all) in
    record {
      reads = λ base at rest.
          let place : at + length (text x) + length (flat_map text xs) ≡ at + length (text x ++ flat_map text xs) =
          omega (arith, length-append (text x) (flat_map text xs)) in
          ap (λ left. many reading (suc (length xs)) (cursor base at left)) (append_assoc (text x) (flat_map text xs) rest)
          ∙ ap (λ (r : Result (A × Cursor) WireFault).
          and_then r (λ (a : A) (next : Cursor). and_then (many reading (length xs) next) (λ (later : List A). give (a ∷ later)))) (first.reads base at (flat_map text xs ++ rest))
          ∙ ap (λ (r : Result (List A × Cursor) WireFault). and_then r (λ (later : List A). give (x ∷ later))) (later.reads base (at + length (text x)) rest)
          ∙ (λ i. Ok (x ∷ xs, cursor base (place i) rest));
    }

-- what framing promises of fields that are written
pub record Fields : Type 0 where
  pub octets : (base at : ℕ) (field later : List ℕ) → octets (length field) (cursor base at (field ++ later)) ≡ Ok (field, cursor base (at + length field) later)
  pub octet : (base at value : ℕ) (later : List ℕ) → octet (cursor base at (value ∷ later)) ≡ Ok (value, cursor base (at + 1) later)
  pub number : (base at value : ℕ) (later : List ℕ) → value < 65536 → number (cursor base at (big_bytes 2 value ++ later)) ≡ Ok (value, cursor base (at + 2) later)
  pub long_number : (base at value : ℕ) (later : List ℕ) → value < 4294967296
      → long_number (cursor base at (big_bytes 4 value ++ later)) ≡ Ok (value, cursor base (at + 4) later)

-- a name has 1 to 32 octets
name_few : (size : ℕ) (all : Bool) → (leb 1 size && (leb size 32 && all)) ≡ true → (leb 1 size ≡ true) × (leb size 32 ≡ true)
name_few size all is =
    let first = and_parts (leb 1 size) (leb size 32 && all) is in
    (first.0, (and_parts (leb size 32) all first.1).0)

group_few : (size : ℕ) → (leb 1 size && leb size 32) ≡ true → (leb 1 size ≡ true) × (leb size 32 ≡ true)
group_few size is = and_parts (leb 1 size) (leb size 32) is

module _ (f : Fields) where
  sized : (n base at : ℕ) (field later : List ℕ) → length field ≡ n → octets n (cursor base at (field ++ later)) ≡ Ok (field, cursor base (at + n) later)
  sized n base at field later long =
      ap (λ k. octets k (cursor base at (field ++ later))) (sym long) ∙ f.octets base at field later ∙ (λ i. Ok (field, cursor base (at + long i) later))

  member_reads : (name : List ℕ) → is_name name ≡ true → Reads member_name (named_text name) name
  unfolding member_name name_size
  member_reads name is = record {
    reads = λ base at rest.
        let place : at + 1 + length name ≡ at + suc (length name) = omega arith in
        let few = name_few (length name) _ is in
        rw (f.octet base at (length name) (name ++ rest), few.0, few.1, f.octets base (at + 1) name rest, is) (λ i. Ok (name, cursor base (place i) rest));
  }

  group_reads : (name : List ℕ) → is_group_name name ≡ true → Reads group_name (named_text name) name
  unfolding group_name name_size
  group_reads name is = record {
    reads = λ base at rest.
        let place : at + 1 + length name ≡ at + suc (length name) = omega arith in
        let few = group_few (length name) is in
        rw (f.octet base at (length name) (name ++ rest), few.0, few.1, f.octets base (at + 1) name rest, is) (λ i. Ok (name, cursor base (place i) rest));
  }

  change_reads : (c : Change) → IsNamed c → Reads change (change_text c) c
  unfolding change due_kind
  change_reads (Out name) is = record {
    reads = λ base at rest.
        let place : at + 1 + suc (length name) ≡ at + suc (suc (length name)) = omega arith in
        rw (f.octet base at 0 (named_text name ++ rest), (member_reads name is).reads base (at + 1) rest) (λ i. Ok (Out name, cursor base (place i) rest));
  }
  change_reads (In name) is = record {
    reads = λ base at rest.
        let place : at + 1 + suc (length name) ≡ at + suc (suc (length name)) = omega arith in
        rw (f.octet base at 1 (named_text name ++ rest), (member_reads name is).reads base (at + 1) rest) (λ i. Ok (In name, cursor base (place i) rest));
  }

  node_reads : (drawn : Drawn) → NodeFits drawn → Reads node (node_text drawn) drawn
  unfolding node
  node_reads drawn fits = record {
    reads = λ base at rest.
        let iv = drawn.value.iv in
        let key = drawn.value.key in
        let split : node_text drawn ++ rest ≡ big_bytes 2 drawn.id ++ (iv ++ (key ++ rest)) =
        append_assoc (big_bytes 2 drawn.id) (iv ++ key) rest ∙ ap (λ (l : List ℕ). big_bytes 2 drawn.id ++ l) (append_assoc iv key rest) in
        let two : length (big_bytes 2 drawn.id) ≡ 2 = length-bytes_high_first 2 drawn.id in
        let place : at + 2 + 16 + 16 ≡ at + length (node_text drawn) =
        omega (arith, two, length-append (big_bytes 2 drawn.id) (iv ++ key), length-append iv key, fits.iv, fits.key) in
        let some : eqb drawn.id 0 ≡ false = ne_eqb drawn.id 0 (λ is. absurd (omega (arith, fits.positive, is))) in
        ap (λ left. node (cursor base at left)) split
        ∙ rw (f.number base at drawn.id (iv ++ (key ++ rest)) fits.small, some, sized 16 base (at + 2) iv (key ++ rest) fits.iv, sized 16 base (at + 2 + 16) key rest fits.key)
        (λ i. Ok (drawn, cursor base (place i) rest));
  }

  traffic_reads : (value : TrafficValue) → TrafficFits value → Reads traffic (traffic_text value) value
  unfolding traffic
  traffic_reads value fits = record {
    reads = λ base at rest.
        let cipher = value.cipher_key in
        let integrity = value.integrity_key in
        let split : traffic_text value ++ rest ≡ cipher ++ (integrity ++ (value.spi ++ rest)) =
        append_assoc cipher (integrity ++ value.spi) rest ∙ ap (λ (l : List ℕ). cipher ++ l) (append_assoc integrity value.spi rest) in
        let place : at + 16 + 32 + 4 ≡ at + length (traffic_text value) =
        omega (arith, length-append cipher (integrity ++ value.spi), length-append integrity value.spi, fits.cipher_key, fits.integrity_key, fits.spi) in
        ap (λ left. traffic (cursor base at left)) split
        ∙ rw (
          sized 16 base at cipher (integrity ++ (value.spi ++ rest)) fits.cipher_key,
          sized 32 base (at + 16) integrity (value.spi ++ rest) fits.integrity_key,
          sized 4 base (at + 16 + 32) value.spi rest fits.spi,
          le-leb 128 (octet_at value.spi 0) fits.high,
        ) (λ i. Ok (value, cursor base (place i) rest));
  }

  pub head_reads : (head : Head) → HeadFits head → value_of (head_record (cursor 0 0 (head_text head))) ≡ Ok head
  unfolding head_record due_octet end
  head_reads head fits =
      let limit = big_bytes 4 head.limit in
      let some : eqb head.limit 0 ≡ false = ne_eqb head.limit 0 (λ is. absurd (omega (arith, fits.positive, is))) in
      let all : named_text head.name ≡ named_text head.name ++ [] = sym (append-nil (named_text head.name)) in
      ap (λ (l : List ℕ). value_of (head_record (cursor 0 0 (0 ∷ 1 ∷ head.depth ∷ (head.spi ++ (limit ++ l)))))) all
      ∙ rw (
        f.octet 0 0 0 (1 ∷ head.depth ∷ (head.spi ++ (limit ++ (named_text head.name ++ [])))),
        f.octet 0 1 1 (head.depth ∷ (head.spi ++ (limit ++ (named_text head.name ++ [])))),
        f.octet 0 2 head.depth (head.spi ++ (limit ++ (named_text head.name ++ []))),
        le-leb 1 head.depth fits.shallow,
        le-leb head.depth 9 fits.not_deep,
        sized 16 0 3 head.spi (limit ++ (named_text head.name ++ [])) fits.spi,
        f.long_number 0 19 head.limit (named_text head.name ++ []) fits.small,
        some,
        (group_reads head.name fits.name).reads 0 23 [],
      ) refl

  changes_all : (batch : List Change) → All IsNamed batch → All (λ c. Reads change (change_text c) c) batch
  changes_all [] all = All-nil (λ c. Reads change (change_text c) c)
  changes_all (c ∷ batch) all =
      All-cons (λ c. Reads change (change_text c) c) c batch (change_reads c (All-head IsNamed c batch all)) (changes_all batch (All-tail IsNamed c batch all))

  nodes_all : (nodes : List Drawn) → All NodeFits nodes → All (λ drawn. Reads node (node_text drawn) drawn) nodes
  nodes_all [] all = All-nil (λ drawn. Reads node (node_text drawn) drawn)
  nodes_all (drawn ∷ nodes) all =
      All-cons (λ drawn. Reads node (node_text drawn) drawn) drawn nodes (node_reads drawn (All-head NodeFits drawn nodes all))
      (nodes_all nodes (All-tail NodeFits drawn nodes all))

  pub batch_reads : (batch : List Change) (epoch sequence : ℕ) (values : BatchValues) → BatchFits batch epoch sequence values
      → value_of (batch_record (cursor 0 0 (batch_text batch epoch sequence values)))
      ≡ Ok (record { batch = batch; epoch = epoch; sequence = sequence; values = values })
  unfolding batch_record due_octet end
  batch_reads batch epoch sequence values fits =
      let last : List ℕ = traffic_text values.traffic ++ [] in
      let count : List ℕ = big_bytes 2 (length values.nodes) in
      let values_left : List ℕ = count ++ (nodes_text values.nodes ++ last) in
      let changes_left : List ℕ = changes_text batch ++ values_left in
      let sequence_left : List ℕ = big_bytes 4 sequence ++ length batch ∷ changes_left in
      let all : traffic_text values.traffic ≡ last = sym (append-nil (traffic_text values.traffic)) in
      let place = 11 + length (changes_text batch) in
      ap (λ (l : List ℕ). value_of (batch_record (cursor 0 0 (1 ∷ 1 ∷ (big_bytes 4 epoch ++ (big_bytes 4 sequence ++ length batch ∷
      (changes_text batch ++ (count ++ (nodes_text values.nodes ++ l))))))))) all
      ∙ rw (
        f.octet 0 0 1 (1 ∷ (big_bytes 4 epoch ++ sequence_left)),
        f.octet 0 1 1 (big_bytes 4 epoch ++ sequence_left),
        f.long_number 0 2 epoch sequence_left fits.epoch_small,
        f.long_number 0 6 sequence (length batch ∷ changes_left) fits.sequence_small,
        f.octet 0 10 (length batch) changes_left,
        le-leb (length batch) 32 fits.few,
        (many_reads change change_text batch (changes_all batch fits.named)).reads 0 11 values_left,
        f.number 0 place (length values.nodes) (nodes_text values.nodes ++ last) fits.count,
        (many_reads node node_text values.nodes (nodes_all values.nodes fits.nodes)).reads 0 (place + 2) last,
        (traffic_reads values.traffic fits.traffic).reads 0 (place + 2 + length (nodes_text values.nodes)) [],
      ) refl
