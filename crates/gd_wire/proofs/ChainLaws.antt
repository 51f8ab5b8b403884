-- The one text of a chain, and that payloads that were written are read.
use Rattle.std.proofs.Common.{◌≡◌, ℕ, zero, suc, ◌+◌, ◌-◌, ◌%◌, ◌<◌, ◌≤◌, not, List, [], ◌∷◌, ◌++◌, length, take, drop, replicate, Option}
use Rattle.std.proofs.Common.{None, Some, Result, Ok, Err, refl, sym, ap, ◌∙◌, append_assoc, length-append, arith}
use Rattle.std.specs.Prelude.{◌==◌, nat_lt}
use Rattle.std.specs.List.{position, position_or_len}
use Rattle.std.proofs.lemmas.Bool.{eqb-true, ltb-true, eq-eqb, le-leb, lt-ltb}
use Rattle.std.proofs.lemmas.Bool.Decides.{nat_tests}
use Rattle.std.proofs.lemmas.List.{length-replicate, length-take, take_at, drop_at, drop-drop}
use Rattle.std.proofs.lemmas.List.Elements.{All-nil, All-cons, All-head, All-tail, All-take, All-drop}
use Rattle.byteorder.specs.Numbers.{big_number-reads_back}
use Rattle.group_terms.specs.Octets.{IsOctet, AreOctets}
use Rattle.group_terms.specs.declared.wires.WireFault.{WireFault}
use Rattle.gd_wire.specs.declared.chains.ChainFault.{ChainFault}
use Rattle.gd_wire.specs.declared.chains.Part.{Part}
use Rattle.gd_wire.specs.declared.chains.Named.{Named}
use Rattle.gd_wire.specs.Readings.{Cursor, value_of, number, octet, octets, part, due_octet, no_other}
use Rattle.gd_wire.specs.Chains
use Rattle.gd_wire.specs.Chains.{GoesThrough, Payload, PayloadFits, PayloadsFit, padded, payload_text, payloads_text, payloads_at, first_kind, kinds_of, body_of}
use Rattle.gd_wire.specs.Chains.{after_parts, payload_then, no_payload, payload, chain_end, chain_from}
use Rattle.gd_wire.proofs.ReadingLemmas.{check_ok}
use Rattle.gd_wire.proofs.PartLemmas.{IsPayload, payload_read}
use Rattle.gd_wire.proofs.ChainReadings.{reads_on, body_is}

-- ---- what a chain without fault is

more_ok : (part : Part) (later : Result (List Part) ChainFault) (parts : List Part) → after_parts (part ∷ []) later ≡ Ok parts
    → (others : List Part) × (later ≡ Ok others) × (parts ≡ part ∷ others)
more_ok part (Ok others) parts e = (others, refl, cc)
more_ok part (Err stop) parts e = absurd (cc)

then_ok : (result : Result ((Part × Named) × Cursor) WireFault) (later : Named → Cursor → Result (List Part) ChainFault)
    (parts : List Part) → payload_then result later ≡ Ok parts
    → (read : (Part × Named) × Cursor) × (result ≡ Ok read) × ((others : List Part) × (later read.0.1 read.1 ≡ Ok others) ×
    (parts ≡ read.0.0 ∷ others))
then_ok (Ok read) later parts e = (read, refl, more_ok read.0.0 (later read.0.1 read.1) parts e)
then_ok (Err fault) later parts e = absurd (cc)

none_ok : (result : Result (Unit {0} × Cursor) WireFault) (parts : List Part) → no_payload (value_of result) ≡ Ok parts
    → (read : Unit {0} × Cursor) × (result ≡ Ok read) × (parts ≡ [])
none_ok (Ok read) parts e = (read, refl, cc)
none_ok (Err fault) parts e = absurd (cc)

-- octets none of which is other than zero
zeros_alone : (octets : List ℕ) → position (λ octet. not (octet == 0)) octets ≡ None → octets ≡ replicate (length octets) 0
zeros_alone [] none = refl
zeros_alone (octet ∷ octets) none =
    let zero_is : octet ≡ 0 = grind (arith, nat_tests) in
    let rest = zeros_alone octets (grind (arith, nat_tests)) in
    λ i. zero_is i ∷ rest i

other_ok : (at : ℕ) (other : Option ℕ) (cursor : Cursor) (read : Unit {0} × Cursor) → no_other at other cursor ≡ Ok read → other ≡ None
other_ok at None cursor read e = refl
other_ok at (Some other) cursor read e = absurd (cc)

end_read : (named : Named) (cursor : Cursor) (read : Unit {0} × Cursor) → chain_end named cursor ≡ Ok read
    → (named.kind ≡ 0) × (length cursor.left < 16) × (cursor.left ≡ replicate (length cursor.left) 0)
unfolding chain_end
end_read named cursor read e =
    let one = check_ok (named.kind == 0) _ _ _ _ _ e in
    let two = check_ok (nat_lt (length cursor.left) 16) _ _ _ _ _ one.1 in (
      eqb-true named.kind 0 one.0,
      ltb-true (length cursor.left) 16 two.0,
      zeros_alone cursor.left (other_ok _ _ _ read two.1),
    )

-- a chain of payloads, in what is left of a text
pub record IsChain (text : List ℕ) (due : List ℕ) (named : Named) (cursor : Cursor) (payloads : List Payload) : Type 0 where
  pub kinds : kinds_of payloads ≡ due
  pub first : first_kind payloads ≡ named.kind
  pub fit : AreOctets text → named.kind < 256 → PayloadsFit payloads
  pub text_is : AreOctets text → (zeros : ℕ) × (zeros < 16) × (cursor.left ≡ payloads_text payloads ++ replicate zeros 0)

-- with one more payload before it
chain_more : (text : List ℕ) (base kind : ℕ) (due : List ℕ) (named : Named) (cursor : Cursor) (read : (Part × Named) × Cursor)
    (others : List Part) → GoesThrough text base cursor
    → IsPayload kind named cursor read → IsChain text due read.0.1 read.1 (payloads_at text others)
    → IsChain text (kind ∷ due) named cursor (payloads_at text (read.0.0 ∷ others))
chain_more text base kind due named cursor read others reads is later =
    let body = body_is text base kind named cursor read reads is in
    let left : AreOctets text → AreOctets cursor.left = λ octets. rw reads.left (All-drop IsOctet cursor.at text octets) in
    record {
      kinds = λ i. is.kind_is i ∷ later.kinds i;
      first = is.kind_is ∙ sym is.same;
      fit = λ octets small.
          let kind : read.0.0.kind < 256 = omega (arith, is.kind_is, is.same, small) in
          let long = length-take read.0.0.length (drop read.0.0.start text) in
          let inner = All-take IsOctet read.0.0.length (drop read.0.0.start text) (All-drop IsOctet read.0.0.start text octets) in
          All-cons PayloadFits _ (payloads_at text others)
          (record { kind = kind; size = omega (arith, is.small (left octets), long); octets = inner })
          (later.fit octets (is.names (left octets)));
      text_is = λ octets.
          let rest = later.text_is octets in (
            rest.0,
            rest.1,
            is.text (left octets)
                ∙ (λ i. payload_text (sym later.first i) (body i) ++ rest.2 i)
                ∙ sym (append_assoc (payload_text (first_kind (payloads_at text others)) (body_of text read.0.0))
                (payloads_text (payloads_at text others)) (replicate rest.0 0)),
          );
    }

pub chain_read : (text : List ℕ) (base : ℕ) (due : List ℕ) (named : Named) (cursor : Cursor) (parts : List Part) → GoesThrough text base cursor
    → chain_from due named cursor ≡ Ok parts
    → IsChain text due named cursor (payloads_at text parts)
chain_read text base [] named cursor parts reads e =
    let ended = none_ok (chain_end named cursor) parts e in
    let is = end_read named cursor ended.0 ended.1 in
    rw ended.2 (record {
      kinds = refl;
      first = sym is.0;
      fit = λ octets small. All-nil PayloadFits;
      text_is = λ octets. (length cursor.left, is.1, is.2);
    })
chain_read text base (kind ∷ due) named cursor parts reads e =
    let found = then_ok (payload kind named cursor) (chain_from due) parts e in
    let read = found.0 in
    let is = payload_read kind named cursor.base cursor.at cursor.left read found.1 in
    rw found.2.2 (chain_more text base kind due named cursor read found.2.0 reads is
    (chain_read text base due read.0.1 read.1 found.2.0 (reads_on text base kind named cursor read reads is) found.2.1))

-- zeros that fill the last block of a text of whole blocks
pub fills_block : (text written : List ℕ) (zeros : ℕ) → zeros < 16 → text ≡ written ++ replicate zeros 0 → length text % 16 ≡ 0
    → text ≡ padded written
fills_block text written zeros few same whole =
    let long = ap length same ∙ length-append written (replicate zeros 0) in
    let count = length-replicate {A = ℕ} zeros 0 in
    let fill : zeros ≡ (16 - length written % 16) % 16 = omega arith in
    same ∙ ap (λ zeros. written ++ replicate zeros 0) fill

-- ---- what was written is read

-- a payload is read whatever comes after it
pub payload_written : (kind next base at : ℕ) (named : Named) (body later : List ℕ) → named.kind ≡ kind → length body ≤ 65531
    → payload kind named (record { base = base; at = at; left = payload_text next body ++ later })
    ≡ Ok (
      (record { kind = kind; at = base + at; start = at + 4; length = length body }, record { kind = next; at = base + at }),
      record { base = base; at = at + 4 + length body; left = later },
    )
unfolding payload number octet octets part due_octet
payload_written kind next base at named body later same small =
    let size : ℕ = length body + 4 in
    let left : List ℕ = payload_text next body ++ later in
    let long = length-append body later in
    let told = big_number-reads_back 2 size [] (omega arith) in
    let start : at + 1 + 1 + 2 ≡ at + 4 = omega arith in
    let sized : size - 4 ≡ length body = omega arith in
    let place : at + 1 + 1 + 2 + (size - 4) ≡ at + 4 + length body = omega arith in
    let rest : drop (size - 4) (body ++ later) ≡ later = drop_at body later (size - 4) (sym sized) in
    rw (
      eq-eqb named.kind kind same,
      le-leb 4 (length left) (omega arith),
      le-leb 1 (length left) (omega arith),
      le-leb 1 (length (drop 1 left)) (omega arith),
      le-leb 2 (length (drop 2 left)) (omega arith),
      told,
      le-leb 4 size (omega arith),
      le-leb (size - 4) (length (body ++ later)) (omega arith),
    ) (λ i. Ok (
      (record { kind = kind; at = base + at; start = start i; length = sized i }, record { kind = next; at = base + at }),
      record { base = base; at = place i; left = rest i },
    ))

-- the body of a payload that comes next in a text
pub written_body : (text : List ℕ) (kind next base at : ℕ) (body later : List ℕ) → drop at text ≡ payload_text next body ++ later
    → body_of text (record { kind = kind; at = base + at; start = at + 4; length = length body }) ≡ body
written_body text kind next base at body later left =
    ap (take (length body)) (sym (drop-drop 4 at text) ∙ ap (drop 4) left) ∙ take_at body later (length body) refl

zeros_pass : (count : ℕ) → position_or_len (λ octet. not (octet == 0)) (replicate count 0) ≡ count
zeros_pass zero = refl
zeros_pass (suc count) = let rest = zeros_pass count in omega arith

zeros_end : (count : ℕ) → position (λ octet. not (octet == 0)) (replicate count 0) ≡ None
zeros_end count = let pass = zeros_pass count in let long = length-replicate {A = ℕ} count 0 in grind (arith, nat_tests)

pub end_written : (zeros : ℕ) (named : Named) (cursor : Cursor) → zeros < 16 → named.kind ≡ 0 → cursor.left ≡ replicate zeros 0
    → value_of (chain_end named cursor) ≡ Ok tt
unfolding chain_end
end_written zeros named cursor few none left =
    let long = ap length left ∙ length-replicate {A = ℕ} zeros 0 in
    rw (
      eq-eqb named.kind 0 none,
      lt-ltb (length cursor.left) 16 (omega arith),
      ap (position (λ octet. not (octet == 0))) left ∙ zeros_end
          zeros,
    ) refl

pub chain_written : (text : List ℕ) (base zeros : ℕ) → zeros < 16 → (payloads : List Payload) (named : Named) (cursor : Cursor)
    → PayloadsFit payloads → named.kind ≡ first_kind payloads
    → GoesThrough text base cursor → cursor.left ≡ payloads_text payloads ++ replicate zeros 0
    → (parts : List Part) × (chain_from (kinds_of payloads) named cursor ≡ Ok parts) × (payloads_at text parts ≡ payloads)
chain_written text base zeros few [] named cursor fit first reads left =
    ([], ap no_payload (end_written zeros named cursor few first left), refl)
chain_written text base zeros few (payload ∷ payloads) named cursor fit first reads left =
    let later : List ℕ = payloads_text payloads ++ replicate zeros 0 in
    let next : ℕ = first_kind payloads in
    let left_is : cursor.left ≡ payload_text next payload.body ++ later = left
    ∙ append_assoc (payload_text next payload.body) (payloads_text payloads) (replicate zeros 0) in
    let small = (All-head PayloadFits payload payloads fit).size in
    let found = ap (λ octets. Chains.payload payload.kind named (record { base = cursor.base; at = cursor.at; left = octets })) left_is
    ∙ payload_written payload.kind next cursor.base cursor.at named payload.body later first small in
    let is = payload_read payload.kind named cursor.base cursor.at cursor.left _ found in
    let part : Part = record { kind = payload.kind; at = cursor.base + cursor.at; start = cursor.at + 4; length = length payload.body } in
    let body : body_of text part ≡ payload.body =
    sym (body_is text base payload.kind named cursor _ reads is) ∙ ap (λ octets. take (length payload.body) (drop 4 octets)) left_is
    ∙ take_at payload.body later (length payload.body) refl in
    let rest = chain_written text base zeros few payloads _ _ (All-tail PayloadFits payload payloads fit) refl
    (reads_on text base payload.kind named cursor _ reads is) refl in (
      part ∷ rest.0,
      ap (λ result. payload_then result (chain_from (kinds_of payloads))) found ∙ ap (after_parts (part ∷ [])) rest.1,
      λ i. record { kind = payload.kind; body = body i } ∷ rest.2 i,
    )
