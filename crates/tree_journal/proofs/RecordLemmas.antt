-- What is read of records one after the other.
use Rattle.std.proofs.Common.{◌≡◌, ◌≢◌, ◌∙◌, ℕ, zero, suc, ◌+◌, ◌-◌, ◌≤◌, ◌<◌, List, [], ◌∷◌, ◌++◌, length, take, drop, Some, None, Result, Ok, Err, Bool, true, false, refl, sym, ap, arith, append_assoc, length-append, length-drop, take-append-drop}
use Rattle.std.proofs.lemmas.Bool.{le-leb, leb-true, ne_eqb}
use Rattle.std.proofs.lemmas.List.{take_at, drop_at, append-nil, length-take-le}
use Rattle.std.proofs.Math.Dec.{leb}
use Rattle.std.specs.Prelude.{if◌then◌else◌, ◌==◌, ◌&&◌}
use Rattle.byteorder.specs.Endian.{big_bytes, big_from}
use Rattle.byteorder.specs.Numbers.{big_number-reads_back, length-bytes_high_first, big_from-append, big_from-take}
use Rattle.journal_gates.specs.Heads.{most_octets}
use Rattle.tree_journal.specs.Records.{records_from, body_next, record_then, record_text, with_front}

-- as many steps as there are octets are enough
pub steps_enough : (m n at : ℕ) (rest : List ℕ) → length rest ≤ m → length rest ≤ n → records_from m at rest ≡ records_from n at rest
steps_enough zero zero at rest some too = refl
steps_enough zero (suc n) at [] some too = refl
steps_enough zero (suc n) at (gate ∷ rest) some too = absurd (omega arith)
steps_enough (suc m) zero at [] some too = refl
steps_enough (suc m) zero at (gate ∷ rest) some too = absurd (omega arith)
steps_enough (suc m) (suc n) at [] some too = refl
steps_enough (suc m) (suc n) at (gate ∷ rest) some too =
    λ i. if gate == 1 then record_then at (body_next rest) (λ body. steps_enough m n (at + 5 + length body) (drop (4 + length body) rest)
    (omega (arith, length-drop (4 + length body) rest, some)) (omega (arith, length-drop (4 + length body) rest, too)) i) else Ok []

pub length-record_text : (body : List ℕ) → length (record_text body) ≡ 4 + length body
length-record_text body = omega (arith, length-append (big_bytes 4 (length body)) body, length-bytes_high_first 4 (length body))

-- octets after a commit mark that are a whole record, and more
pub record IsWhole (rest body : List ℕ) : Type 0 where
  pub head : List ℕ
  pub more : List ℕ
  pub text : rest ≡ head ++ (body ++ more)
  pub four : length head ≡ 4
  pub size : big_from 0 4 head ≡ length body
  pub short : length body ≤ 65536

-- the body, if there is one
chosen : (a b c : Bool) (found body : List ℕ) → (if a && (b && c) then Some found else None) ≡ Some body
    → (a ≡ true) × (b ≡ true) × (c ≡ true) × (found ≡ body)
chosen true true true found body is = (refl, refl, refl, cc is)
chosen true true false found body is = absurd (cc is)
chosen true false c found body is = absurd (cc is)
chosen false b c found body is = absurd (cc is)

pub whole_parts : (rest body : List ℕ) → body_next rest ≡ Some body → IsWhole rest body
whole_parts rest body is =
    let size : ℕ = big_from 0 4 rest in
    let parts = chosen (leb 4 (length rest)) (leb size most_octets) (leb size (length rest - 4)) (take size (drop 4 rest)) body is in
    let long : 4 ≤ length rest = leb-true 4 (length rest) parts.0 in
    let few : size ≤ 65536 = leb-true size most_octets parts.1 in
    let there : size ≤ length rest - 4 = leb-true size (length rest - 4) parts.2 in
    let count : length body ≡ size = ap length (sym parts.3) ∙ length-take-le size (drop 4 rest) (omega (arith, there, length-drop 4 rest)) in
    record {
      head = take 4 rest;
      more = drop size (drop 4 rest);
      text = sym (take-append-drop 4 rest)
          ∙ ap (λ (l : List ℕ). take 4 rest ++ l) (sym (take-append-drop size (drop 4 rest)) ∙ ap (λ (l : List ℕ). l ++ drop size (drop 4 rest)) parts.3);
      four = length-take-le 4 rest long;
      size = big_from-take 0 4 4 rest (omega arith) ∙ sym count;
      short = omega (arith, count, few);
    }

pub whole_next : (rest body : List ℕ) → IsWhole rest body → body_next rest ≡ Some body
whole_next rest body whole =
    let split = whole.text in
    let long : length rest ≡ 4 + length body + length whole.more =
    omega (arith, ap length split, length-append whole.head (body ++ whole.more), length-append body whole.more, whole.four) in
    let size : big_from 0 4 rest ≡ length body =
    ap (λ (l : List ℕ). big_from 0 4 l) split ∙ big_from-append 4 whole.head (body ++ whole.more) (omega (arith, whole.four)) ∙ whole.size in
    let cut : drop 4 rest ≡ body ++ whole.more = ap (λ (l : List ℕ). drop 4 l) split ∙ drop_at whole.head (body ++ whole.more) 4 whole.four in
    let back : take (length body) (drop 4 rest) ≡ body =
    ap (λ (l : List ℕ). take (length body) l) cut ∙ take_at body whole.more (length body) refl in
    rw (size, le-leb 4 (length rest) (omega (arith, long)), le-leb (length body) most_octets whole.short, le-leb (length body) (length rest - 4) (omega (arith, long)))
    (λ i. Some (back i))

pub after_whole : (rest body : List ℕ) (whole : IsWhole rest body) → drop (4 + length body) rest ≡ whole.more
after_whole rest body whole =
    ap (λ (l : List ℕ). drop (4 + length body) l) (whole.text ∙ sym (append_assoc whole.head body whole.more))
    ∙ drop_at (whole.head ++ body) whole.more (4 + length body) (omega (arith, length-append whole.head body, whole.four))

-- a record that was written is whole
abbrev pub whole_text : (body more : List ℕ) → length body ≤ 65536 → IsWhole (record_text body ++ more) body
whole_text body more short = record {
  head = big_bytes 4 (length body);
  more = more;
  text = append_assoc (big_bytes 4 (length body)) body more;
  four = length-bytes_high_first 4 (length body);
  size = ap (λ (l : List ℕ). big_from 0 4 l) (sym (append-nil (big_bytes 4 (length body)))) ∙ big_number-reads_back 4 (length body) [] (omega (arith, short));
  short = short;
}

pub with_none : (read : Result (List (List ℕ)) ℕ) → with_front [] read ≡ read
with_none (Ok bodies) = refl
with_none (Err at) = refl

pub with_both : (before more : List (List ℕ)) (read : Result (List (List ℕ)) ℕ) → with_front before (with_front more read) ≡ with_front (before ++ more) read
with_both before more (Ok bodies) = λ i. Ok (sym (append_assoc before more bodies) i)
with_both before more (Err at) = refl

-- what is read from a set commit mark on, where a whole record comes after it
pub record_read : (steps at enough : ℕ) (rest body : List ℕ) (whole : IsWhole rest body) → length rest < steps → length whole.more ≤ enough
    → records_from steps at (1 ∷ rest) ≡ with_front (body ∷ []) (records_from enough (at + (5 + length body)) whole.more)
record_read zero at enough rest body whole some too = absurd (omega arith)
record_read (suc steps) at enough rest body whole some too =
    let later : List ℕ → Result (List (List ℕ)) ℕ = λ found. records_from steps (at + 5 + length found) (drop (4 + length found) rest) in
    let place : at + 5 + length body ≡ at + (5 + length body) = omega arith in
    let fewer = ap length (sym (after_whole rest body whole)) in
    (λ i. record_then at (whole_next rest body whole i) later)
    ∙ (λ i. with_front (body ∷ []) (records_from steps (place i) (after_whole rest body whole i)))
    ∙ ap (λ (read : Result (List (List ℕ)) ℕ). with_front (body ∷ []) read)
    (steps_enough steps enough (at + (5 + length body)) whole.more (omega (arith, fewer, length-drop (4 + length body) rest, some)) too)

pub closed_read : (steps at gate : ℕ) (behind : List ℕ) → 1 ≤ steps → gate ≢ 1 → records_from steps at (gate ∷ behind) ≡ Ok []
closed_read zero at gate behind some shut = absurd (omega arith)
closed_read (suc steps) at gate behind some shut = rw (ne_eqb gate 1 shut) refl
