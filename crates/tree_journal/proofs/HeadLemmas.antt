-- What the octets at a commit mark say of the records from there on.
use Rattle.std.proofs.Common.{◌≡◌, ◌≢◌, ◌∙◌, inl, inr, ℕ, zero, suc, ◌+◌, ◌-◌, ◌≤◌, ◌<◌, List, [], ◌∷◌, length, min, take, drop, Option, Some, None, Result, Ok, Err, Bool, true, false, refl, sym, ap, subst, arith, length-take, length-drop}
use Rattle.std.proofs.lemmas.Bool.{le-leb, lt-leb, eq-eqb, eqb-true, false≢true, leb-true, cases_lt}
use Rattle.std.proofs.lemmas.List.{drop-drop, drop-take, take-take, take_min}
use Rattle.std.proofs.Math.Dec.{leb}
use Rattle.std.specs.Prelude.{if◌then◌else◌, ◌==◌, ◌&&◌, OnErr}
use Rattle.byteorder.specs.Endian.{big_from}
use Rattle.byteorder.specs.Numbers.{big_from-take}
use Rattle.tree_journal.specs.Private.Found.{IsShutAt}
use Rattle.journal_gates.specs.Heads.{head_in}
use Rattle.journal_gates.specs.Heads.{most_octets}
use Rattle.tree_journal.specs.Records.{records_from, bodies_from, body_next, record_then, IsRecordAt}
use Rattle.journal_gates.specs.declared.heads.Head.{Head}
use Rattle.journal_gates.specs.declared.heads.Head.TheVariants.{Shut, Open, Broken}

abbrev size_of : Head → ℕ
size_of (Open size) = size
size_of Shut = 0
size_of Broken = 0

abbrev chosen : Bool → Bool → Bool → ℕ → Head
chosen is_open is_long is_short size = if is_open then (if is_long && is_short then Open size else Broken) else Shut

chosen_open : (o a b : Bool) (n size : ℕ) → Open size ≡ chosen o a b n → (o ≡ true) × (a ≡ true) × (b ≡ true) × (size ≡ n)
chosen_open true true true n size is = (refl, refl, refl, ap size_of is)
chosen_open true true false n size is = absurd (cc is)
chosen_open true false b n size is = absurd (cc is)
chosen_open false a b n size is = absurd (cc is)

chosen_broken : (o a b : Bool) (n : ℕ) → Broken ≡ chosen o a b n → (o ≡ true) × ((a && b) ≡ false)
chosen_broken true true true n is = absurd (cc is)
chosen_broken true true false n is = (refl, refl)
chosen_broken true false b n is = (refl, refl)
chosen_broken false a b n is = absurd (cc is)

chosen_shut : (o a b : Bool) (n : ℕ) → Shut ≡ chosen o a b n → o ≡ false
chosen_shut true true true n is = absurd (cc is)
chosen_shut true true false n is = absurd (cc is)
chosen_shut true false b n is = absurd (cc is)
chosen_shut false a b n is = refl

four_there : (rest : List ℕ) → leb 4 (length (take 4 rest)) ≡ leb 4 (length rest)
four_there rest = elim (cases_lt (length rest) 4) [
  | inl less ↦ lt-leb 4 (length (take 4 rest)) (omega (arith, less, length-take 4 rest)) ∙ sym (lt-leb 4 (length rest) less)
  | inr not ↦ le-leb 4 (length (take 4 rest)) (omega (arith, not, length-take 4 rest)) ∙ sym (le-leb 4 (length rest) (omega (arith, not)))
]

head_at : (gate : ℕ) (rest : List ℕ) → head_in (take 5 (gate ∷ rest)) ≡ chosen (gate == 1) (leb 4 (length rest)) (leb (big_from 0 4 rest) most_octets) (big_from 0 4 rest)
head_at gate rest =
    let size : big_from 0 4 (take 4 rest) ≡ big_from 0 4 rest = big_from-take 0 4 4 rest (omega arith) in
    λ i. chosen (gate == 1) (four_there rest i) (leb (size i) most_octets) (size i)

none_chosen : (there : Bool) (found : List ℕ) → None ≡ (if there then Some found else None) → there ≡ false
none_chosen true found is = absurd (cc is)
none_chosen false found is = refl

some_chosen : (there : Bool) (found body : List ℕ) → Some body ≡ (if there then Some found else None) → (there ≡ true) × (body ≡ found)
some_chosen true found body is = (refl, cc is)
some_chosen false found body is = absurd (cc is)

-- without a body there is no record
no_body : (steps at gate : ℕ) (rest : List ℕ) → (gate == 1) ≡ true → body_next rest ≡ None → records_from (suc steps) at (gate ∷ rest) ≡ Err at
no_body steps at gate rest is_open none =
    let later : List ℕ → Result (List (List ℕ)) ℕ = λ body. records_from steps (at + 5 + length body) (drop (4 + length body) rest) in
    (λ i. if is_open i then record_then at (body_next rest) later else Ok []) ∙ (λ i. record_then at (none i) later)

neither : (a b c : Bool) (found : List ℕ) → (a && b) ≡ false → (if a && (b && c) then Some found else None) ≡ None
neither true true c found is = absurd (cc is)
neither true false c found is = refl
neither false b c found is = refl

not_whole : (a b : Bool) (found : List ℕ) → (if a && (b && false) then Some found else None) ≡ None
not_whole true true found = refl
not_whole true false found = refl
not_whole false b found = refl

broken_read : (steps at : ℕ) (rest : List ℕ) → Broken ≡ head_in (take 5 rest) → records_from steps at rest ≡ Err at
broken_read zero at rest is = refl
broken_read (suc steps) at [] is = refl
broken_read (suc steps) at (gate ∷ rest) is =
    let size : ℕ = big_from 0 4 rest in
    let parts = chosen_broken (gate == 1) (leb 4 (length rest)) (leb size most_octets) size (is ∙ head_at gate rest) in
    no_body steps at gate rest parts.0
    (neither (leb 4 (length rest)) (leb size most_octets) (leb size (length rest - 4)) (take size (drop 4 rest)) parts.1)

cut_read : (steps at size : ℕ) (rest : List ℕ) → Open size ≡ head_in (take 5 rest) → leb size (length rest - 5) ≡ false
    → records_from steps at rest ≡ Err at
cut_read zero at size rest is missing = refl
cut_read (suc steps) at size [] is missing = refl
cut_read (suc steps) at size (gate ∷ rest) is missing =
    let found : ℕ = big_from 0 4 rest in
    let parts = chosen_open (gate == 1) (leb 4 (length rest)) (leb found most_octets) found size (is ∙ head_at gate rest) in
    let fewer : length rest - 4 ≡ length (gate ∷ rest) - 5 = omega arith in
    let none : leb found (length rest - 4) ≡ false = (λ i. leb (sym parts.3 i) (fewer i)) ∙ missing in
    no_body steps at gate rest parts.0
    ((λ i. if leb 4 (length rest) && (leb found most_octets && none i) then Some (take found (drop 4 rest)) else None)
    ∙ not_whole (leb 4 (length rest)) (leb found most_octets) (take found (drop 4 rest)))

whole_body : (size : ℕ) (rest : List ℕ) → leb 4 (length rest) ≡ true → leb (big_from 0 4 rest) most_octets ≡ true → size ≡ big_from 0 4 rest
    → leb size (length rest - 4) ≡ true → body_next rest ≡ Some (take size (drop 4 rest))
whole_body size rest long short is there =
    let all : leb (big_from 0 4 rest) (length rest - 4) ≡ true = (λ i. leb (sym is i) (length rest - 4)) ∙ there in
    rw (long, short, all) (λ i. Some (take (sym is i) (drop 4 rest)))

open_record : (file : List ℕ) (at size : ℕ) (rest : List ℕ) → drop at file ≡ rest → Open size ≡ head_in (take 5 rest)
    → leb size (length file - (at + 5)) ≡ true → IsRecordAt file at (take size (drop (at + 5) file))
open_record file at size [] text is there = absurd (cc is)
open_record file at size (gate ∷ rest) text is there =
    let parts = chosen_open (gate == 1) (leb 4 (length rest)) (leb (big_from 0 4 rest) most_octets) (big_from 0 4 rest) size (is ∙ head_at gate rest) in
    let one : gate ≡ 1 = eqb-true gate 1 parts.0 in
    let fewer : length file - (at + 5) ≡ length rest - 4 = omega (arith, ap length text, length-drop at file) in
    let cut : drop 4 rest ≡ drop (at + 5) file = ap (λ (l : List ℕ). drop 5 l) (sym text) ∙ drop-drop 5 at file in (
      rest,
      text ∙ ap (λ (g : ℕ). g ∷ rest) one,
      whole_body size rest parts.1 parts.2 parts.3 ((λ i. leb size (sym fewer i)) ∙ there) ∙ (λ i. Some (take size (cut i))),
    )

-- the body of this size after a commit mark and a length, if it is there
abbrev pub body_at : List ℕ → ℕ → ℕ → Option (List ℕ)
body_at file at size = if leb size (length file - (at + 5)) then Some (take size (drop (at + 5) file)) else None

module _ (file : List ℕ) (at : ℕ) (head : Head) (is : head ≡ head_in (take 5 (drop at file))) where
  pub found_nothing : head ≡ Broken → bodies_from file at ≡ Err at
  found_nothing broken = broken_read (length file) at (drop at file) (sym broken ∙ is)

  pub found_cut : (size : ℕ) → head ≡ Open size
      → None ≡ body_at file at size → bodies_from file at ≡ Err at
  found_cut size opens none =
      let missing : leb size (length file - (at + 5)) ≡ false = none_chosen (leb size (length file - (at + 5))) (take size (drop (at + 5) file)) none in
      let fewer : length (drop at file) - 5 ≡ length file - (at + 5) = omega (arith, length-drop at file) in
      cut_read (length file) at size (drop at file) (sym opens ∙ is) ((λ i. leb size (fewer i)) ∙ missing)

  pub found_record : (size : ℕ) (body : List ℕ) → head ≡ Open size
      → Some body ≡ body_at file at size → IsRecordAt file at body
  found_record size body opens some =
      let there = some_chosen (leb size (length file - (at + 5))) (take size (drop (at + 5) file)) body some in
      subst (IsRecordAt file at) (sym there.1) (open_record file at size (drop at file) refl (sym opens ∙ is) there.0)

  pub found_whole : (size : ℕ) → head ≡ Open size → leb size (length file - (at + 5)) ≡ true → IsRecordAt file at (take size (drop (at + 5) file))
  found_whole size opens there = open_record file at size (drop at file) refl (sym opens ∙ is) there

-- a set commit mark, and a length
open_long : (l : List ℕ) (size : ℕ) → Open size ≡ head_in l → 5 ≤ length l
open_long [] size is = absurd (cc is)
open_long (gate ∷ rest) size is =
    let parts = chosen_open (gate == 1) (leb 4 (length rest)) (leb (big_from 0 4 rest) most_octets) (big_from 0 4 rest) size is in
    omega (arith, leb-true 4 (length rest) parts.1)

shut_front : (l : List ℕ) → Shut ≡ head_in l → (gate : ℕ) × (behind : List ℕ) × (l ≡ gate ∷ behind) × (gate ≢ 1)
shut_front [] is = absurd (cc is)
shut_front (gate ∷ rest) is =
    let shut = chosen_shut (gate == 1) (leb 4 (length rest)) (leb (big_from 0 4 rest) most_octets) (big_from 0 4 rest) is in
    (gate, rest, refl, λ same. false≢true (sym shut ∙ eq-eqb gate 1 same))

first_kept : (k n : ℕ) (rest : List ℕ) (gate : ℕ) (behind : List ℕ) → take k (take n rest) ≡ gate ∷ behind → (more : List ℕ) × (rest ≡ gate ∷ more)
first_kept zero n rest gate behind is = absurd (cc is)
first_kept (suc k) zero rest gate behind is = absurd (cc is)
first_kept (suc k) (suc n) [] gate behind is = absurd (cc is)
first_kept (suc k) (suc n) (first ∷ more) gate behind is = (more, ap (λ (g : ℕ). g ∷ more) (cc is))

-- so many octets from a place on
module _ (file octets : List ℕ) (at n : ℕ) (is : octets ≡ take n (drop at file)) where
  pub seen_few : length octets ≤ n
  seen_few = omega (arith, ap length is, length-take n (drop at file))

  pub seen_end : (k : ℕ) → Shut ≡ head_in (take k octets) → IsShutAt file at
  seen_end k shut =
      let front = shut_front (take k octets) shut in
      let kept = first_kept k n (drop at file) front.0 front.1 (sym (ap (take k) is) ∙ front.2) in
      (front.0, kept.0, kept.1, front.3)

  -- five of them are enough for a commit mark and a length
  pub seen_head : 5 ≤ n → (k : ℕ) → k ≡ min (length octets) 5 → take k octets ≡ take 5 (drop at file)
  seen_head five k few =
      let same : k ≡ min 5 (length octets) = omega (arith, few) in
      ap (λ k. take k octets) same ∙ take_min 5 octets ∙ ap (take 5) is ∙ take-take 5 n (drop at file) five

  pub seen_long : (k size : ℕ) → Open size ≡ head_in (take k octets) → 5 ≤ length octets
  seen_long k size opens = omega (arith, open_long (take k octets) size opens, length-take k octets)

  pub seen_there : (size : ℕ) → 5 + size ≤ length octets → leb size (length file - (at + 5)) ≡ true
  seen_there size whole = le-leb size (length file - (at + 5)) (omega (arith, whole, ap length is, length-take n (drop at file), length-drop at file))

  pub seen_body : (size : ℕ) → 5 + size ≤ length octets → Some (take (5 + size - 5) (drop 5 octets)) ≡ body_at file at size
  seen_body size whole =
      let more : n ≡ 5 + (n - 5) = omega (arith, whole, seen_few) in
      let alone : 5 + size - 5 ≡ size = omega arith in
      let long : size ≤ n - 5 = omega (arith, whole, seen_few) in
      let cut : drop 5 octets ≡ take (n - 5) (drop (at + 5) file) =
      ap (drop 5) (is ∙ ap (λ k. take k (drop at file)) more) ∙ drop-take 5 (n - 5) (drop at file) ∙ ap (take (n - 5)) (drop-drop 5 at file) in
      ap Some ((λ i. take (alone i) (cut i)) ∙ take-take size (n - 5) (drop (at + 5) file) long)
      ∙ sym (ap (λ there. if there then Some (take size (drop (at + 5) file)) else None) (seen_there size whole))

  -- where they are as many as a record has, or all that are left, one that is longer is cut
  pub seen_cut : (size : ℕ) → 5 + size ≤ n → 5 ≤ length octets → length octets < 5 + size → None ≡ body_at file at size
  seen_cut size most long fewer =
      let missing = lt-leb size (length file - (at + 5)) (omega (arith, most, long, fewer, ap length is, length-take n (drop at file), length-drop at file)) in
      sym (ap (λ there. if there then Some (take size (drop (at + 5) file)) else None) missing)

-- What was read ahead of a file, from a place on.
module _ (file room : List ℕ) where
  pub kept_few : (n m at : ℕ) → take n room ≡ take m (drop at file) → n ≤ m → take n room ≡ take n (drop at file)
  kept_few n m at is few = sym (take-take n n room (omega arith)) ∙ ap (take n) is ∙ take-take n m (drop at file) few

  pub further_on : (count from at : ℕ) → take count room ≡ take count (drop from file) → from ≤ at → at - from < count
      → take (count - (at - from)) (drop (at - from) room) ≡ take (count - (at - from)) (drop at file)
  further_on count from at is before within =
      let gone = at - from in
      let left = count - gone in
      let parts : count ≡ gone + left = omega (arith, within) in
      let place : from + gone ≡ at = omega (arith, before) in
      sym (drop-take gone left room) ∙ ap (λ k. drop gone (take k room)) (sym parts) ∙ ap (drop gone) is
      ∙ ap (λ k. drop gone (take k (drop from file))) parts ∙ drop-take gone left (drop from file)
      ∙ ap (take left) (drop-drop gone from file ∙ ap (λ k. drop k file) place)

-- what holds anyway holds where a call fails
pub on_error : {A E : Type 0} (answer : Result A E) (P : Type 0) → P → OnErr answer P
on_error (Ok value) P holds = tt
on_error (Err why) P holds = holds
