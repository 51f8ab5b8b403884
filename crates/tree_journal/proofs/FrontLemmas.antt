-- What is read of a file that begins as a journal.
-- `IsFront` says what a front means for whatever comes after it, so a record is put after it with no word about octets below 256, and a cursor stays right in a
-- file that is written further on (`still_reached` of AppendLemmas).
use Rattle.std.proofs.Common.{◌≡◌, ◌≢◌, ◌∙◌, ℕ, ◌+◌, ◌≤◌, List, [], ◌∷◌, ◌++◌, length, take, drop, Option, Some, None, IsSome, IfSome, Result, Ok, true, refl, sym, ap, arith, append_assoc, length-append, length-drop, take-append-drop}
use Rattle.std.proofs.lemmas.List.{drop_at, append-nil, drop-drop}
use Rattle.std.proofs.lemmas.Slice.Eq.{bytes_eq-Decides}
use Rattle.tree_journal.specs.Private.Fronts.{IsFront, Reaches, IsEnd, IsReached, IsLast}
use Rattle.tree_journal.specs.Records.{records, records_from, bodies_from, is_named, name_text, record_text, records_text, with_front, IsRecordAt}
use Rattle.tree_journal.proofs.RecordLemmas.{steps_enough, with_none, with_both, record_read, closed_read, IsWhole, whole_parts, whole_next, after_whole, length-record_text}

pub length-records_text-append : (bodies more : List (List ℕ)) → length (records_text (bodies ++ more)) ≡ length (records_text bodies) + length (records_text more)
length-records_text-append [] more = omega arith
length-records_text-append (body ∷ bodies) more =
    omega (
      arith,
      length-records_text-append bodies more,
      length-append (record_text body) (records_text (bodies ++ more)),
      length-append (record_text body) (records_text bodies),
    )

length-records_text-one : (bodies : List (List ℕ)) (body : List ℕ) → length (records_text (bodies ++ body ∷ [])) ≡ length (records_text bodies) + (5 + length body)
length-records_text-one bodies body =
    omega (arith, length-records_text-append bodies (body ∷ []), length-append (record_text body) [], length-record_text body)

abbrev with_tail : (rest body : List ℕ) (whole : IsWhole rest body) (tail : List ℕ) → IsWhole (whole.head ++ (body ++ tail)) body
with_tail rest body whole tail =
    record { head = whole.head; more = tail; text = refl; four = whole.four; size = whole.size; short = whole.short }

-- a front, and a whole record after a set commit mark
module _ (front : List ℕ) (bodies : List (List ℕ)) (rest body : List ℕ) (whole : IsWhole rest body) where
  abbrev pub longer : List ℕ
  longer = front ++ 1 ∷ (whole.head ++ body)

  pub length-longer : length longer ≡ length front + (5 + length body)
  length-longer = omega (arith, length-append front (1 ∷ (whole.head ++ body)), length-append whole.head body, whole.four)

  longer_text : (tail : List ℕ) → longer ++ tail ≡ front ++ 1 ∷ (whole.head ++ (body ++ tail))
  longer_text tail =
      append_assoc front (1 ∷ (whole.head ++ body)) tail ∙ ap (λ (l : List ℕ). front ++ 1 ∷ l) (append_assoc whole.head body tail)

  pub whole_text_at : front ++ 1 ∷ rest ≡ longer ++ whole.more
  whole_text_at = ap (λ (l : List ℕ). front ++ 1 ∷ l) whole.text ∙ sym (longer_text whole.more)

  -- the record is there, whatever comes after it
  pub there_with : (file tail : List ℕ) → file ≡ longer ++ tail → IsRecordAt file (length front) body
  there_with file tail text = (
    whole.head ++ (body ++ tail),
    ap (λ (l : List ℕ). drop (length front) l) (text ∙ longer_text tail) ∙ drop_at front (1 ∷ (whole.head ++ (body ++ tail))) (length front) refl,
    whole_next (whole.head ++ (body ++ tail)) body (with_tail rest body whole tail),
  )

  pub next_front : IsFront front bodies → IsFront longer (bodies ++ body ∷ [])
  next_front is = record {
    reads = λ tail.
        let later : List ℕ = whole.head ++ (body ++ tail) in
        let long : length later ≡ 4 + length body + length tail =
        omega (arith, length-append whole.head (body ++ tail), length-append body tail, whole.four) in
        ap records (longer_text tail) ∙ is.reads (1 ∷ later)
        ∙ ap (λ (read : Result (List (List ℕ)) ℕ). with_front bodies read)
        (record_read (length (1 ∷ later)) (length front) (length tail) later body (with_tail rest body whole tail) (omega arith) (omega arith))
        ∙ with_both bodies (body ∷ []) _
        ∙ ap (λ (k : ℕ). with_front (bodies ++ body ∷ []) (records_from (length tail) k tail)) (sym length-longer);
    named = (
      is.named.0 ++ 1 ∷ (whole.head ++ body),
      ap (λ (l : List ℕ). l ++ 1 ∷ (whole.head ++ body)) is.named.1 ∙ append_assoc (1 ∷ name_text) is.named.0 (1 ∷ (whole.head ++ body)),
    );
    long = omega (arith, length-longer, is.long, length-records_text-one bodies body);
  }

-- the name after a set commit mark
pub first_front : IsFront (1 ∷ name_text) []
first_front = record {
  reads = λ rest. steps_enough (length ((1 ∷ name_text) ++ rest)) (length rest) 9 rest (omega arith) (omega arith) ∙ sym (with_none _);
  named = ([], refl);
  long = refl;
}

module _ (file : List ℕ) (at : ℕ) (bodies : List (List ℕ)) where
  pub rest_at : (reaches : Reaches file at bodies) → drop at file ≡ reaches.rest
  rest_at reaches = ap (λ (l : List ℕ). drop at l) reaches.text ∙ drop_at reaches.front reaches.rest at (sym reaches.place)

  pub reached_size : (reaches : Reaches file at bodies) → length file ≡ at + length reaches.rest
  reached_size reaches = omega (arith, ap length reaches.text, length-append reaches.front reaches.rest, reaches.place)

  pub reached_file : Reaches file at bodies → records file ≡ with_front bodies (bodies_from file at)
  reached_file reaches =
      let place : length reaches.front ≡ at = sym reaches.place in
      ap records reaches.text ∙ reaches.is.reads reaches.rest
      ∙ ap (λ (read : Result (List (List ℕ)) ℕ). with_front bodies read)
      (steps_enough (length reaches.rest) (length file) (length reaches.front) reaches.rest (omega arith) (omega (arith, reached_size reaches))
      ∙ (λ i. records_from (length file) (place i) (sym (rest_at reaches) i)))

  reached_is_named : Reaches file at bodies → is_named file ≡ true
  reached_is_named reaches =
      let text : file ≡ 1 ∷ (name_text ++ (reaches.is.named.0 ++ reaches.rest)) =
      reaches.text ∙ ap (λ (l : List ℕ). l ++ reaches.rest) reaches.is.named.1 ∙ append_assoc (1 ∷ name_text) reaches.is.named.0 reaches.rest in
      ap is_named text

  reached_named : Reaches file at bodies → records file ≡ bodies_from file 9
  reached_named reaches =
      let is : is_named file ≡ true = reached_is_named reaches in
      rw is refl

  pub end_read : IsEnd file at bodies → bodies_from file at ≡ Ok []
  end_read end =
      ap (λ (l : List ℕ). records_from (length file) at l) (rest_at end.reaches ∙ end.rest)
      ∙ closed_read (length file) at end.gate end.behind (omega (arith, reached_size end.reaches, ap length end.rest)) end.closed

  pub end_file : IsEnd file at bodies → records file ≡ Ok bodies
  end_file end =
      reached_file end.reaches ∙ ap (λ (read : Result (List (List ℕ)) ℕ). with_front bodies read) (end_read end) ∙ (λ i. Ok (append-nil bodies i))

-- once the clear commit mark was found, the file is a journal
pub end_opens : (file : List ℕ) (end : Option ℕ) → IsSome end → IfSome end (IsLast file)
    → (bodies : List (List ℕ)) × (records file ≡ Ok bodies)
unfolding IsLast
end_opens file (Some place) some ended = (ended.0, end_file file place ended.0 ended.1)
end_opens file None some ended = absurd (cc some)

-- a file that begins as a journal
pub named_file : (file : List ℕ) → is_named file ≡ true → Reaches file 9 []
named_file file is =
    let first : take 9 file ≡ 1 ∷ name_text = (bytes_eq-Decides (take 9 file) (1 ∷ name_text)).0 is in
    record {
      front = 1 ∷ name_text;
      rest = drop 9 file;
      text = sym (take-append-drop 9 file) ∙ ap (λ (l : List ℕ). l ++ drop 9 file) first;
      place = refl;
      is = first_front;
    }

-- a place that was reached, and a whole record there
unfoldable pub next_reached : (file : List ℕ) (at : ℕ) (bodies : List (List ℕ)) (body : List ℕ) → Reaches file at bodies → IsRecordAt file at body
    → Reaches file (at + (5 + length body)) (bodies ++ body ∷ [])
next_reached file at bodies body reaches found =
    let whole = whole_parts found.0 body found.2 in
    let rest : reaches.rest ≡ 1 ∷ found.0 = sym (rest_at file at bodies reaches) ∙ found.1 in
    record {
      front = longer reaches.front bodies found.0 body whole;
      rest = whole.more;
      text = reaches.text ∙ ap (λ (l : List ℕ). reaches.front ++ l) rest ∙ whole_text_at reaches.front bodies found.0 body whole;
      place = omega (arith, reaches.place, length-longer reaches.front bodies found.0 body whole);
      is = next_front reaches.front bodies found.0 body whole reaches.is;
    }

-- what is read there is that record, and then what comes after it
pub found_read : (file : List ℕ) (at : ℕ) (body : List ℕ) → IsRecordAt file at body
    → bodies_from file at ≡ with_front (body ∷ []) (bodies_from file (at + (5 + length body)))
found_read file at body found =
    let whole = whole_parts found.0 body found.2 in
    let size : length file ≡ at + (1 + length found.0) = omega (arith, length-drop at file, ap length found.1) in
    let rest : whole.more ≡ drop (at + (5 + length body)) file =
    sym (after_whole found.0 body whole) ∙ ap (λ (l : List ℕ). drop (4 + length body) (drop 1 l)) (sym found.1) ∙ later in
    let less : length whole.more ≤ length file = omega (arith, ap length rest, length-drop (at + (5 + length body)) file) in
    ap (λ (l : List ℕ). records_from (length file) at l) found.1
    ∙ record_read (length file) at (length file) found.0 body whole (omega (arith, size)) less
    ∙ ap (λ (l : List ℕ). with_front (body ∷ []) (records_from (length file) (at + (5 + length body)) l)) rest
  where
    later : drop (4 + length body) (drop 1 (drop at file)) ≡ drop (at + (5 + length body)) file
    later =
        let sum : at + 1 + (4 + length body) ≡ at + (5 + length body) = omega arith in
        ap (λ (l : List ℕ). drop (4 + length body) l) (drop-drop 1 at file) ∙ drop-drop (4 + length body) (at + 1) file ∙ ap (λ (k : ℕ). drop k file) sum

-- of the places that reading comes to: the first commit mark, the next one after a record, and the clear commit mark
pub reached_named_file : (file : List ℕ) (at : ℕ) → IsReached file at → records file ≡ bodies_from file 9
unfolding IsReached
reached_named_file file at reached = reached_named file at reached.0 reached.1

pub reached_begins : (file : List ℕ) (at : ℕ) → IsReached file at → is_named file ≡ true
unfolding IsReached
reached_begins file at reached = reached_is_named file at reached.0 reached.1

pub first_is_reached : (file : List ℕ) → is_named file ≡ true → IsReached file 9
unfolding IsReached
first_is_reached file is = ([], named_file file is)

pub first_again : (file : List ℕ) (at : ℕ) → IsReached file at → IsReached file 9
unfolding IsReached
first_again file at reached = ([], named_file file (reached_is_named file at reached.0 reached.1))

pub last_is_reached : (file : List ℕ) (at : ℕ) → IsLast file at → IsReached file at
unfolding IsReached IsLast
last_is_reached file at last = (last.0, last.1.reaches)

pub next_is_reached : (file : List ℕ) (at : ℕ) (body : List ℕ) → IsReached file at → IsRecordAt file at body → IsReached file (at + (5 + length body))
unfolding IsReached
next_is_reached file at body reached found = (reached.0 ++ body ∷ [], next_reached file at reached.0 body reached.1 found)

pub shut_is_last : (file : List ℕ) (at gate : ℕ) (behind : List ℕ) → IsReached file at → drop at file ≡ gate ∷ behind → gate ≢ 1 → IsLast file at
unfolding IsReached IsLast
shut_is_last file at gate behind reached rest closed =
    (reached.0, record { reaches = reached.1; gate = gate; behind = behind; rest = sym (rest_at file at reached.0 reached.1) ∙ rest; closed = closed })
