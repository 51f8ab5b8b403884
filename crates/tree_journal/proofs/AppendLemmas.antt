-- What an append makes of a journal, and what a crash leaves of it.
-- Lemmas on lists, with no disk in them. `Ready` is all that an append makes of a file, and each clause is one field of it.
use Rattle.std.proofs.Common.{◌≡◌, ◌≢◌, ◌∙◌, inl, inr, ℕ, suc, ◌+◌, ◌≤◌, List, [], ◌∷◌, ◌++◌, length, take, drop, Result, Ok, Err, refl, sym, ap, subst, arith, append_assoc, length-append, take-append-drop}
use Rattle.std.proofs.lemmas.Bool.{cases_eq}
use Rattle.std.proofs.lemmas.List.{take_at, drop_at, append-nil, take-append-le}
use Rattle.gd_disk.specs.Disks.{written}
use Rattle.tree_journal.specs.Crashes.{IsBeforeOrAfter}
use Rattle.tree_journal.specs.Private.Fronts.{IsFront, Reaches, IsEnd, IsReached, IsLast}
use Rattle.journal_gates.specs.Gates.{IsGated, gated}
use Rattle.tree_journal.specs.Records.{records, bodies_from, record_text, records_text, with_front, AreRecordsFrom, IsRecordAt}
use Rattle.tree_journal.proofs.FrontLemmas.{longer, length-longer, whole_text_at, there_with, next_front, next_reached, reached_file, end_file, length-records_text-append}
use Rattle.journal_gates.proofs.GateLemmas.{written_both}
use Rattle.tree_journal.proofs.RecordLemmas.{IsWhole, whole_parts, whole_text, closed_read}

abbrev bodies_of : List (List ℕ) → Result (List (List ℕ)) ℕ → List (List ℕ)
bodies_of other (Ok bodies) = bodies
bodies_of other (Err at) = other

-- what was read up to a place comes first
read_first : (before all : List (List ℕ)) (read : Result (List (List ℕ)) ℕ) → with_front before read ≡ Ok all
    → (more : List (List ℕ)) × (read ≡ Ok more) × (before ++ more ≡ all)
read_first before all (Ok more) is = (more, refl, ap (bodies_of []) is)
read_first before all (Err at) is = absurd (cc is)

-- a clear commit mark after a front
pub front_closed : (front : List ℕ) (bodies : List (List ℕ)) (gate : ℕ) (behind : List ℕ) → IsFront front bodies → gate ≢ 1
    → records (front ++ gate ∷ behind) ≡ Ok bodies
front_closed front bodies gate behind is shut =
    is.reads (gate ∷ behind)
    ∙ ap (λ (read : Result (List (List ℕ)) ℕ). with_front bodies read) (closed_read (suc (length behind)) (length front) gate behind (omega arith) shut)
    ∙ (λ i. Ok (append-nil bodies i))

abbrev pub piece_of : List ℕ → List ℕ
piece_of body = record_text body ++ 0 ∷ []

module _ (front : List ℕ) (bodies : List (List ℕ)) (shut : ℕ) (behind body : List ℕ) (is : IsFront front bodies) (closed : shut ≢ 1)
    (short : length body ≤ 65536) where
  abbrev more : List ℕ
  more = drop (length (piece_of body)) behind

  abbrev whole : IsWhole (record_text body ++ 0 ∷ more) body
  whole = whole_text body (0 ∷ more) short

  abbrev new_front : List ℕ
  new_front = longer front bodies (record_text body ++ 0 ∷ more) body whole

  gated_text : (gate : ℕ) → gated front gate (piece_of body) behind ≡ front ++ gate ∷ (record_text body ++ 0 ∷ more)
  gated_text gate = ap (λ (l : List ℕ). front ++ gate ∷ l) (append_assoc (record_text body) (0 ∷ []) more)

  new_text : gated front 1 (piece_of body) behind ≡ new_front ++ 0 ∷ more
  new_text = gated_text 1 ∙ whole_text_at front bodies (record_text body ++ 0 ∷ more) body whole

  new_is : IsFront new_front (bodies ++ body ∷ [])
  new_is = next_front front bodies (record_text body ++ 0 ∷ more) body whole is

  pub new_records : records (gated front 1 (piece_of body) behind) ≡ Ok (bodies ++ body ∷ [])
  new_records = ap records new_text ∙ front_closed new_front (bodies ++ body ∷ []) 0 more new_is (omega arith)

  pub doubtful : (c : List ℕ) → IsGated front shut (piece_of body) behind c → IsBeforeOrAfter bodies body c
  doubtful c (inl before) = inl (ap records before.1 ∙ front_closed front bodies shut before.0 is closed)
  doubtful c (inr after) = elim (cases_eq after.0 1) [
    | inl one ↦ inr (ap records after.1 ∙ ap (λ (gate : ℕ). records (gated front gate (piece_of body) behind)) one ∙ new_records)
    | inr other ↦ inl (ap records after.1 ∙ front_closed front bodies after.0 _ is other)
  ]

  pub new_there : IsRecordAt (gated front 1 (piece_of body) behind) (length front) body
  new_there = there_with front bodies (record_text body ++ 0 ∷ more) body whole (gated front 1 (piece_of body) behind) (0 ∷ more) new_text

  pub new_end : IsEnd (gated front 1 (piece_of body) behind) (length front + (5 + length body)) (bodies ++ body ∷ [])
  new_end = record {
    reaches = record {
      front = new_front;
      rest = 0 ∷ more;
      text = new_text;
      place = sym (length-longer front bodies (record_text body ++ 0 ∷ more) body whole);
      is = new_is;
    };
    gate = 0;
    behind = more;
    rest = refl;
    closed = omega arith;
  }

  -- a place that was reached before is in the new file
  module _ (file : List ℕ) (text : file ≡ front ++ shut ∷ behind) (at : ℕ) (before : List (List ℕ)) (reaches : Reaches file at before) where
    all : records file ≡ Ok bodies
    all = ap records text ∙ front_closed front bodies shut behind is closed

    pub read_there : (later : List (List ℕ)) × (bodies_from file at ≡ Ok later) × (before ++ later ≡ bodies)
    read_there = read_first before bodies (bodies_from file at) (sym (reached_file file at before reaches) ∙ all)

    within : length reaches.front ≤ length front
    within =
        let sum : length (records_text before) + length (records_text read_there.0) ≡ length (records_text bodies) =
        sym (length-records_text-append before read_there.0) ∙ ap (λ (l : List (List ℕ)). length (records_text l)) read_there.2 in
        omega (arith, reaches.is.long, is.long, sum)

    first : reaches.front ≡ take (length reaches.front) front
    first =
        sym (take_at reaches.front reaches.rest (length reaches.front) refl)
        ∙ ap (λ (l : List ℕ). take (length reaches.front) l) (sym reaches.text ∙ text)
        ∙ take-append-le (length reaches.front) front (shut ∷ behind) within

    pub still_reached : (x : ℕ) (later : List ℕ) → Reaches (front ++ x ∷ later) at before
    still_reached x later =
        let between : List ℕ = drop (length reaches.front) front in
        let split : front ≡ reaches.front ++ between =
        sym (take-append-drop (length reaches.front) front) ∙ ap (λ (l : List ℕ). l ++ between) (sym first) in
        record {
          front = reaches.front;
          rest = between ++ x ∷ later;
          text = ap (λ (l : List ℕ). l ++ x ∷ later) split ∙ append_assoc reaches.front between (x ∷ later);
          place = reaches.place;
          is = reaches.is;
        }

    pub read_on : (later : List (List ℕ)) → bodies_from file at ≡ Ok later
        → bodies_from (gated front 1 (piece_of body) behind) at ≡ Ok (later ++ body ∷ [])
    read_on later read =
        let new : List ℕ = gated front 1 (piece_of body) behind in
        let found = read_first before (bodies ++ body ∷ []) (bodies_from new at) (sym (reached_file new at before (still_reached 1 _)) ∙ new_records) in
        let same : later ≡ read_there.0 = ap (bodies_of []) (sym read ∙ read_there.1) in
        let whole_list : before ++ found.0 ≡ before ++ (later ++ body ∷ []) =
        found.2 ∙ ap (λ (l : List (List ℕ)). l ++ body ∷ []) (sym read_there.2 ∙ ap (λ (l : List (List ℕ)). before ++ l) (sym same))
        ∙ append_assoc before later (body ∷ []) in
        let rest : found.0 ≡ later ++ body ∷ [] =
        sym (drop_at before found.0 (length before) refl) ∙ ap (λ (l : List (List ℕ)). drop (length before) l) whole_list
        ∙ drop_at before (later ++ body ∷ []) (length before) refl in
        found.1 ∙ (λ i. Ok (rest i))

  -- the earlier records, from a place that was reached, are in the new file
  module _ (file : List ℕ) (text : file ≡ front ++ shut ∷ behind) (x : ℕ) (later : List ℕ) where
    still_there : (at : ℕ) (before : List (List ℕ)) (next : List ℕ) → Reaches file at before → IsRecordAt file at next
        → IsRecordAt (front ++ x ∷ later) at next
    unfolding next_reached still_reached
    still_there at before next reaches there =
        let whole_next = whole_parts there.0 next there.2 in
        let now = still_reached file text (at + (5 + length next)) (before ++ next ∷ []) (next_reached file at before next reaches there) x later in
        subst (λ (k : ℕ). IsRecordAt (front ++ x ∷ later) k next) (sym reaches.place)
        (there_with reaches.front before there.0 next whole_next (front ++ x ∷ later) now.rest now.text)

    pub still_stand : (at to : ℕ) (before all : List (List ℕ)) → Reaches file at before → AreRecordsFrom file at all to
        → AreRecordsFrom (front ++ x ∷ later) at all to
    still_stand at to before [] reaches here = here
    still_stand at to before (next ∷ all) reaches (there, rest) =
        let place : at + (5 + length next) ≡ at + 5 + length next = omega arith in (
          still_there at before next reaches there,
          still_stand (at + 5 + length next) to (before ++ next ∷ []) all
              (subst (λ (k : ℕ). Reaches file k (before ++ next ∷ [])) place (next_reached file at before next reaches there)) rest,
        )

-- all that an append makes of a file whose clear commit mark is at a place
pub record Ready (file : List ℕ) (end : ℕ) (body : List ℕ) : Type 0 where
  pub front : List ℕ
  pub shut : ℕ
  pub behind : List ℕ
  pub bodies : List (List ℕ)
  pub text : file ≡ front ++ shut ∷ behind
  pub place : end ≡ length front
  pub old : records file ≡ Ok bodies
  pub new : records (gated front 1 (piece_of body) behind) ≡ Ok (bodies ++ body ∷ [])
  pub doubt : (c : List ℕ) → IsGated front shut (piece_of body) behind c → IsBeforeOrAfter bodies body c
  pub last : IsLast (gated front 1 (piece_of body) behind) (end + (5 + length body))
  pub cursor : (at : ℕ) → IsReached file at → IsReached (gated front 1 (piece_of body) behind) at
  pub there : IsRecordAt (gated front 1 (piece_of body) behind) end body
  pub stay : (at to : ℕ) (all : List (List ℕ)) → IsReached file at → AreRecordsFrom file at all to
      → AreRecordsFrom (gated front 1 (piece_of body) behind) at all to
  pub ahead : (at : ℕ) (later : List (List ℕ)) → IsReached file at → bodies_from file at ≡ Ok later
      → bodies_from (gated front 1 (piece_of body) behind) at ≡ Ok (later ++ body ∷ [])

pub ready : (file : List ℕ) (end : ℕ) (body : List ℕ) → length body ≤ 65536 → IsLast file end → Ready file end body
unfolding IsLast IsReached
ready file end body short last =
    let reaches = last.1.reaches in
    let bodies = last.0 in
    let front = reaches.front in
    let shut = last.1.gate in
    let behind = last.1.behind in
    let text : file ≡ front ++ shut ∷ behind = reaches.text ∙ ap (λ (l : List ℕ). front ++ l) last.1.rest in
    record {
      front = front;
      shut = shut;
      behind = behind;
      bodies = bodies;
      text = text;
      place = reaches.place;
      old = end_file file end bodies last.1;
      new = new_records front bodies shut behind body reaches.is last.1.closed short;
      doubt = doubtful front bodies shut behind body reaches.is last.1.closed short;
      last = (
        bodies ++ body ∷ [],
        subst (λ (k : ℕ). IsEnd (gated front 1 (piece_of body) behind) (k + (5 + length body)) (bodies ++ body ∷ [])) (sym reaches.place)
            (new_end front bodies shut behind body reaches.is last.1.closed short),
      );
      cursor = λ at reached. (reached.0, still_reached front bodies shut behind body reaches.is last.1.closed short file text at reached.0 reached.1 1 _);
      there = subst (λ (k : ℕ). IsRecordAt (gated front 1 (piece_of body) behind) k body) (sym reaches.place)
          (new_there front bodies shut behind body reaches.is last.1.closed short);
      stay = λ at to all reached stand. still_stand front bodies shut behind body reaches.is last.1.closed short file text 1 _ at to reached.0 all reached.1 stand;
      ahead = λ at later reached read. read_on front bodies shut behind body reaches.is last.1.closed short file text at reached.0 reached.1 later read;
    }

-- the same under the names of the calls
module _ (file : List ℕ) (end : ℕ) (body : List ℕ) (made : Ready file end body) where
  pub in_file : end + 1 ≤ length file
  in_file = omega (arith, ap length made.text, length-append made.front (made.shut ∷ made.behind), made.place)

  pub after_all : (piece : List ℕ) → piece ≡ piece_of body → (bodies : List (List ℕ)) → records file ≡ Ok bodies → (c : List ℕ)
      → IsGated made.front made.shut piece made.behind c → IsBeforeOrAfter bodies body c
  after_all piece text bodies is c gated_file =
      let same : made.bodies ≡ bodies = ap (bodies_of []) (sym made.old ∙ is) in
      subst (λ (all : List (List ℕ)). IsBeforeOrAfter all body c) same
      (made.doubt c (subst (λ (p : List ℕ). IsGated made.front made.shut p made.behind c) text gated_file))

  pub new_file : (piece : List ℕ) → piece ≡ piece_of body → written (written file (end + 1) piece) end (1 ∷ []) ≡ gated made.front 1 (piece_of body) made.behind
  new_file piece text =
      (λ i. written (written (made.text i) (end + 1) (text i)) end (1 ∷ [])) ∙ written_both made.front made.shut made.behind (piece_of body) end (sym made.place) 1

  pub new_bodies : (bodies : List (List ℕ)) → records file ≡ Ok bodies → records (gated made.front 1 (piece_of body) made.behind) ≡ Ok (bodies ++ body ∷ [])
  new_bodies bodies is =
      let same : made.bodies ≡ bodies = ap (bodies_of []) (sym made.old ∙ is) in
      made.new ∙ (λ i. Ok (same i ++ body ∷ []))
