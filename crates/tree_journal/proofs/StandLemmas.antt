-- What is read of records one after the other, and where no more are.
use Rattle.std.proofs.Common.{◌≡◌, ◌∙◌, ℕ, zero, suc, ◌+◌, ◌≤◌, List, [], ◌∷◌, length, drop, Option, Some, None, Result, Ok, Err, Bool, true, false, sym, ap, arith}
use Rattle.std.specs.Prelude.{if◌then◌else◌, ◌==◌}
use Rattle.tree_journal.specs.Records.{records_from, bodies_from, body_next, record_then, with_front, AreRecordsFrom}
use Rattle.tree_journal.proofs.FrontLemmas.{found_read}
use Rattle.tree_journal.proofs.RecordLemmas.{with_none, with_both}

-- they are read, and then what comes after them
pub stand_read : (file : List ℕ) (from to : ℕ) (bodies : List (List ℕ)) → AreRecordsFrom file from bodies to
    → bodies_from file from ≡ with_front bodies (bodies_from file to)
stand_read file from to [] here = ap (bodies_from file) here ∙ sym (with_none (bodies_from file to))
stand_read file from to (body ∷ bodies) (first, rest) =
    let place : from + (5 + length body) ≡ from + 5 + length body = omega arith in
    found_read file from body first ∙ ap (λ (k : ℕ). with_front (body ∷ []) (bodies_from file k)) place
    ∙ ap (λ (read : Result (List (List ℕ)) ℕ). with_front (body ∷ []) read) (stand_read file (from + 5 + length body) to bodies rest)
    ∙ with_both (body ∷ []) bodies (bodies_from file to)

front_breaks : (before : List (List ℕ)) (read : Result (List (List ℕ)) ℕ) (place : ℕ) → with_front before read ≡ Err place → read ≡ Err place
front_breaks before (Ok bodies) place is = absurd (cc is)
front_breaks before (Err at) place is = is

-- a commit mark breaks off a journal, or a later one does
gate_breaks : (is_open : Bool) (at place : ℕ) (found : Option (List ℕ)) (later : List ℕ → Result (List (List ℕ)) ℕ)
    → ((body : List ℕ) → later body ≡ Err place → at ≤ place) → (if is_open then record_then at found later else Ok []) ≡ Err place → at ≤ place
gate_breaks false at place found later after is = absurd (cc is)
gate_breaks true at place None later after is =
    let same : at ≡ place = cc is in
    omega arith
gate_breaks true at place (Some body) later after is = after body (front_breaks (body ∷ []) (later body) place is)

breaks_from : (steps at : ℕ) (rest : List ℕ) (place : ℕ) → records_from steps at rest ≡ Err place → at ≤ place
breaks_from zero at rest place is =
    let same : at ≡ place = cc is in
    omega arith
breaks_from (suc steps) at [] place is =
    let same : at ≡ place = cc is in
    omega arith
breaks_from (suc steps) at (gate ∷ rest) place is =
    gate_breaks (gate == 1) at place (body_next rest) (λ body. records_from steps (at + 5 + length body) (drop (4 + length body) rest))
    (λ body later.
    let further : at + 5 + length body ≤ place = breaks_from steps (at + 5 + length body) (drop (4 + length body) rest) place later in
    omega arith) is

-- the commit mark at which it breaks off is not before the first one
pub breaks_further_on : (file : List ℕ) (from at : ℕ) → bodies_from file from ≡ Err at → from ≤ at
breaks_further_on file from at is = breaks_from (length file) from (drop from file) at is
