-- Pushes by their numbers, and which entry is noted for each.
use Rattle.std.proofs.Common.{◌≡◌, ◌∙◌, ℕ, zero, suc, ◌+◌, Bool, true, false, cond, List, [], ◌∷◌, ◌++◌, length, reverse}
use Rattle.std.proofs.Common.{Option, None, Some, refl, sym, ap, arith, append-nil}
use Rattle.std.specs.Prelude.{◌==◌, nat_lt}
use Rattle.std.specs.List.{All}
use Rattle.std.specs.Option.{option_or}
use Rattle.std.proofs.lemmas.Bool.{eq-eqb, eqb-true}
use Rattle.std.proofs.lemmas.Grind.{flat_map-append}
use Rattle.std.proofs.lemmas.List.Folds.{find-append}
use Rattle.std.proofs.lemmas.List.{reverse-append}
use Rattle.std.proofs.lemmas.List.Elements.{All-cons, All-head, All-nil, All-tail}
use Rattle.group_model.specs.declared.entries.Entry.{Entry}
use Rattle.group_model.specs.declared.entries.PushPair.{PushPair}
use Rattle.server_steps.specs.Sent.{SentPush, last_push, pair_by, pushes_by, pushes_in, pushes_of, pushes_sent}
use Rattle.sent_pushes.specs.Notes.{noted, numbers_of, place_of}
use Rattle.sent_pushes.specs.declared.notes.Note.{Note}
use Rattle.group_run.specs.Private.Noted.{AreNoted, WereSent, push_at, push_in}

-- ---- a comparison the other way round

same_test : (a b : ℕ) → (a == b) ≡ (b == a)
same_test a b = by_tests (a == b) (b == a) refl refl
  where
    by_tests : (one two : Bool) → (a == b) ≡ one → (b == a) ≡ two → one ≡ two
    by_tests true true is_one is_two = refl
    by_tests false false is_one is_two = refl
    by_tests true false is_one is_two = absurd (cc (eq-eqb b a (sym (eqb-true a b is_one)), is_two))
    by_tests false true is_one is_two = absurd (cc (eq-eqb a b (sym (eqb-true b a is_two)), is_one))

-- ---- the two pushes of a pair, whichever is looked at first

either_first : {A : Type 0} (x y : A) (p q : Bool) → (p ≡ true → q ≡ true → ⊥)
    → cond q (Some y) (cond p (Some x) None) ≡ cond p (Some x) (cond q (Some y) None)
either_first x y true true never = absurd (never refl refl)
either_first x y true false never = refl
either_first x y false true never = refl
either_first x y false false never = refl

turned : (number : ℕ) (pair : Option PushPair) → push_in number (reverse (pushes_in pair)) ≡ push_in number (pushes_in pair)
turned number None = refl
turned number (Some pair) =
    either_first (record { number = pair.first; datagram = pair.membership }) (record { number = pair.first + 1; datagram = pair.traffic })
    (pair.first == number) (pair.first + 1 == number)
    (λ one two. absurd (omega (arith, eqb-true pair.first number one, eqb-true (pair.first + 1) number two)))

-- ---- the last push of a number, once there is one entry more

last_more : (number : ℕ) (entries : List Entry) (entry : Entry)
    → last_push (entries ++ entry ∷ []) number ≡ option_or (push_in number (pushes_by entry.answer)) (last_push entries number)
last_more number entries entry =
    ap (λ pushes. push_in number (reverse pushes)) (flat_map-append (λ (each : Entry). pushes_by each.answer) entries (entry ∷ []))
    ∙ ap (λ own. push_in number (reverse (pushes_sent entries ++ own))) (append-nil (pushes_by entry.answer))
    ∙ ap (push_in number) (reverse-append (pushes_sent entries) (pushes_by entry.answer))
    ∙ find-append (λ (push : SentPush). push.number == number) (reverse (pushes_by entry.answer)) (reverse (pushes_sent entries))
    ∙ ap (λ found. option_or found (last_push entries number)) (turned number (pair_by entry.answer))

-- ---- what the entry at a place sent, once there is one entry more

at_last : (number : ℕ) (entries : List Entry) (entry : Entry)
    → push_at (entries ++ entry ∷ []) number (Some (length entries)) ≡ push_in number (pushes_by entry.answer)
at_last number [] entry = refl
at_last number (first ∷ entries) entry = at_last number entries entry

at_other : (number : ℕ) (entries : List Entry) (entry : Entry) (place : Option ℕ) → push_in number (pushes_by entry.answer) ≡ None
    → push_at (entries ++ entry ∷ []) number place ≡ push_at entries number place
at_other number entries entry None none = refl
at_other number [] entry (Some zero) none = none
at_other number [] entry (Some (suc at)) none = refl
at_other number (first ∷ entries) entry (Some zero) none = refl
at_other number (first ∷ entries) entry (Some (suc at)) none = at_other number entries entry (Some at) none

-- ---- notes

-- one entry more, which sends no push of this number
same_note : (notes new : List Note) (entries : List Entry) (entry : Entry) (number : ℕ) → push_in number (pushes_by entry.answer) ≡ None
    → place_of new number ≡ place_of notes number → push_at entries number (place_of notes number) ≡ last_push entries number
    → push_at (entries ++ entry ∷ []) number (place_of new number) ≡ last_push (entries ++ entry ∷ []) number
same_note notes new entries entry number none same noted =
    ap (push_at (entries ++ entry ∷ []) number) same
    ∙ at_other number entries entry (place_of notes number) none
    ∙ noted
    ∙ sym (last_more number entries entry ∙ ap (λ found. option_or found (last_push entries number)) none)

-- one that sends such a push
new_note : (new : List Note) (entries : List Entry) (entry : Entry) (number : ℕ) (push : SentPush)
    → push_in number (pushes_by entry.answer) ≡ Some push → place_of new number ≡ Some (length entries)
    → push_at (entries ++ entry ∷ []) number (place_of new number) ≡ last_push (entries ++ entry ∷ []) number
new_note new entries entry number push sends at =
    ap (push_at (entries ++ entry ∷ []) number) at
    ∙ at_last number entries entry
    ∙ sends
    ∙ sym (last_more number entries entry ∙ ap (λ found. option_or found (last_push entries number)) sends)

-- an entry that sends nothing
pub noted_still : (notes : List Note) (entries : List Entry) (entry : Entry) → pair_by entry.answer ≡ None → AreNoted notes entries
    → AreNoted notes (entries ++ entry ∷ [])
noted_still notes entries entry none noted number =
    same_note notes notes entries entry number (ap (λ pair. push_in number (pushes_in pair)) none) refl (noted number)

-- what is found by its number once a push was noted
abbrev pub IsFoundOnceNoted : Type 0
IsFoundOnceNoted = (notes : List Note) (number place other : ℕ)
    → place_of (noted notes number place) other ≡ cond (other == number) (Some place) (place_of notes other)

-- with both pushes of a pair
abbrev pub with_pair : List Note → PushPair → ℕ → List Note
with_pair notes pair place = noted (noted notes pair.first place) (pair.first + 1) place

-- an entry that sends a pair, of which both numbers are noted
pub noted_more : IsFoundOnceNoted → (notes : List Note) (entries : List Entry) (entry : Entry) (pair : PushPair) → pair_by entry.answer ≡ Some pair
    → AreNoted notes entries → AreNoted (with_pair notes pair (length entries)) (entries ++ entry ∷ [])
noted_more law notes entries entry pair sends noted_before number =
    by_number (number == pair.first) (number == pair.first + 1) refl refl
  where
    first_push : SentPush
    first_push = record { number = pair.first; datagram = pair.membership }

    second_push : SentPush
    second_push = record { number = pair.first + 1; datagram = pair.traffic }

    found : (one two : Bool) → (number == pair.first) ≡ one → (number == pair.first + 1) ≡ two
        → push_in number (pushes_by entry.answer) ≡ cond one (Some first_push) (cond two (Some second_push) None)
    found one two is_one is_two =
        ap (λ both. push_in number (pushes_in both)) sends
        ∙ ap (λ b. cond b (Some first_push) (cond (pair.first + 1 == number) (Some second_push) None)) (same_test pair.first number ∙ is_one)
        ∙ ap (λ b. cond one (Some first_push) (cond b (Some second_push) None)) (same_test (pair.first + 1) number ∙ is_two)

    at : (one two : Bool) → (number == pair.first) ≡ one → (number == pair.first + 1) ≡ two
        → place_of (noted (noted notes pair.first (length entries)) (pair.first + 1) (length entries)) number
        ≡ cond two (Some (length entries)) (cond one (Some (length entries)) (place_of notes number))
    at one two is_one is_two =
        law (noted notes pair.first (length entries)) (pair.first + 1) (length entries) number
        ∙ ap (λ b. cond b (Some (length entries)) (place_of (noted notes pair.first (length entries)) number)) is_two
        ∙ ap (λ place. cond two (Some (length entries)) place) (law notes pair.first (length entries) number)
        ∙ ap (λ b. cond two (Some (length entries)) (cond b (Some (length entries)) (place_of notes number))) is_one

    by_number : (one two : Bool) → (number == pair.first) ≡ one → (number == pair.first + 1) ≡ two
        → push_at (entries ++ entry ∷ []) number (place_of (noted (noted notes pair.first (length entries)) (pair.first + 1) (length entries)) number)
        ≡ last_push (entries ++ entry ∷ []) number
    by_number true true is_one is_two =
        new_note (with_pair notes pair (length entries)) entries entry number first_push (found true true is_one is_two) (at true true is_one is_two)
    by_number true false is_one is_two =
        new_note (with_pair notes pair (length entries)) entries entry number first_push (found true false is_one is_two) (at true false is_one is_two)
    by_number false true is_one is_two =
        new_note (with_pair notes pair (length entries)) entries entry number second_push (found false true is_one is_two) (at false true is_one is_two)
    by_number false false is_one is_two =
        same_note notes (with_pair notes pair (length entries)) entries entry number (found false false is_one is_two) (at false false is_one is_two)
        (noted_before number)

-- ---- the numbers that are noted

-- a push of this number was sent
abbrev WasSent : List Entry → ℕ → Type 0
WasSent entries number = (push : SentPush) × (last_push entries number ≡ Some push)

-- once there is one entry more it still was
sent_still : (entries : List Entry) (entry : Entry) (number : ℕ) → WasSent entries number → WasSent (entries ++ entry ∷ []) number
sent_still entries entry number sent = by_found (push_in number (pushes_by entry.answer)) refl
  where
    by_found : (found : Option SentPush) → push_in number (pushes_by entry.answer) ≡ found → WasSent (entries ++ entry ∷ []) number
    by_found None is = (sent.0, last_more number entries entry ∙ ap (λ found. option_or found (last_push entries number)) is ∙ sent.1)
    by_found (Some push) is = (push, last_more number entries entry ∙ ap (λ found. option_or found (last_push entries number)) is)

-- so was what this entry sent
sent_now : (entries : List Entry) (entry : Entry) (number : ℕ) (push : SentPush) → push_in number (pushes_by entry.answer) ≡ Some push
    → WasSent (entries ++ entry ∷ []) number
sent_now entries entry number push sends =
    (push, last_more number entries entry ∙ ap (λ found. option_or found (last_push entries number)) sends)

pub sent_same : (notes : List Note) (entries : List Entry) (entry : Entry) → WereSent notes entries → WereSent notes (entries ++ entry ∷ [])
sent_same notes entries entry sent k e less = sent_still entries entry _ (sent k e less)

-- what holds of the numbers that are noted, and of one more
numbers_more : (P : ℕ → Type 0) (notes : List Note) (number place : ℕ) → P number → All P (numbers_of notes)
    → All P (numbers_of (noted notes number place))
numbers_more P [] number place one all = All-cons P number [] one (All-nil P)
numbers_more P (note ∷ notes) number place one all =
    by_tests (nat_lt note.number number) (note.number == number) (numbers_more P notes number place one (All-tail P note.number (numbers_of notes) all))
  where
    by_tests : (below same : Bool) → All P (numbers_of (noted notes number place))
        → All P (numbers_of (cond below (note ∷ noted notes number place)
        (cond same (record { number = number; place = place } ∷ notes) (record { number = number; place = place } ∷ note ∷ notes))))
    by_tests true same rest =
        All-cons P note.number (numbers_of (noted notes number place)) (All-head P note.number (numbers_of notes) all) rest
    by_tests false true rest = All-cons P number (numbers_of notes) one (All-tail P note.number (numbers_of notes) all)
    by_tests false false rest = All-cons P number (note.number ∷ numbers_of notes) one all

-- a pair has a push of each of its numbers
second_in : (pair : PushPair) → (push : SentPush) × (push_in (pair.first + 1) (pushes_of pair) ≡ Some push)
second_in pair = by_test (pair.first == pair.first + 1)
  where
    by_test : (b : Bool) → (push : SentPush) × (cond b (Some (record { number = pair.first; datagram = pair.membership }))
        (cond (pair.first + 1 == pair.first + 1) (Some (record { number = pair.first + 1; datagram = pair.traffic })) None) ≡ Some push)
    by_test true = (record { number = pair.first; datagram = pair.membership }, refl)
    by_test false = (
      record { number = pair.first + 1; datagram = pair.traffic },
      ap (λ b. cond b (Some (record { number = pair.first + 1; datagram = pair.traffic })) None) (eq-eqb (pair.first + 1) (pair.first + 1) refl),
    )

first_in : (pair : PushPair) → push_in pair.first (pushes_of pair) ≡ Some (record { number = pair.first; datagram = pair.membership })
first_in pair =
    ap (λ b. cond b (Some (record { number = pair.first; datagram = pair.membership }))
    (cond (pair.first + 1 == pair.first) (Some (record { number = pair.first + 1; datagram = pair.traffic })) None)) (eq-eqb pair.first pair.first refl)

-- an entry that sends a pair, of which both numbers are noted
pub sent_more : (notes : List Note) (entries : List Entry) (entry : Entry) (pair : PushPair) (place : ℕ) → pair_by entry.answer ≡ Some pair
    → WereSent notes entries → WereSent (with_pair notes pair place) (entries ++ entry ∷ [])
sent_more notes entries entry pair place sends sent =
    numbers_more (WasSent (entries ++ entry ∷ [])) (noted notes pair.first place) (pair.first + 1) place
    (sent_now entries entry (pair.first + 1) (second_in pair).0 (ap (λ both. push_in (pair.first + 1) (pushes_in both)) sends ∙ (second_in pair).1))
    (numbers_more (WasSent (entries ++ entry ∷ [])) notes pair.first place
    (sent_now entries entry pair.first (record { number = pair.first; datagram = pair.membership })
    (ap (λ both. push_in pair.first (pushes_in both)) sends ∙ first_in pair))
    (sent_same notes entries entry sent))
