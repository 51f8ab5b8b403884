-- What turns of a block leave on its way to members, one turn after the other.
use Rattle.std.proofs.Common.{◌≡◌, ◌∙◌, ◌||◌, ℕ, Bool, true, false, cond, List, [], ◌∷◌, ◌++◌, map, refl, sym, ap}
use Rattle.std.specs.List.{list_any}
use Rattle.std.proofs.lemmas.Bool.{or_parts, or_from}
use Rattle.std.proofs.lemmas.List.{append-nil, append_assoc, map-append}
use Rattle.std.proofs.lemmas.List.Folds.{list_any-append}
use Rattle.group_terms.specs.Names.{Name}
use Rattle.group_model.specs.declared.entries.Answer.{Answer}
use Rattle.group_model.specs.declared.entries.Asked.{Asked}
use Rattle.group_model.specs.declared.entries.Asked.TheVariants as requests
use Rattle.group_model.specs.declared.entries.Entry.{Entry}
use Rattle.group_steps.specs.Gets.{mail_by, mail_to}
use Rattle.member_steps.specs.Members.{Mail}
use Rattle.register_workers.specs.Own.{own_turns, serves, serves_for}
use Rattle.group_run.specs.Blocks.{Left, left_by, left_of}
use Rattle.group_run.proofs.OwnTurnLemmas.{nil_not, same_head, same_rest, turned}
use Rattle.group_run.proofs.ServedLemmas.{same_itself}

-- ---- datagrams

-- the datagram of one that is left
abbrev pub mail_at : Left → Mail
mail_at left = left.mail

-- all that turns leave on its way
abbrev pub way_of : List Entry → List Mail
way_of turns = map mail_at (left_of turns)

-- of all that answers something, or nothing, of its member
abbrev pub all_left : Bool → List Mail → List Left
all_left own mails = map (λ (mail : Mail). record { mail = mail; own = own }) mails

pub mails_left : (own : Bool) (mails : List Mail) → map mail_at (all_left own mails) ≡ mails
mails_left own [] = refl
mails_left own (mail ∷ mails) = λ i. mail ∷ mails_left own mails i

-- ---- who sends later

-- whether a turn is of the member whose request this was
abbrev pub is_later_for : Entry → Asked → Bool
is_later_for turn (requests.Serve m datagram) = serves m turn
is_later_for turn asked = false

abbrev pub is_later : Entry → Entry → Bool
is_later turn earlier = is_later_for turn earlier.asked

-- no turn is, where this one is of nobody
pub later_of_none : (turn : Entry) → ((m : Name) → serves m turn ≡ false) → (front : List Entry) → list_any (is_later turn) front ≡ false
later_of_none turn nobody [] = refl
later_of_none turn nobody (first ∷ front) = or_from (is_later turn first) (list_any (is_later turn) front) (by_ask first.asked) (later_of_none turn nobody front)
  where
    by_ask : (asked : Asked) → is_later_for turn asked ≡ false
    by_ask (requests.Serve m datagram) = nobody m
    by_ask asked = refl

module _ (m : Name) (turn : Entry) (datagram : List ℕ) (is_turn : turn.asked ≡ requests.Serve m datagram) where
  later_of_other : (asked : Asked) → serves_for m asked ≡ false → is_later_for turn asked ≡ false
  later_of_other (requests.Serve sender octets) other = ap (serves_for sender) is_turn ∙ turned m sender other
  later_of_other asked other = refl

  -- no turn is, where the member had none yet
  pub later_of_own : (front : List Entry) → list_any (serves m) front ≡ false → list_any (is_later turn) front ≡ false
  later_of_own [] none = refl
  later_of_own (first ∷ front) none =
      let parts = or_parts (serves m first) (list_any (serves m) front) none in
      or_from (is_later turn first) (list_any (is_later turn) front) (later_of_other first.asked parts.0) (later_of_own front parts.1)

-- who has no turn
pub none_own : (m : Name) (front : List Entry) → own_turns m front ≡ [] → list_any (serves m) front ≡ false
none_own m [] none = refl
none_own m (first ∷ front) none = by_turn (serves m first) (none_own m front) none
  where
    by_turn : (b : Bool) → (own_turns m front ≡ [] → list_any (serves m) front ≡ false) → cond b (first ∷ own_turns m front) (own_turns m front) ≡ []
        → (b || list_any (serves m) front) ≡ false
    by_turn true rest none = absurd (nil_not first (own_turns m front) none)
    by_turn false rest none = rest none

-- ---- one turn more

or_none : (b c : Bool) → c ≡ false → (b || (c || false)) ≡ b
or_none true c none = refl
or_none false c none = ap (λ c. c || false) none

or_some : (b c : Bool) → c ≡ true → (b || (c || false)) ≡ true
or_some true c there = refl
or_some false c there = ap (λ c. c || false) there

-- what an earlier one left stays, unless the member of it sends now
left_still : (asked : Asked) (answer : Answer) (later : List Entry) (turn : Entry) → is_later_for turn asked ≡ false
    → left_by asked answer (later ++ turn ∷ []) ≡ left_by asked answer later
left_still (requests.Serve m datagram) answer later turn other =
    ap (λ b. cond b [] (all_left true (mail_to m answer)))
    (list_any-append (serves m) later (turn ∷ []) ∙ or_none (list_any (serves m) later) (serves m turn) other)
left_still asked answer later turn other = refl

pub left_more : (turn : Entry) (front : List Entry) → list_any (is_later turn) front ≡ false
    → left_of (front ++ turn ∷ []) ≡ left_of front ++ left_of (turn ∷ [])
left_more turn [] none = refl
left_more turn (first ∷ front) none =
    let parts = or_parts (is_later turn first) (list_any (is_later turn) front) none in
    (λ i. left_still first.asked first.answer front turn parts.0 i ++ left_more turn front parts.1 i)
    ∙ sym (append_assoc (left_by first.asked first.answer front) (left_of front) (left_of (turn ∷ [])))

-- what is on its way, once an answer to this turn was sent
pub way_more : (turn : Entry) (front : List Entry) → list_any (is_later turn) front ≡ false
    → way_of (front ++ turn ∷ []) ≡ way_of front ++ way_of (turn ∷ [])
way_more turn front none = ap (map mail_at) (left_more turn front none) ∙ map-append mail_at (left_of front) (left_of (turn ∷ []))

-- ---- what the turn itself leaves

pub way_served : (turn : Entry) (m : Name) (datagram : List ℕ) → turn.asked ≡ requests.Serve m datagram → way_of (turn ∷ []) ≡ mail_to m turn.answer
way_served turn m datagram is =
    ap (λ asked. map mail_at (left_by asked turn.answer [] ++ [])) is
    ∙ ap (map mail_at) (append-nil (all_left true (mail_to m turn.answer)))
    ∙ mails_left true (mail_to m turn.answer)

pub way_batch : (turn : Entry) → turn.asked ≡ requests.Batch → way_of (turn ∷ []) ≡ mail_by turn.answer
way_batch turn is =
    ap (λ asked. map mail_at (left_by asked turn.answer [] ++ [])) is
    ∙ ap (map mail_at) (append-nil (all_left false (mail_by turn.answer)))
    ∙ mails_left false (mail_by turn.answer)

pub way_leave : (turn : Entry) (m : Name) → turn.asked ≡ requests.Leave m → way_of (turn ∷ []) ≡ []
way_leave turn m is = ap (λ asked. map mail_at (left_by asked turn.answer [] ++ [])) is

-- ---- a datagram that is answered

-- One datagram is on its way before a turn by which its member answers it, and no longer after it.
pub record IsTaken (mail : Mail) (turn : Entry) (front : List Entry) : Type 0 where
  pub passed : List Left
  pub later : List Left
  pub were : left_of front ≡ passed ++ record { mail = mail; own = true } ∷ later
  pub now : left_of (front ++ turn ∷ []) ≡ (passed ++ later) ++ left_of (turn ∷ [])

module _ (m : Name) (first turn : Entry) (datagram octets third : List ℕ) (asked : first.asked ≡ requests.Serve m datagram)
    (answered : mail_to m first.answer ≡ (m, octets) ∷ []) (is_turn : turn.asked ≡ requests.Serve m third) where
  pub taken_from : (front : List Entry) → own_turns m front ≡ first ∷ [] → IsTaken (m, octets) turn front
  taken_from [] are = absurd (nil_not first [] (sym are))
  taken_from (entry ∷ front) are = by_turn (serves m entry) refl are (taken_from front)
    where
      -- it is the answer to this one
      here : entry ≡ first → own_turns m front ≡ [] → IsTaken (m, octets) turn (entry ∷ front)
      here is none = record {
        passed = [];
        later = left_of front;
        were = ap (λ left. left ++ left_of front) was;
        now = ap (λ left. left ++ left_of (front ++ turn ∷ [])) gone ∙ left_more turn front (later_of_own m turn third is_turn front (none_own m front none));
      }
        where
          was : left_by entry.asked entry.answer front ≡ record { mail = (m, octets); own = true } ∷ []
          was =
              ap (λ (entry : Entry). left_by entry.asked entry.answer front) is
              ∙ ap (λ asked. left_by asked first.answer front) asked
              ∙ ap (λ b. cond b [] (all_left true (mail_to m first.answer))) (none_own m front none)
              ∙ ap (all_left true) answered

          gone : left_by entry.asked entry.answer (front ++ turn ∷ []) ≡ []
          gone =
              ap (λ (entry : Entry). left_by entry.asked entry.answer (front ++ turn ∷ [])) is
              ∙ ap (λ asked. left_by asked first.answer (front ++ turn ∷ [])) asked
              ∙ ap (λ b. cond b [] (all_left true (mail_to m first.answer)))
              (list_any-append (serves m) front (turn ∷ [])
              ∙ or_some (list_any (serves m) front) (serves m turn) (ap (serves_for m) is_turn ∙ same_itself m))

      -- or to one after it
      after : serves m entry ≡ false → IsTaken (m, octets) turn front → IsTaken (m, octets) turn (entry ∷ front)
      after other rest = record {
        passed = left_by entry.asked entry.answer front ++ rest.passed;
        later = rest.later;
        were = ap (λ left. left_by entry.asked entry.answer front ++ left) rest.were
            ∙ sym (append_assoc (left_by entry.asked entry.answer front) rest.passed (record { mail = (m, octets); own = true } ∷ rest.later));
        now = (λ i. left_still entry.asked entry.answer front turn (later_of_other m turn third is_turn entry.asked other) i ++ rest.now i)
            ∙ sym (append_assoc (left_by entry.asked entry.answer front) (rest.passed ++ rest.later) (left_of (turn ∷ [])))
            ∙ ap (λ left. left ++ left_of (turn ∷ [])) (sym (append_assoc (left_by entry.asked entry.answer front) rest.passed rest.later));
      }

      by_turn : (b : Bool) → serves m entry ≡ b → cond b (entry ∷ own_turns m front) (own_turns m front) ≡ first ∷ []
          → (own_turns m front ≡ first ∷ [] → IsTaken (m, octets) turn front) → IsTaken (m, octets) turn (entry ∷ front)
      by_turn true own are rest = here (same_head entry first (own_turns m front) [] are) (same_rest entry first (own_turns m front) [] are)
      by_turn false other are rest = after other (rest are)
