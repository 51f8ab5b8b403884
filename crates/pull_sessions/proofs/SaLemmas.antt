-- SAs at their places, by their cookies and by their members.
use Rattle.std.proofs.Common.{◌≡◌, ◌⊎◌, ℕ, zero, suc, ◌<◌, Bool, true, false, ltb, ◌||◌, List, [], ◌∷◌, ◌++◌, Option, None, Some, cond, length, map, get_or, take, drop, ◌+◌, add-one, Result, Ok, Err, IsOk, OnOk, refl, sym, ap, ◌∙◌, subst, arith, inl, inr}
use Rattle.std.specs.Prelude.{is_some, option_and_then, slice_get}
use Rattle.std.specs.List.{IsDistinct, find, list_any, position, position_or_len}
use Rattle.std.specs.Str.{bytes_eq}
use Rattle.std.proofs.lemmas.Bool.{cases_Bool, false≢true, cond-true, cond-false}
use Rattle.std.proofs.lemmas.List.{get_or_default, length-map, map-append}
use Rattle.std.proofs.lemmas.List.Folds.{find_at}
use Rattle.std.proofs.lemmas.List.Quantifiers.{position-Some}
use Rattle.std.proofs.lemmas.Map.Keys.{apart_from_distinct, IsDistinct-tail}
use Rattle.std.proofs.lemmas.Option.{none-some, slice_get-get_or}
use Rattle.group_terms.specs.Names.{Name}
use Rattle.group_terms.specs.declared.phases.Phase1.{Phase1}
use Rattle.indexmap.specs.IndexSet.{insert_key}
use Rattle.group_model.proofs.FitLemmas.{list_any-map}
use Rattle.group_model.proofs.IndexLemmas.{is_some-position}
use Rattle.pull_sessions.specs.declared.sas.Sa.{Sa}
use Rattle.pull_sessions.specs.declared.sas.Session.{Session}
use Rattle.pull_sessions.specs.Private.Places.{no_sa, with_session_at}
use Rattle.pull_sessions.specs.Sessions.{AreApart, HasSession, Sessions, cookies_of, sessions_ended, has_cookies, is_of, is_taken_by, members_of, new_sa, put_session, put_sessions, session_of, with_session}
use Rattle.pull_sessions.proofs.IndexLemmas.{bytes_eq-is}

-- ---- what is found

nowhere_any : (p : Sa → Bool) (sas : List Sa) → position p sas ≡ None → list_any p sas ≡ false
nowhere_any p sas none = sym (is_some-position p sas) ∙ ap is_some none

pub not_found : (p : Sa → Bool) (sas : List Sa) → position p sas ≡ None → find p sas ≡ None
not_found p sas none = absent sas (nowhere_any p sas none)
  where
    absent : (sas : List Sa) → list_any p sas ≡ false → find p sas ≡ None
    absent [] none = refl
    absent (sa ∷ sas) none = elim (cases_Bool (p sa)) [
      | inl here ↦ absurd (false≢true (sym none ∙ ap (λ b. b || list_any p sas) here))
      | inr other ↦ cond-false (p sa) (Some sa) (find p sas) other ∙ absent sas (sym (ap (λ b. b || list_any p sas) other) ∙ none)
    ]

found_at : (p : Sa → Bool) (sas : List Sa) (i : ℕ) → position p sas ≡ Some i → find p sas ≡ Some (get_or sas i no_sa)
found_at p sas i is =
    find_at p sas ∙ ap (slice_get sas) (place_is (ltb (position_or_len p sas) (length sas)) (position_or_len p sas) is)
    ∙ slice_get-get_or sas i no_sa (position-Some p sas i no_sa is).0
  where
    place_is : (b : Bool) (n : ℕ) → cond b (Some n) None ≡ Some i → n ≡ i
    place_is true n is = ap or_zero is
      where
        or_zero : Option ℕ → ℕ
        or_zero None = 0
        or_zero (Some n) = n
    place_is false n is = absurd (none-some i is)

-- what is read at its place is the SA that is found
pub seen_at : (p : Sa → Bool) (was now : List Sa) (i : ℕ) (sa : Sa) → was ≡ now → position p now ≡ Some i → sa ≡ get_or was i sa → Some sa ≡ find p now
seen_at p was now i sa same is seen =
    ap Some (seen ∙ ap (λ sas. get_or sas i sa) same ∙ get_or_default now i sa no_sa (position-Some p now i no_sa is).0) ∙ sym (found_at p now i is)

-- ---- whose cookies or member are taken

pub taken : (phase : Phase1) (sas : List Sa) → list_any (is_taken_by phase) sas ≡ (list_any (has_cookies phase.cookies) sas || list_any (is_of phase.member) sas)
taken phase [] = refl
taken phase (sa ∷ sas) =
    ap (λ b. is_taken_by phase sa || b) (taken phase sas)
    ∙ turned (has_cookies phase.cookies sa) (is_of phase.member sa) (list_any (has_cookies phase.cookies) sas) (list_any (is_of phase.member) sas)
  where
    turned : (a b c d : Bool) → ((a || b) || (c || d)) ≡ ((a || c) || (b || d))
    turned true b c d = refl
    turned false true true d = refl
    turned false true false d = refl
    turned false false c d = refl

-- ---- one SA more

pub none_apart : AreApart []
unfolding IsDistinct
none_apart = record { cookies = tt; members = tt }

-- a new key goes last
pub key_goes_last : {E : Type 0} (key_of : Sa → List ℕ) (sas : List Sa) (sa : Sa) (old new : List (List ℕ)) (result : Result Bool E)
    → old ≡ map key_of sas → list_any (λ other. bytes_eq (key_of sa) (key_of other)) sas ≡ false → IsOk result
    → OnOk result (new ≡ insert_key bytes_eq old (key_of sa)) → new ≡ map key_of (sas ++ sa ∷ [])
key_goes_last key_of sas sa old new (Ok added) was none ok inserted =
    inserted
    ∙ ap (λ there. cond there old (old ++ key_of sa ∷ [])) (ap (list_any (bytes_eq (key_of sa))) was ∙ list_any-map (bytes_eq (key_of sa)) key_of sas ∙ none)
    ∙ ap (λ keys. keys ++ key_of sa ∷ []) was ∙ sym (map-append key_of sas (sa ∷ []))
key_goes_last key_of sas sa old new (Err refused) was none ok inserted = absurd (false≢true ok)

-- where neither cookies nor member are taken
pub free : (phase : Phase1) (sas : List Sa) → list_any (is_taken_by phase) sas ≡ false
    → (list_any (has_cookies phase.cookies) sas ≡ false) × (list_any (is_of phase.member) sas ≡ false)
free phase sas none = both (list_any (has_cookies phase.cookies) sas) (list_any (is_of phase.member) sas) (sym (taken phase sas) ∙ none)
  where
    both : (a b : Bool) → (a || b) ≡ false → (a ≡ false) × (b ≡ false)
    both true b e = absurd (false≢true (sym e))
    both false b e = (refl, e)

-- ---- another session

member_at : (sas : List Sa) (k : ℕ) → get_or (members_of sas) k [] ≡ (get_or sas k no_sa).phase.member
member_at [] k = refl
member_at (sa ∷ sas) zero = refl
member_at (sa ∷ sas) (suc k) = member_at sas k

-- those after an SA are of other members
later_not : (sa : Sa) (sas : List Sa) (m : Name) (k : ℕ) → IsDistinct bytes_eq (members_of (sa ∷ sas)) → k < length sas → is_of m sa ≡ true
    → is_of m (get_or sas k no_sa) ≡ false
later_not sa sas m k apart low here =
    ap (λ m. bytes_eq m (get_or sas k no_sa).phase.member) (bytes_eq-is m sa.phase.member here)
    ∙ subst (λ other. bytes_eq sa.phase.member other ≡ false) (member_at sas k)
    (apart_from_distinct bytes_eq (members_of (sa ∷ sas)) 0 (suc k) [] apart (omega arith)
    (omega (arith, low, length-map sas (λ (sa : Sa). sa.phase.member))))

none_of : (p : Sa → Bool) (sas : List Sa) → ((k : ℕ) → k < length sas → p (get_or sas k no_sa) ≡ false) → find p sas ≡ None
none_of p [] others = refl
none_of p (sa ∷ sas) others =
    cond-false (p sa) (Some sa) (find p sas) (others 0 (omega arith)) ∙ none_of p sas (λ k low. others (suc k) (omega (arith, low)))

-- where the SA of a member is found later, an earlier one is of another member
pub found_elsewhere : (first : Sa) (sas : List Sa) (m : Name) (sa : Sa) → IsDistinct bytes_eq (members_of (first ∷ sas)) → find (is_of m) sas ≡ Some sa
    → is_of m first ≡ false
found_elsewhere first sas m sa apart is = elim (cases_Bool (is_of m first)) [
  | inl here ↦ absurd (none-some sa (sym (none_of (is_of m) sas (λ k low. later_not first sas m k apart low here)) ∙ is))
  | inr other ↦ other
]

others_stay : (sas : List Sa) (m : Name) (session : Option Session) → ((k : ℕ) → k < length sas → is_of m (get_or sas k no_sa) ≡ false)
    → put_sessions m session sas ≡ sas
others_stay [] m session others = refl
others_stay (sa ∷ sas) m session others = λ i.
    cond-false (is_of m sa) (record sa { session = session }) sa (others 0 (omega arith)) i
    ∷ others_stay sas m session (λ k low. others (suc k) (omega (arith, low))) i

put_there : (sas : List Sa) (m : Name) (session : Option Session) (i : ℕ) → IsDistinct bytes_eq (members_of sas) → i < length sas
    → is_of m (get_or sas i no_sa) ≡ true → with_session_at sas i session ≡ put_sessions m session sas
put_there [] m session i apart low here = absurd (omega (arith, low))
put_there (sa ∷ sas) m session zero apart low here = λ i.
    sym (cond-true (is_of m sa) (record sa { session = session }) sa here) i
    ∷ sym (others_stay sas m session (λ k within. later_not sa sas m k apart within here)) i
put_there (sa ∷ sas) m session (suc i) apart low here = elim (cases_Bool (is_of m sa)) [
  | inr other ↦ λ j. sym (cond-false (is_of m sa) (record sa { session = session }) sa other) j
      ∷ put_there sas m session i (IsDistinct-tail bytes_eq sa.phase.member (members_of sas) apart) (omega (arith, low)) here j
  | inl first ↦ absurd (false≢true (sym (later_not sa sas m i apart (omega (arith, low)) first) ∙ here))
]

-- the SA of a member, which is at this place, has another session
pub put_at : (sas : List Sa) (m : Name) (session : Option Session) (i : ℕ) → AreApart sas → position (is_of m) sas ≡ Some i
    → with_session_at sas i session ≡ put_sessions m session sas
put_at sas m session i apart is =
    let found = position-Some (is_of m) sas i no_sa is in
    put_there sas m session i apart.members found.0 found.1

pub had_at : (sas : List Sa) (m : Name) (i : ℕ) → position (is_of m) sas ≡ Some i → (get_or sas i no_sa).session ≡ session_of sas m
had_at sas m i is = sym (ap (λ o. option_and_then (λ (sa : Sa). sa.session) o) (found_at (is_of m) sas i is))

-- a member without an SA
pub put_nowhere : (sas : List Sa) (m : Name) (session : Option Session) → position (is_of m) sas ≡ None → put_sessions m session sas ≡ sas
put_nowhere sas m session none = absent sas (nowhere_any (is_of m) sas none)
  where
    absent : (sas : List Sa) → list_any (is_of m) sas ≡ false → put_sessions m session sas ≡ sas
    absent [] none = refl
    absent (sa ∷ sas) none = elim (cases_Bool (is_of m sa)) [
      | inl here ↦ absurd (false≢true (sym none ∙ ap (λ b. b || list_any (is_of m) sas) here))
      | inr other ↦ λ i. cond-false (is_of m sa) (record sa { session = session }) sa other i
          ∷ absent sas (sym (ap (λ b. b || list_any (is_of m) sas) other) ∙ none) i
    ]

pub had_nowhere : (sas : List Sa) (m : Name) → position (is_of m) sas ≡ None → session_of sas m ≡ None
had_nowhere sas m none = ap (λ o. option_and_then (λ (sa : Sa). sa.session) o) (not_found (is_of m) sas none)

-- ---- SAs stay

phases_at : {A : Type 0} (of : Phase1 → A) (sas : List Sa) (i : ℕ) (session : Option Session)
    → map (λ (sa : Sa). of sa.phase) (with_session_at sas i session) ≡ map (λ (sa : Sa). of sa.phase) sas
phases_at of [] i session = refl
phases_at of (sa ∷ sas) zero session = refl
phases_at of (sa ∷ sas) (suc i) session = λ j. of sa.phase ∷ phases_at of sas i session j

pub cookies_at : (sas : List Sa) (i : ℕ) (session : Option Session) → cookies_of (with_session_at sas i session) ≡ cookies_of sas
cookies_at = phases_at (λ (phase : Phase1). phase.cookies)

pub members_at : (sas : List Sa) (i : ℕ) (session : Option Session) → members_of (with_session_at sas i session) ≡ members_of sas
members_at = phases_at (λ (phase : Phase1). phase.member)

phases_ended : {A : Type 0} (of : Phase1 → A) (sas : List Sa) → map (λ (sa : Sa). of sa.phase) (sessions_ended sas) ≡ map (λ (sa : Sa). of sa.phase) sas
phases_ended of [] = refl
phases_ended of (sa ∷ sas) = λ j. of sa.phase ∷ phases_ended of sas j

pub cookies_ended : (sas : List Sa) → cookies_of (sessions_ended sas) ≡ cookies_of sas
cookies_ended = phases_ended (λ (phase : Phase1). phase.cookies)

pub members_ended : (sas : List Sa) → members_of (sessions_ended sas) ≡ members_of sas
members_ended = phases_ended (λ (phase : Phase1). phase.member)

-- one session more has ended
ended_next : (sas : List Sa) (i : ℕ) → with_session_at (sessions_ended (take i sas) ++ drop i sas) i None ≡ sessions_ended (take (suc i) sas) ++ drop (suc i) sas
ended_next [] zero = refl
ended_next [] (suc i) = refl
ended_next (sa ∷ sas) zero = refl
ended_next (sa ∷ sas) (suc i) = λ j. new_sa sa.phase ∷ ended_next sas i j

pub ended_more : (sas : List Sa) (i : ℕ) → with_session_at (sessions_ended (take i sas) ++ drop i sas) i None ≡ sessions_ended (take (i + 1) sas) ++ drop (i + 1) sas
ended_more sas i = ended_next sas i ∙ ap (λ n. sessions_ended (take n sas) ++ drop n sas) (sym (add-one i))

-- SAs with the same cookies and members are as far apart
pub same_apart : (sas others : List Sa) → cookies_of others ≡ cookies_of sas → members_of others ≡ members_of sas → AreApart sas → AreApart others
same_apart sas others cookies members apart = record {
  cookies = subst (IsDistinct bytes_eq) (sym cookies) apart.cookies;
  members = subst (IsDistinct bytes_eq) (sym members) apart.members;
}

-- what was put last is what is there
pub put_twice : (sas : List Sa) (m : Name) (one two : Option Session) → put_sessions m two (put_sessions m one sas) ≡ put_sessions m two sas
put_twice [] m one two = refl
put_twice (sa ∷ sas) m one two = λ i. again (cases_Bool (is_of m sa)) i ∷ put_twice sas m one two i
  where
    again : ((is_of m sa) ≡ true) ⊎ ((is_of m sa) ≡ false) → put_session m two (put_session m one sa) ≡ put_session m two sa
    again (inl here) =
        ap (put_session m two) (cond-true (is_of m sa) (record sa { session = one }) sa here)
        ∙ cond-true (is_of m sa) (record sa { session = two }) (record sa { session = one }) here
        ∙ sym (cond-true (is_of m sa) (record sa { session = two }) sa here)
    again (inr other) = ap (put_session m two) (cond-false (is_of m sa) (record sa { session = one }) sa other)

-- the session that a member has
pub has_it : (sas : List Sa) (m : Name) (sa : Sa) (session other : Session) → HasSession sas m sa session → session_of sas m ≡ Some other → other ≡ session
has_it sas m sa session other has is =
    let both : Some other ≡ Some session = sym is ∙ ap (λ o. option_and_then (λ (sa : Sa). sa.session) o) has.is_there ∙ has.has in
    cc

-- its session was taken out, and another one put in
pub taken_and_put : (old : Sessions) (m : Name) (limit : ℕ) (before taken after : List Sa) (session : Session) → record { limit = limit; sas = before } ≡ old
    → taken ≡ put_sessions m None before → after ≡ put_sessions m (Some session) taken
    → record { limit = limit; sas = after } ≡ with_session old m session
taken_and_put old m limit before taken after session is out into =
    ap (λ (sas : List Sa). record { limit = limit; sas = sas }) (into ∙ ap (put_sessions m (Some session)) out ∙ put_twice before m None (Some session))
    ∙ ap (λ (sessions : Sessions). with_session sessions m session) is
