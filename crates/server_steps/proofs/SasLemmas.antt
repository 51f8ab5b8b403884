-- SAs that are apart: each is found by its member, also where their sessions change.
use Rattle.std.proofs.Common.{◌≡◌, ◌∙◌, ◌||◌, ℕ, Bool, true, false, List, [], ◌∷◌, ◌++◌, Option, None, Some, map, get_or, refl, sym, ap, subst, inl, inr}
use Rattle.std.specs.Prelude.{if◌then◌else◌, option_and_then, option_map}
use Rattle.std.specs.List.{All, AllByRecursion, IsDistinct, find, list_any}
use Rattle.std.specs.Str.{bytes_eq}
use Rattle.std.proofs.lemmas.Bool.{cases_Bool, cond-true, cond-false}
use Rattle.std.proofs.lemmas.List.Elements.{All-cons, All-head, All-map, All-nil, All-tail}
use Rattle.group_terms.specs.Names.{Name, same_name}
use Rattle.group_terms.specs.declared.phases.Phase1.{Phase1}
use Rattle.pull_sessions.specs.Sessions.{AreApart, HasSession, Sessions, has_cookies, is_of, is_taken_by, members_of, new_sa, put_session, put_sessions, sa_of}
use Rattle.pull_sessions.specs.Sessions.{session_of, why_no_introduction}
use Rattle.pull_sessions.specs.declared.refusals.SessionRefusal.{SessionRefusal}
use Rattle.pull_sessions.specs.declared.refusals.SessionRefusal.TheVariants.{PhaseTaken}
use Rattle.pull_sessions.specs.declared.sas.Sa.{Sa}
use Rattle.pull_sessions.specs.declared.sas.Session.{Session}
use Rattle.server_steps.proofs.SessionLemmas.{session_is}
use Rattle.server_steps.proofs.WaitLemmas.{is_same, of_changed, same_self}

-- ---- what is found

pub only : {X : Type 0} {a b : X} → Some a ≡ Some b → a ≡ b
only e = cc

module _ {X : Type 0} (p : X → Bool) where
  -- what holds of all holds of it
  pub found_has : (P : X → Type 0) (items : List X) (item : X) → All P items → find p items ≡ Some item → P item
  found_has P [] item all is = absurd (cc)
  found_has P (first ∷ items) item all is = elim (cases_Bool (p first)) [
    | inl here ↦ subst P (only (sym (cond-true (p first) (Some first) (find p items) here) ∙ is)) (All-head P first items all)
    | inr other ↦ found_has P items item (All-tail P first items all) (sym (cond-false (p first) (Some first) (find p items) other) ∙ is)
  ]

  -- it passes
  pub found_passes : (items : List X) (item : X) → find p items ≡ Some item → p item ≡ true
  found_passes [] item is = absurd (cc)
  found_passes (first ∷ items) item is = elim (cases_Bool (p first)) [
    | inl here ↦ subst (λ one. p one ≡ true) (only (sym (cond-true (p first) (Some first) (find p items) here) ∙ is)) here
    | inr other ↦ found_passes items item (sym (cond-false (p first) (Some first) (find p items) other) ∙ is)
  ]

-- ---- each is found by its member

turned : (a b : List ℕ) → bytes_eq a b ≡ false → bytes_eq b a ≡ false
turned a b other = elim (cases_Bool (bytes_eq b a)) [
  | inl same ↦
      let itself : bytes_eq a b ≡ true = subst (λ (name : List ℕ). bytes_eq name b ≡ true) (is_same b a same) (same_self b) in
      absurd (cc)
  | inr differ ↦ differ
]

others_later : (first : Sa) (sas : List Sa) → AllByRecursion (λ other. same_name first.phase.member other ≡ false) (members_of sas)
    → All (λ (sa : Sa). is_of sa.phase.member first ≡ false) sas
others_later first [] others = All-nil _
others_later first (sa ∷ sas) others =
    All-cons (λ (sa : Sa). is_of sa.phase.member first ≡ false) sa sas (turned first.phase.member sa.phase.member others.0) (others_later first sas others.1)

abbrev pub IsOwn : List Sa → Sa → Type 0
IsOwn sas sa = sa_of sas sa.phase.member ≡ Some sa

pub each_own : (sas : List Sa) → IsDistinct same_name (members_of sas) → All (IsOwn sas) sas
unfolding IsDistinct
each_own [] apart = All-nil _
each_own (first ∷ sas) apart =
    let others = others_later first sas apart.0 in
    let rest = each_own sas apart.1 in
    All-cons (IsOwn (first ∷ sas)) first sas
    (cond-true (is_of first.phase.member first) (Some first) (sa_of sas first.phase.member) (same_self first.phase.member))
    (λ k d less. cond-false (is_of (get_or sas k d).phase.member first) (Some first) (sa_of sas (get_or sas k d).phase.member) (others k d less)
    ∙ rest k d less)

module _ (sas : List Sa) (m : Name) where
  -- the SA of a member is one
  pub same_sa : {one two : Sa} → sa_of sas m ≡ Some one → sa_of sas m ≡ Some two → one ≡ two
  same_sa first second = only (sym first ∙ second)

  -- and so is its session
  pub same_session : {one two : Sa} {session other : Session} → HasSession sas m one session → HasSession sas m two other → session ≡ other
  same_session {one} {two} {session} {other} first second = only (sym (session_is sas m one session first) ∙ session_is sas m two other second)

-- ---- other sessions

module _ (f : Sa → Sa) (same : (sa : Sa) → (f sa).phase ≡ sa.phase) where
  phases_stay : {A : Type 0} (of : Phase1 → A) (sas : List Sa) → map (λ (sa : Sa). of sa.phase) (map f sas) ≡ map (λ (sa : Sa). of sa.phase) sas
  phases_stay of [] = refl
  phases_stay of (sa ∷ sas) =
      let first = ap of (same sa) in
      let rest = phases_stay of sas in
      λ i. first i ∷ rest i

  pub still_apart : (sas : List Sa) → AreApart sas → AreApart (map f sas)
  still_apart sas apart = record {
    cookies = subst (IsDistinct bytes_eq) (sym (phases_stay (λ (phase : Phase1). phase.cookies) sas)) apart.cookies;
    members = subst (IsDistinct same_name) (sym (phases_stay (λ (phase : Phase1). phase.member) sas)) apart.members;
  }

pub put_phase : (m : Name) (session : Option Session) (sa : Sa) → (put_session m session sa).phase ≡ sa.phase
put_phase m session sa = elim (cases_Bool (is_of m sa)) [
  | inl its ↦ ap (λ (sa : Sa). sa.phase) (cond-true (is_of m sa) (record sa { session = session }) sa its)
  | inr other ↦ ap (λ (sa : Sa). sa.phase) (cond-false (is_of m sa) (record sa { session = session }) sa other)
]

-- what holds of all SAs still does, where it holds of the one that has another session
pub put_keeps : (P : Sa → Type 0) (sas : List Sa) (m : Name) (session : Option Session) (its : Sa) → AreApart sas → sa_of sas m ≡ Some its
    → P (record its { session = session }) → All P sas → All P (put_sessions m session sas)
put_keeps P sas m session its apart there new all =
    All-map P (put_session m session) sas (λ k d less. each (get_or sas k d) (each_own sas apart.members k d less) (all k d less))
  where
    each : (sa : Sa) → IsOwn sas sa → P sa → P (put_session m session sa)
    each sa own has = elim (cases_Bool (is_of m sa)) [
      | inl here ↦
          let same : its ≡ sa = only (sym there ∙ ap (sa_of sas) (is_same m sa.phase.member here) ∙ own) in
          subst P (sym (cond-true (is_of m sa) (record sa { session = session }) sa here)) (subst (λ (one : Sa). P (record one { session = session })) same new)
      | inr other ↦ subst P (sym (cond-false (is_of m sa) (record sa { session = session }) sa other)) has
    ]

-- the session that the SA of a member was given
pub put_there : (m : Name) (session : Session) (sas : List Sa) (sa : Sa) → sa_of sas m ≡ Some sa → session_of (put_sessions m (Some session) sas) m ≡ Some session
put_there m session sas sa there =
    ap (option_and_then (λ (sa : Sa). sa.session))
    (of_changed (put_session m (Some session)) (put_phase m (Some session)) m sas ∙ ap (option_map (put_session m (Some session))) there)
    ∙ ap (λ (sa : Sa). sa.session) (cond-true (is_of m sa) (record sa { session = Some session }) sa (found_passes (is_of m) sas sa there))

-- ---- one SA more

neither : (a b : Bool) → (a || b) ≡ false → (a ≡ false) × (b ≡ false)
neither true b is = absurd (cc)
neither false b is = (refl, is)

-- neither its cookies nor its member are taken
free : (phase : Phase1) (sas : List Sa) → list_any (is_taken_by phase) sas ≡ false
    → (list_any (has_cookies phase.cookies) sas ≡ false) × (list_any (is_of phase.member) sas ≡ false)
free phase [] none = (refl, refl)
free phase (sa ∷ sas) none =
    let parts = neither (is_taken_by phase sa) (list_any (is_taken_by phase) sas) none in
    let here = neither (has_cookies phase.cookies sa) (is_of phase.member sa) parts.0 in
    let later = free phase sas parts.1 in (
      ap (λ b. b || list_any (has_cookies phase.cookies) sas) here.0 ∙ later.0,
      ap (λ b. b || list_any (is_of phase.member) sas) here.1 ∙ later.1,
    )

module _ (of : Sa → List ℕ) (sa : Sa) where
  one_other : (first : Sa) (sas : List Sa) → AllByRecursion (λ other. bytes_eq (of first) other ≡ false) (map of sas) → bytes_eq (of sa) (of first) ≡ false
      → AllByRecursion (λ other. bytes_eq (of first) other ≡ false) (map of (sas ++ sa ∷ []))
  one_other first [] others differ = (turned (of sa) (of first) differ, tt)
  one_other first (next ∷ sas) others differ = (others.0, one_other first sas others.1 differ)

  push_distinct : (sas : List Sa) → IsDistinct bytes_eq (map of sas) → list_any (λ (other : Sa). bytes_eq (of sa) (of other)) sas ≡ false
      → IsDistinct bytes_eq (map of (sas ++ sa ∷ []))
  unfolding IsDistinct
  push_distinct [] apart none = (tt, tt)
  push_distinct (first ∷ sas) apart none =
      let parts = neither (bytes_eq (of sa) (of first)) (list_any (λ (other : Sa). bytes_eq (of sa) (of other)) sas) none in
      (one_other first sas apart.0 parts.0, push_distinct sas apart.1 parts.1)

-- one that may be introduced
pub introduced_apart : (sessions : Sessions) (phase : Phase1) → AreApart sessions.sas → why_no_introduction sessions phase ≡ None
    → AreApart (sessions.sas ++ new_sa phase ∷ [])
introduced_apart sessions phase apart granted = record {
  cookies = push_distinct (λ (sa : Sa). sa.phase.cookies) (new_sa phase) sessions.sas apart.cookies none.0;
  members = push_distinct (λ (sa : Sa). sa.phase.member) (new_sa phase) sessions.sas apart.members none.1;
}
  where
    not_taken : (b : Bool) (later : Option SessionRefusal) → (if b then Some PhaseTaken else later) ≡ None → b ≡ false
    not_taken true later is = absurd (cc)
    not_taken false later is = refl

    none : (list_any (has_cookies phase.cookies) sessions.sas ≡ false) × (list_any (is_of phase.member) sessions.sas ≡ false)
    none = free phase sessions.sas (not_taken (list_any (is_taken_by phase) sessions.sas) _ granted)
