-- Whose session awaits the batch, after each change of sessions and of the changes that wait.
use Rattle.std.proofs.Common.{◌≡◌, ◌∙◌, ◌||◌, Bool, true, false, List, [], ◌∷◌, ◌++◌, Option, None, Some, Result, Ok, Err, refl, sym, ap, subst, inl, inr}
use Rattle.std.specs.Option.{option_map}
use Rattle.std.proofs.lemmas.Bool.{cases_Bool, cond-true, cond-false}
use Rattle.group_terms.specs.Changes.{is_pending}
use Rattle.group_terms.specs.Names.{Name, same_name}
use Rattle.group_terms.specs.declared.changes.Change.{Change}
use Rattle.group_terms.specs.declared.changes.Change.TheVariants.{In, Out}
use Rattle.group_terms.specs.declared.phases.Phase1.{Phase1}
use Rattle.group_model.specs.declared.entries.Refusal.{Refusal}
use Rattle.pull_sessions.specs.Sessions.{has_queued, is_of, is_queued, is_queued_of, new_sa, put_session, put_sessions, sa_of, sessions_ended}
use Rattle.pull_sessions.specs.declared.sas.Sa.{Sa}
use Rattle.pull_sessions.specs.declared.sas.Session.{Session}
use Rattle.server_steps.specs.Serves.{answer_done}
use Rattle.server_steps.specs.Waiting.{queue_after_leave}
use Rattle.server_steps.specs.Joining.{JoinsHaveSessions, is_joining}
use Rattle.server_steps.proofs.WaitLemmas.{is_same, its_name, queued_changed, queued_found, queued_in, same_self}

-- ---- a session is put

same_phase : (m : Name) (session : Option Session) (sa : Sa) → (put_session m session sa).phase ≡ sa.phase
same_phase m session sa = elim (cases_Bool (is_of m sa)) [
  | inl its ↦ ap (λ (sa : Sa). sa.phase) (cond-true (is_of m sa) (record sa { session = session }) sa its)
  | inr other ↦ ap (λ (sa : Sa). sa.phase) (cond-false (is_of m sa) (record sa { session = session }) sa other)
]

module _ (m : Name) (session : Session) where
  -- its member has it
  put_here : (sa : Sa) → is_of m sa ≡ true → has_queued (put_session m (Some session) sa).session ≡ is_queued session.step
  put_here sa its = ap (λ (sa : Sa). has_queued sa.session) (cond-true (is_of m sa) (record sa { session = Some session }) sa its)

  -- of anybody else all stays
  put_elsewhere : (sa : Sa) → is_of m sa ≡ false → has_queued (put_session m (Some session) sa).session ≡ has_queued sa.session
  put_elsewhere sa other = ap (λ (sa : Sa). has_queued sa.session) (cond-false (is_of m sa) (record sa { session = Some session }) sa other)

  -- one that awaits the batch like that before it
  pub put_alike : (sas : List Sa) → is_queued_of sas m ≡ is_queued session.step → (n : Name) → is_queued_of (put_sessions m (Some session) sas) n ≡ is_queued_of sas n
  put_alike sas alike n =
      queued_changed (put_session m (Some session)) (same_phase m (Some session)) n sas ∙ (by (sa_of sas n) refl ∙ sym (queued_found sas n))
    where
      by : (found : Option Sa) → sa_of sas n ≡ found → queued_in (option_map (put_session m (Some session)) found) ≡ queued_in found
      by None is = refl
      by (Some sa) is = elim (cases_Bool (is_of m sa)) [
        | inl its ↦
            let own : m ≡ n = is_same m sa.phase.member its ∙ sym (its_name sas n sa is) in
            put_here sa its ∙ (sym alike ∙ (ap (is_queued_of sas) own ∙ (queued_found sas n ∙ ap queued_in is)))
        | inr other ↦ put_elsewhere sa other
      ]

  -- one that awaits it, of a name that has an SA
  pub put_waiting : (sas : List Sa) (sa : Sa) → sa_of sas m ≡ Some sa → is_queued session.step ≡ true → (n : Name)
      → is_queued_of (put_sessions m (Some session) sas) n ≡ (is_queued_of sas n || (same_name n m || false))
  put_waiting sas sa is_there waits n =
      queued_changed (put_session m (Some session)) (same_phase m (Some session)) n sas ∙ elim (cases_Bool (same_name n m)) [
        | inl its ↦
            let own : n ≡ m = is_same n m its in
            let there : sa_of sas n ≡ Some sa = ap (sa_of sas) own ∙ is_there in
            let mine : is_of m sa ≡ true = subst (λ (name : Name). same_name m name ≡ true) (its_name sas m sa is_there) (same_self m) in
            ap (λ (found : Option Sa). queued_in (option_map (put_session m (Some session)) found)) there
            ∙ (put_here sa mine ∙ (waits ∙ (sym (or_true (is_queued_of sas n)) ∙ ap (λ (b : Bool). is_queued_of sas n || (b || false)) (sym its))))
        | inr other ↦
            by other (sa_of sas n) refl
            ∙ (sym (queued_found sas n) ∙ (sym (or_false (is_queued_of sas n)) ∙ ap (λ (b : Bool). is_queued_of sas n || (b || false)) (sym other)))
      ]
    where
      or_true : (b : Bool) → (b || (true || false)) ≡ true
      or_true true = refl
      or_true false = refl

      or_false : (b : Bool) → (b || (false || false)) ≡ b
      or_false true = refl
      or_false false = refl

      by : same_name n m ≡ false → (found : Option Sa) → sa_of sas n ≡ found → queued_in (option_map (put_session m (Some session)) found) ≡ queued_in found
      by other None is = refl
      by other (Some one) is = elim (cases_Bool (is_of m one)) [
        | inl its ↦
            let own : m ≡ n = is_same m one.phase.member its ∙ sym (its_name sas n one is) in
            let there : same_name n m ≡ true = subst (λ (name : Name). same_name n name ≡ true) (sym own) (same_self n) in
            absurd (cc)
        | inr not_its ↦ put_elsewhere one not_its
      ]

-- ---- sessions end, and SAs are introduced

pub none_waits_ended : (sas : List Sa) (n : Name) → is_queued_of (sessions_ended sas) n ≡ false
none_waits_ended sas n = queued_changed (λ (sa : Sa). new_sa sa.phase) (λ sa. refl) n sas ∙ by (sa_of sas n)
  where
    by : (found : Option Sa) → queued_in (option_map (λ (sa : Sa). new_sa sa.phase) found) ≡ false
    by None = refl
    by (Some sa) = refl

pub waits_introduced : (phase : Phase1) (sas : List Sa) (n : Name) → is_queued_of (sas ++ new_sa phase ∷ []) n ≡ is_queued_of sas n
waits_introduced phase sas n = queued_found (sas ++ new_sa phase ∷ []) n ∙ (by sas ∙ sym (queued_found sas n))
  where
    by : (sas : List Sa) → queued_in (sa_of (sas ++ new_sa phase ∷ []) n) ≡ queued_in (sa_of sas n)
    by [] = elim (cases_Bool (is_of n (new_sa phase))) [
      | inl its ↦ ap queued_in (cond-true (is_of n (new_sa phase)) (Some (new_sa phase)) None its)
      | inr other ↦ ap queued_in (cond-false (is_of n (new_sa phase)) (Some (new_sa phase)) None other)
    ]
    by (sa ∷ sas) = elim (cases_Bool (is_of n sa)) [
      | inl its ↦ ap queued_in (cond-true (is_of n sa) (Some sa) (sa_of (sas ++ new_sa phase ∷ []) n) its)
          ∙ ap queued_in (sym (cond-true (is_of n sa) (Some sa) (sa_of sas n) its))
      | inr other ↦ ap queued_in (cond-false (is_of n sa) (Some sa) (sa_of (sas ++ new_sa phase ∷ []) n) other)
          ∙ (by sas ∙ ap queued_in (sym (cond-false (is_of n sa) (Some sa) (sa_of sas n) other)))
    ]

-- ---- changes that wait

any_or : (a b : Bool) (c : Bool) → (a || (b || c)) ≡ ((a || b) || c)
any_or true b c = refl
any_or false b c = refl

-- one more join
pub joins_more : (queue : List Change) (m n : Name) → is_joining (queue ++ In m ∷ []) n ≡ (is_joining queue n || (same_name n m || false))
joins_more [] m n = refl
joins_more (In name ∷ queue) m n = ap (λ (b : Bool). same_name n name || b) (joins_more queue m n) ∙ any_or (same_name n name) (is_joining queue n) (same_name n m || false)
joins_more (Out name ∷ queue) m n = joins_more queue m n

-- one more leave
pub joins_left : (queue : List Change) (m n : Name) → is_joining (queue ++ Out m ∷ []) n ≡ is_joining queue n
joins_left [] m n = refl
joins_left (In name ∷ queue) m n = ap (λ (b : Bool). same_name n name || b) (joins_left queue m n)
joins_left (Out name ∷ queue) m n = joins_left queue m n

neither : (a b : Bool) → (a || b) ≡ false → (a ≡ false) × (b ≡ false)
neither true b is = absurd (cc)
neither false b is = (refl, is)

-- of whom no change waits, no join waits
pub no_join : (queue : List Change) (n : Name) → is_pending queue n ≡ false → is_joining queue n ≡ false
no_join [] n idle = refl
no_join (In name ∷ queue) n idle =
    let one = neither (same_name n name) (is_pending queue n) idle in
    ap (λ (b : Bool). b || is_joining queue n) one.0 ∙ no_join queue n one.1
no_join (Out name ∷ queue) n idle = no_join queue n (neither (same_name n name) (is_pending queue n) idle).1

-- what waits after a leave was answered
pub left_sound : (queue : List Change) (m : Name) (sas : List Sa) (result : Result (Unit {0}) Refusal) → JoinsHaveSessions queue sas
    → JoinsHaveSessions (queue_after_leave queue m (answer_done result)) sas
left_sound queue m sas (Ok done) sound = λ n. sound n ∙ sym (joins_left queue m n)
left_sound queue m sas (Err why) sound = sound
