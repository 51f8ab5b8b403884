-- Whose session awaits a batch after it: nobody's.
use Rattle.std.proofs.Common.{◌≡◌, ◌∙◌, ◌||◌, Bool, true, false, List, [], ◌∷◌, Option, None, Some, map, refl, sym, ap, subst, inl, inr}
use Rattle.std.specs.Prelude.{option_and_then}
use Rattle.std.specs.List.{list_any}
use Rattle.std.specs.Option.{option_map}
use Rattle.std.specs.Cmp.Lexicographic.{nat_list_eq_equiv}
use Rattle.std.proofs.lemmas.Bool.{cases_Bool, cond-true, cond-false}
use Rattle.std.proofs.lemmas.Slice.Eq.{bytes_eq-Decides}
use Rattle.group_terms.specs.Changes.{joiners}
use Rattle.group_terms.specs.Names.{Name, same_name}
use Rattle.group_terms.specs.declared.changes.Change.{Change}
use Rattle.group_terms.specs.declared.phases.Phase1.{Phase1}
use Rattle.group_model.specs.declared.entries.SentReply.{SentReply}
use Rattle.pull_sessions.specs.Sessions.{Sessions, has_queued, is_of, is_queued, is_queued_of, sa_of}
use Rattle.pull_sessions.specs.declared.sas.Sa.{Sa}
use Rattle.pull_sessions.specs.declared.sas.Session.{Session}
use Rattle.server_steps.specs.Fourths.{reply_to, settle, settled, settled_by, settled_in}
use Rattle.server_steps.specs.Joining.{JoinsHaveSessions, is_joining}

-- ---- names

pub is_same : (a b : Name) → same_name a b ≡ true → a ≡ b
is_same a b same = (bytes_eq-Decides a b).0 same

pub same_self : (a : Name) → same_name a a ≡ true
same_self a = nat_list_eq_equiv.refl a

-- ---- the SA of a name

-- whose session, if there is an SA, awaits the batch
abbrev pub queued_in : Option Sa → Bool
queued_in None = false
queued_in (Some sa) = has_queued sa.session

pub queued_found : (sas : List Sa) (n : Name) → is_queued_of sas n ≡ queued_in (sa_of sas n)
queued_found sas n = by (sa_of sas n)
  where
    by : (found : Option Sa) → has_queued (option_and_then (λ (sa : Sa). sa.session) found) ≡ queued_in found
    by None = refl
    by (Some sa) = refl

-- it is the SA of that name
pub its_name : (sas : List Sa) (n : Name) (sa : Sa) → sa_of sas n ≡ Some sa → n ≡ sa.phase.member
its_name [] n sa is = absurd (cc)
its_name (first ∷ sas) n sa is = elim (cases_Bool (is_of n first)) [
  | inl here ↦
      is_same n sa.phase.member
      (subst (λ (sa : Sa). is_of n sa ≡ true) (only (sym (cond-true (is_of n first) (Some first) (sa_of sas n) here) ∙ is)) here)
  | inr other ↦ its_name sas n sa (sym (cond-false (is_of n first) (Some first) (sa_of sas n) other) ∙ is)
]
  where
    only : {a b : Sa} → Some a ≡ Some b → a ≡ b
    only e = cc

-- what changes sessions alone finds the same SA
module _ (f : Sa → Sa) (same : (sa : Sa) → (f sa).phase ≡ sa.phase) where
  pub of_changed : (n : Name) (sas : List Sa) → sa_of (map f sas) n ≡ option_map f (sa_of sas n)
  of_changed n [] = refl
  of_changed n (sa ∷ sas) =
      let still : is_of n (f sa) ≡ is_of n sa = ap (λ (phase : Phase1). same_name n phase.member) (same sa) in
      elim (cases_Bool (is_of n sa)) [
        | inl here ↦ cond-true (is_of n (f sa)) (Some (f sa)) (sa_of (map f sas) n) (still ∙ here)
            ∙ ap (option_map f) (sym (cond-true (is_of n sa) (Some sa) (sa_of sas n) here))
        | inr other ↦ cond-false (is_of n (f sa)) (Some (f sa)) (sa_of (map f sas) n) (still ∙ other)
            ∙ (of_changed n sas ∙ ap (option_map f) (sym (cond-false (is_of n sa) (Some sa) (sa_of sas n) other)))
      ]

  -- whose session awaits the batch then
  pub queued_changed : (n : Name) (sas : List Sa) → is_queued_of (map f sas) n ≡ queued_in (option_map f (sa_of sas n))
  queued_changed n sas = queued_found (map f sas) n ∙ ap queued_in (of_changed n sas)

-- ---- a batch

-- a name to which a reply goes has one
has_reply : (replies : List SentReply) (n : Name) → list_any (same_name n) (map (λ (reply : SentReply). reply.says.member) replies) ≡ true
    → (reply : SentReply) × (reply_to replies n ≡ Some reply)
has_reply [] n is = absurd (cc)
has_reply (reply ∷ replies) n is = elim (cases_Bool (same_name reply.says.member n)) [
  | inl its ↦ (reply, cond-true (same_name reply.says.member n) (Some reply) (reply_to replies n) its)
  | inr other ↦
      let not_it : same_name n reply.says.member ≡ false = differs (same_name n reply.says.member) refl other in
      let later = has_reply replies n
      (sym (ap (λ (b : Bool). b || list_any (same_name n) (map (λ (reply : SentReply). reply.says.member) replies)) not_it) ∙ is) in
      (later.0, cond-false (same_name reply.says.member n) (Some reply) (reply_to replies n) other ∙ later.1)
]
  where
    differs : (b : Bool) → same_name n reply.says.member ≡ b → same_name reply.says.member n ≡ false → same_name n reply.says.member ≡ false
    differs false is other = is
    differs true is other =
        let own : n ≡ reply.says.member = is_same n reply.says.member is in
        let there : same_name reply.says.member n ≡ true = subst (λ (name : Name). same_name name n ≡ true) own (same_self n) in
        absurd (cc)

module _ (replies : List SentReply) (queue : List Change) (to : map (λ (reply : SentReply). reply.says.member) replies ≡ joiners queue) where
  -- a session that awaits the batch is settled
  settled_waits : (n : Name) (session : Session) → (is_queued session.step ≡ true → is_joining queue n ≡ true)
      → is_queued (settled_in replies n session).step ≡ false
  settled_waits n session joins = elim (cases_Bool (is_queued session.step)) [
    | inl waits ↦
        let has = has_reply replies n (ap (list_any (same_name n)) to ∙ joins waits) in
        ap (λ (session : Session). is_queued session.step) (cond-true (is_queued session.step) (settled_by session (reply_to replies n)) session waits
        ∙ ap (settled_by session) has.1)
    | inr rests ↦
        ap (λ (session : Session). is_queued session.step) (cond-false (is_queued session.step) (settled_by session (reply_to replies n)) session rests) ∙ rests
  ]

  pub none_waits_settled : (sas : List Sa) → JoinsHaveSessions queue sas → (n : Name) → is_queued_of (map (settle replies) sas) n ≡ false
  none_waits_settled sas sound n = queued_changed (settle replies) (λ sa. refl) n sas ∙ by (sa_of sas n) refl
    where
      by_session : (sa : Sa) (session : Option Session) → sa.session ≡ session → sa_of sas n ≡ Some sa
          → has_queued (option_map (settled_in replies sa.phase.member) session) ≡ false
      by_session sa None is there = refl
      by_session sa (Some session) is there =
          settled_waits sa.phase.member session (λ waits.
          ap (is_joining queue) (sym (its_name sas n sa there)) ∙ (sym (sound n) ∙ (queued_found sas n ∙ (ap queued_in there ∙ (ap has_queued is ∙ waits)))))

      by : (found : Option Sa) → sa_of sas n ≡ found → queued_in (option_map (settle replies) found) ≡ false
      by None is = refl
      by (Some sa) is = by_session sa sa.session refl is

pub batch_sound : (replies : List SentReply) (old new : List Change) (sessions after : Sessions)
    → map (λ (reply : SentReply). reply.says.member) replies ≡ joiners old → new ≡ [] → after ≡ settled sessions replies → JoinsHaveSessions old sessions.sas
    → JoinsHaveSessions new after.sas
batch_sound replies old new sessions after to none is sound = λ n.
    ap (λ (sessions : Sessions). is_queued_of sessions.sas n) is
    ∙ (none_waits_settled replies old to sessions.sas sound n ∙ ap (λ queue. is_joining queue n) (sym none))
