-- The SAs of a server are those of the members that were introduced to it.
use Rattle.std.proofs.Common.{◌≡◌, ◌∙◌, ℕ, ◌==◌, Bool, true, false, cond, List, [], ◌∷◌, ◌++◌}
use Rattle.std.proofs.Common.{Option, None, Some, Result, Ok, Err, length, map, refl, sym, ap, subst, inl, inr}
use Rattle.std.specs.Prelude.{MatchBool, if◌then◌else◌, option_and_then}
use Rattle.std.specs.List.{list_any}
use Rattle.std.specs.Option.{option_map, option_or}
use Rattle.std.proofs.lemmas.Bool.{cases_Bool, cond-true, cond-false, false≢true, or_parts}
use Rattle.std.proofs.lemmas.List.Folds.{find-append}
use Rattle.gd_disk.specs.declared.disks.Disk.{Ghosts as DiskGhosts}
use Rattle.gd_edges.specs.declared.signers.Signer.{Ghosts as SignerGhosts}
use Rattle.group_terms.specs.Names.{Name, same_name}
use Rattle.group_terms.specs.declared.phases.Phase1.{Phase1}
use Rattle.group_model.specs.Places.{is_member}
use Rattle.group_model.specs.Servers.{members_now}
use Rattle.group_model.specs.declared.entries.Answer.{Answer}
use Rattle.group_model.specs.declared.entries.Answer.TheVariants.{Done, Refused}
use Rattle.group_model.specs.declared.entries.Asked.{Asked}
use Rattle.group_model.specs.declared.entries.Asked.TheVariants.{AddRule, Batch, DeliverAll, Halt, Introduce, Leave, Reopen, Serve, Show}
use Rattle.group_model.specs.declared.entries.Outside.{Outside}
use Rattle.group_model.specs.declared.entries.Refusal.{Refusal}
use Rattle.group_model.specs.declared.entries.Refusal.TheVariants.{NeedsReopen}
use Rattle.group_model.specs.declared.entries.SentReply.{SentReply}
use Rattle.group_peers.specs.Peers.{introduced, is_named, peer_of, phase_of}
use Rattle.group_peers.specs.declared.members.Peer.{Peer}
use Rattle.pull_msgs.specs.declared.messages.First.{First}
use Rattle.pull_msgs.specs.declared.messages.Third.{Third}
use Rattle.pull_sessions.specs.Looks.{IsLook}
use Rattle.pull_sessions.specs.Sessions.{Sessions, has_cookies, is_of, is_taken_by, new_sa, put_session, put_sessions, sa_of, sessions_ended}
use Rattle.pull_sessions.specs.Sessions.{why_no_introduction}
use Rattle.pull_sessions.specs.declared.answers.Looked.{Looked}
use Rattle.pull_sessions.specs.declared.answers.LookedAt.{LookedAt}
use Rattle.pull_sessions.specs.declared.answers.LookedAt.TheVariants.{NewFirst, NextThird, Repeat}
use Rattle.pull_sessions.specs.declared.refusals.SessionRefusal.{SessionRefusal}
use Rattle.pull_sessions.specs.declared.refusals.SessionRefusal.TheVariants.{PhaseFull, PhaseTaken}
use Rattle.pull_sessions.specs.declared.sas.Sa.{Sa}
use Rattle.pull_sessions.specs.declared.sas.Session.{Session}
use Rattle.server_steps.specs.Batches.{IsBatching}
use Rattle.server_steps.specs.Changes.{after_leave}
use Rattle.server_steps.specs.Fourths.{settle}
use Rattle.server_steps.specs.Hosts.{Host}
use Rattle.server_steps.specs.Outsides.{Says}
use Rattle.server_steps.specs.Pulls.{AnswersFirst, AnswersFound, AnswersLook, AnswersThird, IsAnswering, Queues, Replies}
use Rattle.server_steps.specs.Refusals.{refusal_to_first, refusal_to_third}
use Rattle.server_steps.specs.Steps.{IsServed}
use Rattle.group_steps.proofs.PeerLemmas.{changed_peer, find_changed, found_passes, given_at, given_by, mark_of, maps_same, name_is, name_self}

-- ---- the SA of a member

abbrev pub sa_phase : List Sa → Name → Option Phase1
sa_phase sas m = option_map (λ (sa : Sa). sa.phase) (sa_of sas m)

-- of each member there is the same SA
abbrev pub HaveSamePhases : List Sa → List Sa → Type 0
HaveSamePhases old new = (m : Name) → sa_phase new m ≡ sa_phase old m

-- other sessions leave the SAs
phases_mapped : (f : Sa → Sa) → ((sa : Sa) → (f sa).phase ≡ sa.phase) → (sas : List Sa) → HaveSamePhases sas (map f sas)
phases_mapped f same sas m =
    ap (option_map (λ (sa : Sa). sa.phase)) (find_changed (is_of m) f (λ sa. ap (λ (phase : Phase1). same_name m phase.member) (same sa)) sas)
    ∙ maps_same (λ (sa : Sa). sa.phase) f (sa_of sas m) (λ sa is. same sa)

put_phase : (m : Name) (session : Option Session) (sa : Sa) → (put_session m session sa).phase ≡ sa.phase
put_phase m session sa = elim (cases_Bool (is_of m sa)) [
  | inl its ↦ ap (λ (sa : Sa). sa.phase) (cond-true (is_of m sa) (record sa { session = session }) sa its)
  | inr other ↦ ap (λ (sa : Sa). sa.phase) (cond-false (is_of m sa) (record sa { session = session }) sa other)
]

phases_put : (m : Name) (session : Option Session) (sas : List Sa) → HaveSamePhases sas (put_sessions m session sas)
phases_put m session sas = phases_mapped (put_session m session) (put_phase m session) sas

phases_settled : (replies : List SentReply) (sas : List Sa) → HaveSamePhases sas (map (settle replies) sas)
phases_settled replies sas = phases_mapped (settle replies) (λ sa. refl) sas

phases_ended : (sas : List Sa) → HaveSamePhases sas (sessions_ended sas)
phases_ended sas = phases_mapped (λ (sa : Sa). new_sa sa.phase) (λ sa. refl) sas

-- ---- each request that introduces nobody

-- whether a request introduces somebody
abbrev pub introduces : Asked → Bool
introduces (Introduce phase) = true
introduces asked = false

module _ {D : Type 0} (host : Host D) where
  abbrev pub StaysIntroduced : Host D → Type 0
  StaysIntroduced next = HaveSamePhases host.sessions.sas next.sessions.sas

  stays_host : (next made : Host D) → next ≡ made → StaysIntroduced made → StaysIntroduced next
  stays_host next made is stays = subst StaysIntroduced (sym is) stays

  stays_same : (next : Host D) → next ≡ host → StaysIntroduced next
  stays_same next same = stays_host next host same (λ m. refl)

  stays_leave : (m : Name) (answer : Answer) (next : Host D) → next ≡ after_leave host m answer → StaysIntroduced next
  stays_leave m Done next is = stays_host next _ is (λ m. refl)
  stays_leave m answer next is = stays_same next is

  module _ {G : Type 0} (d : DiskGhosts D) (g : SignerGhosts G) (signer : G) (block : ℕ → List ℕ) where
    stays_first : (why : Option Refusal) (m : Name) (first : First) (datagram : List ℕ) (answer : Answer) (outside : Outside) (next : Host D)
        → AnswersFirst g signer block host why m first datagram answer outside next → StaysIntroduced next
    stays_first (Some why) m first datagram answer outside next says = stays_same next says.stays
    stays_first None m first datagram answer outside next (inl begins) =
        stays_host next _ begins.becomes.now (phases_put m _ host.sessions.sas)
    stays_first None m first datagram answer outside next (inr short) = stays_host next _ short.becomes.now (λ m. refl)

    stays_third : (why : Option Refusal) (m : Name) (third : Third) (datagram : List ℕ) (answer : Answer) (outside : Outside) (next : Host D)
        → AnswersThird g signer block host why m third datagram answer outside next → StaysIntroduced next
    stays_third (Some why) m third datagram answer outside next says = stays_same next says.stays
    stays_third None m third datagram answer outside next (inr short) = stays_same next short.stays
    stays_third None m third datagram answer outside next (inl takes) = by_member (is_member (members_now host.server) m) takes
      where
        by_member : (member : Bool)
            → MatchBool member (Replies g signer block host m third datagram answer outside next)
            (Queues g signer block host m third datagram answer outside next)
            → StaysIntroduced next
        by_member true replies = stays_host next _ replies.becomes.now (phases_put m _ host.sessions.sas)
        by_member false queues = stays_host next _ queues.becomes.now (phases_put m _ host.sessions.sas)

    stays_found : (what : LookedAt) (m : Name) (datagram : List ℕ) (answer : Answer) (outside : Outside) (next : Host D)
        → AnswersFound g signer block host what m datagram answer outside next → StaysIntroduced next
    stays_found (Repeat kept) m datagram answer outside next says = stays_same next says.stays
    stays_found (NewFirst first) m datagram answer outside next answers =
        stays_first (refusal_to_first host.head.name host.rules host.server m first) m first datagram answer outside next answers
    stays_found (NextThird third) m datagram answer outside next answers =
        stays_third (refusal_to_third host.rules host.server m) m third datagram answer outside next answers

    stays_looked : (datagram : List ℕ) (looked : Result Looked SessionRefusal) (answer : Answer) (outside : Outside) (next : Host D)
        → AnswersLook g signer block host datagram looked answer outside next → StaysIntroduced next
    stays_looked datagram (Ok looked) answer outside next answers = stays_found looked.what looked.member datagram answer outside next answers
    stays_looked datagram (Err why) answer outside next says = stays_same next says.stays

    pub stays_answering : (datagram : List ℕ) (answer : Answer) (outside : Outside) (next : Host D)
        → IsAnswering g signer block host datagram answer outside next → StaysIntroduced next
    stays_answering datagram answer outside next = by_need host.server.needs_reopen
      where
        by_need : (needs_reopen : Bool)
            → MatchBool needs_reopen (Says (Refused NeedsReopen) host answer outside next)
            ((looked : Result Looked SessionRefusal) × IsLook host.sessions.sas datagram looked
            × AnswersLook g signer block host datagram looked answer outside next)
            → StaysIntroduced next
        by_need true says = stays_same next says.stays
        by_need false looks = stays_looked datagram looks.0 answer outside next looks.2

    stays_batching : (answer : Answer) (outside : Outside) (next : Host D) → IsBatching d g signer block host answer outside next → StaysIntroduced next
    stays_batching answer outside next (inl stored) = stays_host next _ stored.now (phases_settled stored.output.replies host.sessions.sas)
    stays_batching answer outside next (inr (inl doubt)) = stays_host next _ doubt.now (λ m. refl)
    stays_batching answer outside next (inr (inr (inl refused))) = stays_same next refused.says.stays
    stays_batching answer outside next (inr (inr (inr short))) = stays_host next _ short.now (λ m. refl)

    pub stays_served : (asked : Asked) (answer : Answer) (outside : Outside) (next : Host D) → introduces asked ≡ false
        → IsServed d g signer block asked host answer outside next → StaysIntroduced next
    stays_served (AddRule rule) answer outside next other (inl more) = stays_host next _ more.now (λ m. refl)
    stays_served (AddRule rule) answer outside next other (inr short) = stays_same next short.stays
    stays_served (Introduce phase) answer outside next other step = absurd (false≢true (sym other))
    stays_served (Serve m datagram) answer outside next other step = stays_answering datagram answer outside next step
    stays_served (Leave m) answer outside next other step = stays_leave m answer next step.now
    stays_served Batch answer outside next other step = stays_batching answer outside next step
    stays_served Halt answer outside next other step = stays_host next _ step.now (λ m. refl)
    stays_served Reopen answer outside next other step = elim step.ends [
      | inl reopens ↦ stays_host next _ reopens.finds.now (phases_ended host.sessions.sas)
      | inr fails ↦ stays_host next _ fails.now (λ m. refl)
    ]
    stays_served Show answer outside next other step = stays_same next step.stays
    stays_served DeliverAll answer outside next other step = stays_same next step.says.stays
    stays_served asked answer outside next other step = absurd step

-- ---- one SA more

not_taken : (phase : Phase1) (sas : List Sa) → list_any (is_taken_by phase) sas ≡ false → sa_of sas phase.member ≡ None
not_taken phase [] none = refl
not_taken phase (sa ∷ sas) none =
    let parts = or_parts (is_taken_by phase sa) (list_any (is_taken_by phase) sas) none in
    let here = or_parts (has_cookies phase.cookies sa) (is_of phase.member sa) parts.0 in
    cond-false (is_of phase.member sa) (Some sa) (sa_of sas phase.member) here.1 ∙ not_taken phase sas parts.1

pub free_to_take : (sessions : Sessions) (phase : Phase1) → why_no_introduction sessions phase ≡ None → sa_of sessions.sas phase.member ≡ None
free_to_take sessions phase none = elim (cases_Bool (list_any (is_taken_by phase) sessions.sas)) [
  | inl taken ↦
      absurd (none_some (sym none ∙ ap (λ b. if b then Some PhaseTaken
      else (if length sessions.sas == sessions.limit then Some (PhaseFull sessions.limit) else None)) taken))
  | inr free ↦ not_taken phase sessions.sas free
]
  where
    none_some : {why : SessionRefusal} → None ≡ Some why → ⊥
    none_some e = cc

-- the SA that a peer has
pub phase_there : (peers : List Peer) (m : Name) (phase : Phase1) → phase_of peers m ≡ Some phase
    → (peer : Peer) × (peer_of peers m ≡ Some peer) × (peer.phase ≡ phase)
phase_there peers m phase = by_peer (peer_of peers m) refl
  where
    by_peer : (peer : Option Peer) → peer_of peers m ≡ peer → option_map (λ (peer : Peer). peer.phase) peer ≡ Some phase
        → (peer : Peer) × (peer_of peers m ≡ Some peer) × (peer.phase ≡ phase)
    by_peer None there is = absurd (cc)
    by_peer (Some peer) there is = (peer, there, cc)

module _ (sas : List Sa) (peers : List Peer) (phase : Phase1) (same : (m : Name) → sa_phase sas m ≡ given_at peers m)
    (free : sa_of sas phase.member ≡ None) (its : phase_of peers phase.member ≡ Some phase) where
  abbrev introduce : Peer → Peer
  introduce peer = if is_named phase.member peer then record peer { introduced = true } else peer

  later_given : (m : Name) → given_at (introduced peers phase.member) m ≡ option_and_then given_by (option_map mark_of (option_map introduce (peer_of peers m)))
  later_given m =
      ap (λ peer. option_and_then given_by (option_map mark_of peer))
      (changed_peer (λ (peer : Peer). record peer { introduced = true }) (λ peer. refl) phase.member peers m)

  later_phase : (m : Name) → sa_phase (sas ++ new_sa phase ∷ []) m ≡ option_map (λ (sa : Sa). sa.phase) (option_or (sa_of sas m) (sa_of (new_sa phase ∷ []) m))
  later_phase m = ap (option_map (λ (sa : Sa). sa.phase)) (find-append (is_of m) sas (new_sa phase ∷ []))

  -- its own member
  own_given : given_at (introduced peers phase.member) phase.member ≡ Some phase
  own_given =
      let peer = phase_there peers phase.member phase its in
      later_given phase.member
      ∙ ap (λ peer. option_and_then given_by (option_map mark_of (option_map introduce peer))) peer.1
      ∙ ap (λ peer. given_by (mark_of peer))
      (cond-true (is_named phase.member peer.0) (record peer.0 { introduced = true }) peer.0 (found_passes (is_named phase.member) peers peer.0 peer.1))
      ∙ ap Some peer.2

  own_phase : sa_phase (sas ++ new_sa phase ∷ []) phase.member ≡ Some phase
  own_phase =
      later_phase phase.member
      ∙ ap (λ sa. option_map (λ (sa : Sa). sa.phase) (option_or sa (sa_of (new_sa phase ∷ []) phase.member))) free
      ∙ ap (λ b. option_map (λ (sa : Sa). sa.phase) (cond b (Some (new_sa phase)) None)) (name_self phase.member)

  -- any other
  module _ (m : Name) (other : same_name m phase.member ≡ false) where
    other_phase : sa_phase (sas ++ new_sa phase ∷ []) m ≡ sa_phase sas m
    other_phase =
        later_phase m
        ∙ ap (λ b. option_map (λ (sa : Sa). sa.phase) (option_or (sa_of sas m) (cond b (Some (new_sa phase)) None))) other
        ∙ by_sa (sa_of sas m)
      where
        by_sa : (sa : Option Sa) → option_map (λ (sa : Sa). sa.phase) (option_or sa None) ≡ option_map (λ (sa : Sa). sa.phase) sa
        by_sa None = refl
        by_sa (Some sa) = refl

    -- a peer of that name is not called so
    not_named : (peer : Peer) → peer_of peers m ≡ Some peer → is_named phase.member peer ≡ false
    not_named peer is = elim (cases_Bool (is_named phase.member peer)) [
      | inl named ↦
          let name : m ≡ phase.member = name_is m peer.phase.member (found_passes (is_named m) peers peer is)
          ∙ sym (name_is phase.member peer.phase.member named) in
          absurd (false≢true (sym other ∙ ap (λ m. same_name m phase.member) name ∙ name_self phase.member))
      | inr differs ↦ differs
    ]

    other_given : given_at (introduced peers phase.member) m ≡ given_at peers m
    other_given =
        later_given m
        ∙ ap (option_and_then given_by) (maps_same mark_of introduce (peer_of peers m)
        (λ peer is. ap mark_of (cond-false (is_named phase.member peer) (record peer { introduced = true }) peer (not_named peer is))))

  pub one_more : (m : Name) → sa_phase (sas ++ new_sa phase ∷ []) m ≡ given_at (introduced peers phase.member) m
  one_more m = elim (cases_Bool (same_name m phase.member)) [
    | inl its_own ↦
        subst (λ m. sa_phase (sas ++ new_sa phase ∷ []) m ≡ given_at (introduced peers phase.member) m) (sym (name_is m phase.member its_own))
        (own_phase ∙ sym own_given)
    | inr other ↦ other_phase m other ∙ same m ∙ sym (other_given m other)
  ]
