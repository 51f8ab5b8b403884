-- What members do before an entry that a line gives: they act as they may, and then can ask what is asked.
use Rattle.std.proofs.Common.{◌≡◌, ℕ, zero, suc, Bool, true, false, List, [], ◌∷◌, ◌++◌, Option, None, Some, refl, sym, ap, ◌∙◌, subst, inl, inr}
use Rattle.std.specs.Prelude.{MatchBool, option_and_then, option_map, slice_get}
use Rattle.std.proofs.lemmas.Bool.{false≢true}
use Rattle.std.proofs.lemmas.List.{reverse-append}
use Rattle.std.proofs.lemmas.Option.{none-some, same_Some}
use Rattle.std.proofs.lemmas.Slice.Eq.{bytes_eq-Decides}
use Rattle.group_terms.specs.Names.{Name}
use Rattle.group_terms.specs.declared.phases.Phase1.{Phase1}
use Rattle.group_model.specs.Answers.{opens}
use Rattle.group_model.specs.declared.entries.Answer.{Answer}
use Rattle.group_model.specs.declared.entries.Answer.TheVariants.{Done}
use Rattle.group_model.specs.declared.entries.Asked.{Asked}
use Rattle.group_model.specs.declared.entries.Asked.TheVariants as requests
use Rattle.group_model.specs.declared.entries.Entry.{Entry}
use Rattle.group_peers.specs.Peers.{is_peer, peer_of, phase_of, put, sent_by, was_introduced}
use Rattle.group_peers.specs.declared.members.Peer.{Peer}
use Rattle.group_run.specs.Reads.{Ask, AsksAt, AsksBy as ReadsBy, AsksOf, ReadsMail}
use Rattle.group_steps.specs.Runs.{Run}
use Rattle.member_pull.specs.Views.{Pull}
use Rattle.member_pull.specs.declared.pulls.Step.{Step}
use Rattle.member_pull.specs.declared.pulls.Step.TheVariants as steps
use Rattle.member_steps.specs.Acts.{Acts, AreActs, Ignore, Ignores, IsAct, IsFirstUse, IsReady}
use Rattle.member_steps.specs.Members.{Mail, Members}
use Rattle.member_steps.proofs.PeerLemmas.{found_named, peer_put}
use Rattle.script_text.specs.declared.lines.Line.{Line}
use Rattle.script_text.specs.declared.lines.Line.TheVariants.{Nothing, Allow, Deny, Join, Again, Lose, Leave, Batch, Deliver, DeliverAll, Key, Derive}
use Rattle.script_text.specs.declared.lines.Line.TheVariants.{Halt, Reopen, Show, Now, Together, End}
use Rattle.console_run.specs.Lines.{Asks, AsksAfter, AsksBy, AsksFirst, AsksNext, AsksToIntroduce, AsksToPull, GivesWhatIsDue}
use Rattle.console_run.specs.Lines.{JoinsAfter, asked_again, last_of}

-- ---- what is ignored

pub ignores_then : (n : ℕ) (a b c : Members) → Ignore n a b → Ignores b c → Ignores a c
ignores_then zero a b c same h = subst (λ a. Ignores a c) same h
ignores_then (suc n) a b c more h = let later = ignores_then n more.0 b c more.2 h in (suc later.0, (more.0, more.1, later.1))

pub ignores_all : (n : ℕ) (a b : Members) → Ignore n a b → b.all ≡ a.all
ignores_all zero a b same = ap (λ (members : Members). members.all) same
ignores_all (suc n) a b more = ignores_all n more.0 b more.2 ∙ ap (λ (members : Members). members.all) more.1.now

-- where nothing is on its way nothing is ignored
pub ignores_none : (n : ℕ) (a b : Members) → Ignore n a b → a.mail ≡ [] → b ≡ a
ignores_none zero a b same none = same
ignores_none (suc n) a b more none = absurd (cc (none, more.1.gets.is_first))

-- what is read where some of it was ignored before
pub reads_from : (a b : Members) (next : Option Ask) → Ignores a b → ReadsMail b next → ReadsMail a next
reads_from a b next ignored h = (h.0, ignores_then ignored.0 a b h.0 ignored.1 h.1, h.2)

-- ---- peers by their names

member_is : (peers : List Peer) (m : Name) (peer : Peer) → peer_of peers m ≡ Some peer → m ≡ peer.phase.member
member_is peers m peer is = (bytes_eq-Decides m peer.phase.member).0 (found_named peers m peer is)

pub phase_found : (found : Option Peer) (phase : Phase1) → option_map (λ (peer : Peer). peer.phase) found ≡ Some phase
    → (peer : Peer) × (found ≡ Some peer) × (peer.phase ≡ phase)
phase_found None phase is = absurd (none-some phase is)
phase_found (Some peer) phase is = (peer, refl, same_Some peer.phase phase is)

-- the SA of a member has its name
pub phase_named : (peers : List Peer) (m : Name) (phase : Phase1) → phase_of peers m ≡ Some phase → m ≡ phase.member
phase_named peers m phase is =
    let found = phase_found (peer_of peers m) phase is in
    member_is peers m found.0 found.1 ∙ ap (λ (phase : Phase1). phase.member) found.2

-- ---- what members do

module _ (block : ℕ → List ℕ) (group : Name) where
  pub acts_then : (n : ℕ) (a b c : Members) → AreActs block group n a b → Acts block group b c → Acts block group a c
  acts_then zero a b c same h = subst (λ a. Acts block group a c) same h
  acts_then (suc n) a b c more h = let later = acts_then n more.0 b c more.2 h in (suc later.0, (more.0, more.1, later.1))

  pub ignoring_acts : (n : ℕ) (a b : Members) → Ignore n a b → Acts block group a b
  ignoring_acts zero a b same = (zero, same)
  ignoring_acts (suc n) a b more = let later = ignoring_acts n more.0 b more.2 in (suc later.0, (more.0, inl more.1, later.1))

  pub one_act : (a b : Members) → IsAct block group a b → Acts block group a b
  one_act a b h = (suc zero, (b, h, refl))

  -- after what they ignored
  acts_after : (a b c : Members) → Ignores a b → Acts block group b c → Acts block group a c
  acts_after a b c ignored h = let first = ignoring_acts ignored.0 a b ignored.1 in acts_then first.0 a b c first.1 h

  -- they act, and can ask then
  abbrev pub CanAsk : Members → Asked → Members → Type 0
  CanAsk members asked acted = Acts block group members acted × IsReady asked acted

  -- what is asked is this
  can_ask : (members : Members) (asked request : Asked) (acted present : Members) → CanAsk members request present → Asks request present (Some (asked, acted))
      → CanAsk members asked acted
  can_ask members asked request acted present can same =
      let is : (request, present) ≡ (asked, acted) = sym (same_Some (asked, acted) (request, present) same) in
      subst (λ (ask : Ask). CanAsk members ask.0 ask.1) is can

  -- and nothing
  abbrev IsNone : Option Ask → Type 0
  IsNone next = next ≡ None

  nothing_asked : {T : Type 0} (ask : Ask) → Some ask ≡ None → T
  nothing_asked ask none = absurd (none-some ask (sym none))

  stays : (members : Members) → Acts block group members members
  stays members = (zero, refl)

  -- ---- by what is on its way

  reads_can : (n : ℕ) (members read : Members) (asked : Asked) (acted : Members) → Ignore n members read → (mail : List Mail)
      → AsksOf mail read (Some (asked, acted)) → CanAsk members asked acted
  reads_can n members read asked acted ignored [] none = nothing_asked (asked, acted) none
  reads_can n members read asked acted ignored (mail ∷ later) asks = by_loss asks.peer.loses asks.is
    where
      keeps : Asks (requests.Keep mail.0) read (Some (asked, acted)) → CanAsk members asked acted
      keeps same = can_ask members asked (requests.Keep mail.0) acted read (ignoring_acts n members read ignored, tt) same

      by_step : (step : Step) → AsksAt step mail.0 read (Some (asked, acted)) → CanAsk members asked acted
      by_step (steps.Second iv) h =
          let agrees = h.2 in
          let now : h.1.all ≡ put read.all agrees.after = ap (λ (members : Members). members.all) agrees.now in
          let phase : agrees.after.phase ≡ agrees.peer.phase = ap (λ (peer : Peer). peer.phase) agrees.agrees.now in
          let found : peer_of h.1.all mail.0 ≡ Some agrees.after =
          ap (λ all. peer_of all mail.0) now ∙ peer_put read.all mail.0 agrees.after agrees.peer agrees.gets.is_there phase in
          let sent : sent_by h.1.all mail.0 ≡ Some h.0 =
          ap (option_and_then (λ (peer : Peer). peer.sent)) found ∙ ap (λ (peer : Peer). peer.sent) agrees.agrees.now in
          can_ask members asked (requests.Serve mail.0 h.0) acted h.1
          (acts_after members read h.1 (n, ignored) (one_act read h.1 (inr (inl (mail.0, h.0, agrees)))), sent) h.3
      by_step (steps.Fourth iv nr spi) h = keeps h.3
      by_step steps.Ended h = absurd h

      by_pull : (pull : Option Pull) → ReadsBy pull mail.0 read (Some (asked, acted)) → CanAsk members asked acted
      by_pull None h = absurd h
      by_pull (Some pull) h = by_step pull.step h

      by_loss : (loses : Bool) → MatchBool loses (Asks (requests.Keep mail.0) read (Some (asked, acted)))
          (ReadsBy asks.peer.pull mail.0 read (Some (asked, acted)))
          → CanAsk members asked acted
      by_loss true h = keeps h
      by_loss false h = by_pull asks.peer.pull h

  mail_can : (members : Members) (asked : Asked) (acted : Members) → ReadsMail members (Some (asked, acted)) → CanAsk members asked acted
  mail_can members asked acted h = reads_can h.1.0 members h.0 asked acted h.1.1 h.0.mail h.2

  -- ---- by a line

  module _ {D : Type 0} (run : Run D) (before so_far : List Entry) where
    pull_can : (m : Name) (members : Members) (asked : Asked) (acted : Members) → AsksToPull block group run before so_far m members (Some (asked, acted))
        → CanAsk members asked acted
    pull_can m members asked acted h =
        can_ask members asked (requests.Serve m h.2) acted h.0 (one_act members h.0 (inr (inr (inr (inl (m, h.1))))), h.3) h.4

    pub use_can : (m : Name) (members used : Members) (b : Bool) → MatchBool b (used ≡ members) (IsFirstUse block m members used) → Acts block group members used
    use_can m members used true same = subst (λ used. Acts block group members used) (sym same) (stays members)
    use_can m members used false first = one_act members used (inr (inr (inl (m, first))))

    introduce_can : (m : Name) (members : Members) (asked : Asked) (acted : Members)
        → AsksToIntroduce block group run before so_far m members (Some (asked, acted)) → CanAsk members asked acted
    introduce_can m members asked acted h =
        can_ask members asked (requests.Introduce h.2) acted h.0
        (use_can m members h.0 (is_peer members.all m) h.1, subst (λ m. phase_of h.0.all m ≡ Some h.2) (phase_named h.0.all m h.2 h.3) h.3) h.4

    join_can : (m : Name) (members : Members) (asked : Asked) (acted : Members) (b : Bool)
        → MatchBool b (AsksToPull block group run before so_far m members (Some (asked, acted)))
        (AsksToIntroduce block group run before so_far m members (Some (asked, acted))) → CanAsk members asked acted
    join_can m members asked acted true h = pull_can m members asked acted h
    join_can m members asked acted false h = introduce_can m members asked acted h

    again_can : (m : Name) (members : Members) (asked : Asked) (acted : Members) (sent : Option (List ℕ)) → sent_by members.all m ≡ sent
        → Asks (asked_again m sent) members (Some (asked, acted)) → CanAsk members asked acted
    again_can m members asked acted None is h = can_ask members asked (requests.Again m) acted members (stays members, tt) h
    again_can m members asked acted (Some datagram) is h = can_ask members asked (requests.Serve m datagram) acted members (stays members, is) h

    due_can : (members : Members) (asked : Asked) (acted : Members) → GivesWhatIsDue block group run before so_far members (Some (asked, acted))
        → CanAsk members asked acted
    due_can members asked acted h = elim h.2 [
      | inl none ↦ nothing_asked (asked, acted) none.0
      | inr due ↦ can_ask members asked (requests.Deliver due.0.member due.0.number) acted members (stays members, tt) due.1
    ]

    all_can : (members : Members) (asked : Asked) (acted : Members) (needs_reopen : Bool)
        → MatchBool needs_reopen (Asks requests.DeliverAll members (Some (asked, acted)))
        (GivesWhatIsDue block group run before so_far members (Some (asked, acted)))
        → CanAsk members asked acted
    all_can members asked acted true h = can_ask members asked requests.DeliverAll acted members (stays members, tt) h
    all_can members asked acted false h = due_can members asked acted h

    first_can : (line : Line) (members : Members) (asked : Asked) (acted : Members) → AsksFirst block group run before so_far line members (Some (asked, acted))
        → CanAsk members asked acted
    first_can Nothing members asked acted h = nothing_asked (asked, acted) h
    first_can (Allow pattern) members asked acted h =
        can_ask members asked (requests.AddRule (record { allow = true; pattern = pattern })) acted members (stays members, tt) h
    first_can (Deny pattern) members asked acted h =
        can_ask members asked (requests.AddRule (record { allow = false; pattern = pattern })) acted members (stays members, tt) h
    first_can (Join m) members asked acted h = join_can m members asked acted (was_introduced members.all m) h
    first_can (Again m) members asked acted h = again_can m members asked acted (sent_by members.all m) refl h
    first_can (Lose m) members asked acted h = can_ask members asked (requests.Lose m) acted members (stays members, tt) h
    first_can (Leave m) members asked acted h = can_ask members asked (requests.Leave m) acted members (stays members, tt) h
    first_can Batch members asked acted h = can_ask members asked requests.Batch acted members (stays members, tt) h
    first_can (Deliver m number) members asked acted h = can_ask members asked (requests.Deliver m number) acted members (stays members, tt) h
    first_can DeliverAll members asked acted h = all_can members asked acted run.host.server.needs_reopen h
    first_can (Key m) members asked acted h = can_ask members asked (requests.Key m) acted members (stays members, tt) h
    first_can (Derive epoch names) members asked acted h = can_ask members asked (requests.Derive epoch names) acted members (stays members, tt) h
    first_can Halt members asked acted h = can_ask members asked requests.Halt acted members (stays members, tt) h
    first_can Reopen members asked acted h = can_ask members asked requests.Reopen acted members (stays members, tt) h
    first_can Show members asked acted h = can_ask members asked requests.Show acted members (stays members, tt) h
    first_can Now members asked acted h = can_ask members asked requests.Now acted members (stays members, tt) h
    first_can Together members asked acted h = nothing_asked (asked, acted) h
    first_can End members asked acted h = nothing_asked (asked, acted) h

    after_join : (m : Name) (request : Asked) (answer : Answer) (asked : Asked) (acted : Members)
        → JoinsAfter block group run before so_far m request answer (Some (asked, acted)) → CanAsk run.members asked acted
    after_join m (requests.Introduce phase) Done asked acted h = pull_can m run.members asked acted h
    after_join m (requests.Introduce phase) answer asked acted h = nothing_asked (asked, acted) h
    after_join m request answer asked acted h = mail_can run.members asked acted h

    after_all : (needs_reopen : Bool) (asked : Asked) (acted : Members)
        → MatchBool needs_reopen (IsNone (Some (asked, acted))) (GivesWhatIsDue block group run before so_far run.members (Some (asked, acted)))
        → CanAsk run.members asked acted
    after_all true asked acted h = nothing_asked (asked, acted) h
    after_all false asked acted h = due_can run.members asked acted h

    after_can : (line : Line) (last : Entry) (asked : Asked) (acted : Members) → AsksAfter block group run before so_far line last (Some (asked, acted))
        → CanAsk run.members asked acted
    after_can (Join m) last asked acted h = after_join m last.asked last.answer asked acted h
    after_can (Again m) last asked acted h = mail_can run.members asked acted h
    after_can Batch last asked acted h = mail_can run.members asked acted h
    after_can DeliverAll last asked acted h = after_all run.host.server.needs_reopen asked acted h
    after_can line last asked acted h = nothing_asked (asked, acted) h

    next_can : (line : Line) (last : Option Entry) (asked : Asked) (acted : Members) → AsksBy block group run before so_far line last (Some (asked, acted))
        → CanAsk run.members asked acted
    next_can line None asked acted h =
        let can = first_can line h.0 asked acted h.2 in
        (acts_after run.members h.0 acted h.1.0 can.0, can.1)
    next_can line (Some last) asked acted h = after_can line last asked acted h

    pub asked_acts : (line : Line) (asked : Asked) (acted : Members) → AsksNext block group run before so_far line (Some (asked, acted))
        → CanAsk run.members asked acted
    asked_acts line asked acted h = next_can line (last_of so_far) asked acted h

-- ---- openings

-- who asks for an opening needs no member
pub opening_ready : (asked : Asked) (members : Members) → opens asked ≡ true → IsReady asked members
opening_ready (requests.Introduce phase) members h = absurd (false≢true h)
opening_ready (requests.Serve m datagram) members h = absurd (false≢true h)
opening_ready asked members h = tt

-- ---- the last entry

pub last_is : (front : List Entry) (last : Entry) → last_of (front ++ last ∷ []) ≡ Some last
last_is front last = ap (λ entries. slice_get entries 0) (reverse-append front (last ∷ []))
