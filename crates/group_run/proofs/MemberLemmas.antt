-- What members do: who they are stays, and what is noted of an answer.
use Rattle.std.proofs.Common.{◌≡◌, ◌∙◌, ⊎_elim, ◌||◌, ℕ, zero, suc, Bool, true, false, cond, List, [], ◌∷◌, length, Option, None, Some}
use Rattle.std.proofs.Common.{Bor, Result, Ok, Err, MatchBool, is_some, option_copied, true≢false, refl, sym, ap, subst}
use Rattle.std.specs.Option.{option_and_then, option_map}
use Rattle.std.proofs.lemmas.List.{length-map}
use Rattle.std.proofs.lemmas.Option.{none-some, same_Some}
use Rattle.std.proofs.lemmas.Slice.Eq.{bytes_eq-Decides}
use Rattle.gd_edges.specs.declared.verifiers.Verifier.{Ghosts as VerifierGhosts}
use Rattle.group_terms.specs.Names.{Name, same_name}
use Rattle.group_terms.specs.declared.paths.Keyed.{Keyed}
use Rattle.group_terms.specs.declared.phases.Phase1.{Phase1}
use Rattle.group_terms.specs.declared.pushes.PushRefusal.{PushRefusal}
use Rattle.group_model.specs.Answers.{disk_failed_by, found_by}
use Rattle.group_model.specs.declared.entries.Answer.{Answer}
use Rattle.group_model.specs.declared.entries.Answer.TheVariants.{Done, Nothing}
use Rattle.group_model.specs.declared.entries.Asked.TheVariants.{Keep, Serve}
use Rattle.group_peers.specs.Peers.{changed, is_named, is_peer, peer_of, phase_of, put, sent_by, with_loss, with_peer}
use Rattle.group_peers.specs.declared.members.Peer.{Peer}
use Rattle.member_pull.specs.Pulls.{AtFourth, AtSecond}
use Rattle.member_pull.specs.Views.{Pull}
use Rattle.member_pull.specs.declared.pulls.Step.{Step}
use Rattle.member_pull.specs.declared.pulls.Step.TheVariants as steps
use Rattle.member_store.specs.Stores.{Store, is_older}
use Rattle.member_store.specs.declared.answers.Taken.{Taken}
use Rattle.member_store.specs.declared.answers.Taken.TheVariants as takes
use Rattle.member_steps.specs.Acts.{Agrees, BeginsPull, Comes, IsFirstUse, IsIgnoring, IsUse, Ignore, Ignores}
use Rattle.member_steps.specs.Drawn.{phase_drawn}
use Rattle.member_steps.specs.Keys.{key_of}
use Rattle.member_steps.specs.Members.{Mail, Members, with_all}
use Rattle.member_steps.specs.Steps.{Gets, Gives, GoesMissing, IsKeeping, IsOld, TakesFourth, TakesReply, answer_of}
use Rattle.server_steps.specs.Sent.{pair_by}
use Rattle.group_run.specs.Reads.{Ask, AsksAt, AsksBy, AsksFor, AsksOf}
use Rattle.group_steps.specs.Gets.{introduced_by}
use Rattle.group_run.proofs.KeptLemmas.{KeepsPeers, as_peers}
use Rattle.group_run.proofs.ServedLemmas.{same_itself}

-- an answer by which no push is sent, and beside which nothing is noted but the place of the draws
pub record IsPlain (answer : Answer) : Type 0 where
  pub no_fault : disk_failed_by answer ≡ false
  pub not_opened : found_by answer ≡ None
  pub no_push : pair_by answer ≡ None

-- ---- the same names

-- as many peers, of the same names
pub record AreSame (peers next : List Peer) : Type 0 where
  pub names : (name : Name) → is_peer next name ≡ is_peer peers name
  pub count : length next ≡ length peers

pub keeps_same : {peers next : List Peer} → AreSame peers next → KeepsPeers peers next
keeps_same same = record { each = λ name is. same.names name ∙ is }

pub as_before : {peers next : List Peer} → next ≡ peers → AreSame peers next
as_before {peers} is = subst (AreSame peers) (sym is) (record { names = λ name. refl; count = refl })

pub same_then : {peers mid next : List Peer} → AreSame peers mid → AreSame mid next → AreSame peers next
same_then first second = record { names = λ name. second.names name ∙ first.names name; count = second.count ∙ first.count }

module _ (change : Peer → Peer) (keeps : (peer : Peer) → (change peer).phase.member ≡ peer.phase.member) (m name : Name) where
  same_one : (peer : Peer) → is_named name (cond (is_named m peer) (change peer) peer) ≡ is_named name peer
  same_one peer = elim (is_named m peer) as (λ b. is_named name (cond b (change peer) peer) ≡ is_named name peer) [
    | true ↦ ap (same_name name) (keeps peer)
    | false ↦ refl
  ]

  same_all : (peers : List Peer) → is_peer (changed change peers m) name ≡ is_peer peers name
  same_all [] = refl
  same_all (peer ∷ peers) = λ i. same_one peer i || same_all peers i

pub changed_same : (change : Peer → Peer) → ((peer : Peer) → (change peer).phase.member ≡ peer.phase.member) → (peers : List Peer) (m : Name)
    → AreSame peers (changed change peers m)
changed_same change keeps peers m = record {
  names = λ name. same_all change keeps m name peers;
  count = length-map peers (λ (peer : Peer). cond (is_named m peer) (change peer) peer);
}

module _ (after : Peer) (name : Name) where
  pub put_one : (peer : Peer) → is_named name (cond (is_named after.phase.member peer) after peer) ≡ is_named name peer
  put_one peer = by_name (same_name after.phase.member peer.phase.member) refl
    where
      by_name : (b : Bool) → same_name after.phase.member peer.phase.member ≡ b → is_named name (cond b after peer) ≡ is_named name peer
      by_name true same = ap (same_name name) ((bytes_eq-Decides after.phase.member peer.phase.member).0 same)
      by_name false other = refl

  put_names : (peers : List Peer) → is_peer (put peers after) name ≡ is_peer peers name
  put_names [] = refl
  put_names (peer ∷ peers) = λ i. put_one peer i || put_names peers i

put_same : (peers : List Peer) (after : Peer) → AreSame peers (put peers after)
put_same peers after = record {
  names = λ name. put_names after name peers;
  count = length-map peers (λ (peer : Peer). cond (is_named after.phase.member peer) after peer);
}

-- ---- one peer

-- who is found by a name has it
pub found_named : (peers : List Peer) (m : Name) (peer : Peer) → peer_of peers m ≡ Some peer → m ≡ peer.phase.member
found_named [] m peer is = absurd (none-some peer is)
found_named (first ∷ peers) m peer is = by_name (same_name m first.phase.member) refl (found_named peers m peer) is
  where
    by_name : (b : Bool) → same_name m first.phase.member ≡ b → (peer_of peers m ≡ Some peer → m ≡ peer.phase.member)
        → cond b (Some first) (peer_of peers m) ≡ Some peer → m ≡ peer.phase.member
    by_name true same rest is =
        (bytes_eq-Decides m first.phase.member).0 same ∙ ap (λ (peer : Peer). peer.phase.member) (same_Some first peer is)
    by_name false other rest is = rest is

or_true : (b : Bool) → (b || true) ≡ true
or_true true = refl
or_true false = refl

pub found_peer : (peers : List Peer) (m : Name) (peer : Peer) → peer_of peers m ≡ Some peer → is_peer peers m ≡ true
found_peer [] m peer is = absurd (none-some peer is)
found_peer (first ∷ peers) m peer is = by_name (same_name m first.phase.member) (found_peer peers m peer) is
  where
    by_name : (b : Bool) → (peer_of peers m ≡ Some peer → is_peer peers m ≡ true) → cond b (Some first) (peer_of peers m) ≡ Some peer
        → (b || is_peer peers m) ≡ true
    by_name true rest is = refl
    by_name false rest is = rest is

-- it is found once it was put
put_there : (peers : List Peer) (m : Name) (peer after : Peer) → peer_of peers m ≡ Some peer → after.phase.member ≡ m → peer_of (put peers after) m ≡ Some after
put_there [] m peer after is named = absurd (none-some peer is)
put_there (first ∷ peers) m peer after is named =
    by_name (same_name m first.phase.member) refl (λ there. put_there peers m peer after there named) is
  where
    same : same_name after.phase.member first.phase.member ≡ same_name m first.phase.member
    same = ap (λ name. same_name name first.phase.member) named

    by_name : (b : Bool) → same_name m first.phase.member ≡ b → (peer_of peers m ≡ Some peer → peer_of (put peers after) m ≡ Some after)
        → cond b (Some first) (peer_of peers m) ≡ Some peer → peer_of (put (first ∷ peers) after) m ≡ Some after
    by_name true here rest is =
        ap (λ b. peer_of (cond b after first ∷ put peers after) m) (same ∙ here)
        ∙ ap (λ b. cond b (Some after) (peer_of (put peers after) m)) (ap (same_name m) named ∙ same_itself m)
    by_name false other rest is =
        ap (λ b. peer_of (cond b after first ∷ put peers after) m) (same ∙ other)
        ∙ ap (λ b. cond b (Some first) (peer_of (put peers after) m)) other
        ∙ rest is

-- who has sent something is a peer
pub sender_peer : (peers : List Peer) (m : Name) (datagram : List ℕ) → sent_by peers m ≡ Some datagram → is_peer peers m ≡ true
sender_peer peers m datagram is = by_peer (peer_of peers m) refl is
  where
    by_peer : (found : Option Peer) → peer_of peers m ≡ found → option_and_then (λ (peer : Peer). peer.sent) found ≡ Some datagram → is_peer peers m ≡ true
    by_peer (Some peer) there is = found_peer peers m peer there
    by_peer None there is = absurd (none-some datagram is)

-- and so is the member of an SA
pub phase_peer : (peers : List Peer) (m : Name) (phase : Phase1) → phase_of peers m ≡ Some phase → is_peer peers phase.member ≡ true
phase_peer peers m phase is = by_peer (peer_of peers m) refl is
  where
    by_peer : (found : Option Peer) → peer_of peers m ≡ found → option_map (λ (peer : Peer). peer.phase) found ≡ Some phase → is_peer peers phase.member ≡ true
    by_peer (Some peer) there is =
        subst (λ name. is_peer peers name ≡ true)
        (found_named peers m peer there ∙ ap (λ (phase : Phase1). phase.member) (same_Some peer.phase phase is)) (found_peer peers m peer there)
    by_peer None there is = absurd (none-some phase is)

-- who has one is a peer, and who has none is not
pub owner_peer : (peers : List Peer) (m : Name) (phase : Phase1) → phase_of peers m ≡ Some phase → is_peer peers m ≡ true
owner_peer peers m phase is = by_peer (peer_of peers m) refl is
  where
    by_peer : (found : Option Peer) → peer_of peers m ≡ found → option_map (λ (peer : Peer). peer.phase) found ≡ Some phase → is_peer peers m ≡ true
    by_peer (Some peer) there is = found_peer peers m peer there
    by_peer None there is = absurd (none-some phase is)

pub no_owner : (peers : List Peer) (m : Name) → phase_of peers m ≡ None → is_peer peers m ≡ false
no_owner [] m is = refl
no_owner (first ∷ peers) m is = by_name (same_name m first.phase.member) (no_owner peers m) is
  where
    by_name : (b : Bool) → (phase_of peers m ≡ None → is_peer peers m ≡ false)
        → option_map (λ (peer : Peer). peer.phase) (cond b (Some first) (peer_of peers m)) ≡ None → (b || is_peer peers m) ≡ false
    by_name true rest is = absurd (none-some first.phase (sym is))
    by_name false rest is = rest is

-- ---- members that ignore

-- all but what is on its way stays
pub record IsSameButMail (old new : Members) : Type 0 where
  pub all : new.all ≡ old.all
  pub place : new.place ≡ old.place

pub ignored_same : (n : ℕ) (old new : Members) → Ignore n old new → IsSameButMail old new
ignored_same zero old new is = record { all = ap (λ (members : Members). members.all) is; place = ap (λ (members : Members). members.place) is }
ignored_same (suc n) old new ignores =
    let rest = ignored_same n ignores.0 new ignores.2 in
    record {
      all = rest.all ∙ ap (λ (members : Members). members.all) ignores.1.now;
      place = rest.place ∙ ap (λ (members : Members). members.place) ignores.1.now;
    }

-- one more is ignored
ignore_more : (n : ℕ) (old mid new : Members) → Ignore n old mid → IsIgnoring mid new → Ignore (suc n) old new
ignore_more zero old mid new same more = (new, subst (λ (members : Members). IsIgnoring members new) same more, refl)
ignore_more (suc n) old mid new ignores more = (ignores.0, ignores.1, ignore_more n ignores.0 mid new ignores.2 more)

pub ignores_more : {old mid new : Members} → Ignores old mid → IsIgnoring mid new → Ignores old new
ignores_more {old} {mid} {new} ignores more = (suc ignores.0, ignore_more ignores.0 old mid new ignores.1 more)

-- ---- members that agree

-- the member sent the third message
pub record HasAgreed (m : Name) (third : List ℕ) (old new : Members) : Type 0 where
  pub same : AreSame old.all new.all
  pub place : new.place ≡ old.place
  pub sent : sent_by new.all m ≡ Some third

pub has_agreed : {m : Name} {third : List ℕ} {old new : Members} → Agrees m third old new → HasAgreed m third old new
has_agreed {m} {third} {old} {new} agrees =
    let is_all : new.all ≡ put old.all agrees.after = ap (λ (members : Members). members.all) agrees.now in
    let named : agrees.after.phase.member ≡ m =
    ap (λ (peer : Peer). peer.phase.member) agrees.agrees.now ∙ sym (found_named old.all m agrees.peer agrees.gets.is_there) in
    record {
      same = subst (AreSame old.all) (sym is_all) (put_same old.all agrees.after);
      place = ap (λ (members : Members). members.place) agrees.now;
      sent = ap (λ peers. sent_by peers m) is_all
          ∙ ap (option_and_then (λ (peer : Peer). peer.sent)) (put_there old.all m agrees.peer agrees.after agrees.gets.is_there named)
          ∙ ap (λ (peer : Peer). peer.sent) agrees.agrees.now;
    }

-- ---- members that begin a pull

pub record HasBegun (m : Name) (old new : Members) : Type 0 where
  pub same : AreSame old.all new.all
  pub mail : new.mail ≡ old.mail
  pub datagram : List ℕ
  pub sent : sent_by new.all m ≡ Some datagram

pub has_begun : {block : ℕ → List ℕ} {group m : Name} {old new : Members} → BeginsPull block group m old new → HasBegun m old new
has_begun {block} {group} {m} {old} {new} begins =
    let made = begins.begins in
    let is_all : new.all ≡ put old.all made.after = ap (λ (members : Members). members.all) begins.now ∙ made.now in
    let named : made.after.phase.member ≡ m =
    ap (λ (peer : Peer). peer.phase.member) made.begun.now ∙ sym (found_named old.all m made.peer made.is_there) in
    record {
      same = subst (AreSame old.all) (sym is_all) (put_same old.all made.after);
      mail = ap (λ (members : Members). members.mail) begins.now;
      datagram = made.begun.datagram;
      sent = ap (λ peers. sent_by peers m) is_all
          ∙ ap (option_and_then (λ (peer : Peer). peer.sent)) (put_there old.all m made.peer made.after made.is_there named)
          ∙ ap (λ (peer : Peer). peer.sent) made.begun.now;
    }

-- ---- members that keep

has_got : (m : Name) (keyed : Keyed) (members : Members) (answer : Answer) (next : Members) → Gets m keyed members answer next
    → IsPlain answer × AreSame members.all next.all × (next.mail ≡ members.mail) × (next.place ≡ members.place)
has_got m keyed members answer next gets = (
  subst IsPlain (sym gets.answers) (record { no_fault = refl; not_opened = refl; no_push = refl }),
  subst (λ (next : Members). AreSame members.all next.all) (sym gets.now) (changed_same _ (λ peer. refl) members.all m),
  ap (λ (members : Members). members.mail) gets.now,
  ap (λ (members : Members). members.place) gets.now,
)

taken_by : (had : Option Store) (m : Name) (keyed : Keyed) (members : Members) (answer : Answer) (next : Members)
    → TakesReply had m keyed members answer next
    → IsPlain answer × AreSame members.all next.all × (next.mail ≡ members.mail) × (next.place ≡ members.place)
taken_by None m keyed members answer next gets = has_got m keyed members answer next gets
taken_by (Some store) m keyed members answer next taken =
    elim (is_older store keyed) as (λ b. MatchBool b (IsOld store keyed members answer next) (Gets m keyed members answer next)
    → IsPlain answer × AreSame members.all next.all × (next.mail ≡ members.mail) × (next.place ≡ members.place)) [
      | true ↦ λ old. (
        subst IsPlain (sym old.answers) (record { no_fault = refl; not_opened = refl; no_push = refl }),
        as_before (ap (λ (members : Members). members.all) old.stays),
        ap (λ (members : Members). members.mail) old.stays,
        ap (λ (members : Members). members.place) old.stays,
      )
      | false ↦ λ gets. has_got m keyed members answer next gets
    ] taken

-- what comes of a datagram that went missing, or was taken as the fourth message
pub record HasKept (members : Members) (answer : Answer) (next : Members) : Type 0 where
  pub plain : IsPlain answer
  pub same : AreSame members.all next.all
  pub place : next.place ≡ members.place

pub has_kept : {m : Name} {members : Members} {answer : Answer} {next : Members} → IsKeeping m members answer next → HasKept members answer next
has_kept {m} {members} {answer} {next} keeping =
    ⊎_elim
    (λ (missing : GoesMissing m members answer next). record {
      plain = subst IsPlain (sym missing.answers) (record { no_fault = refl; not_opened = refl; no_push = refl });
      same = subst (λ (next : Members). AreSame members.all next.all) (sym missing.now) (changed_same _ (λ peer. refl) members.all m);
      place = ap (λ (members : Members). members.place) missing.now;
    })
    (λ (takes : TakesFourth m members answer next).
    let taken = taken_by takes.peer.store m takes.keyed _ answer next takes.takes in
    record { plain = taken.0; same = same_then (put_same members.all takes.after) taken.1; place = taken.3 }) keeping

-- ---- what is asked

module _ (m : Name) (members : Members) where
  asks_second : (step : Step) (pull after : Pull) (datagram third : List ℕ) (acted : Members) → AtSecond step pull datagram (Ok third) after
      → Agrees m third members acted → AsksAt step m members (Some (Serve m third, acted))
  asks_second (steps.Second iv) pull after datagram third acted taken agrees = (third, acted, agrees, refl)
  asks_second (steps.Fourth iv nr spi) pull after datagram third acted refused agrees = absurd (cc refused.is)
  asks_second steps.Ended pull after datagram third acted refused agrees = absurd (cc refused.is)

  asks_fourth : (step : Step) (pull ended : Pull) (datagram : List ℕ) (keyed : Keyed) (answer : Answer) (next : Members)
      → AtFourth step pull datagram (Ok keyed) ended → TakesFourth m members answer next → AsksAt step m members (Some (Keep m, members))
  asks_fourth (steps.Fourth iv nr spi) pull ended datagram keyed answer next taken takes = (answer, next, takes, refl)
  asks_fourth (steps.Second iv) pull ended datagram keyed answer next refused takes = absurd (cc refused.is)
  asks_fourth steps.Ended pull ended datagram keyed answer next refused takes = absurd (cc refused.is)

  asks_of : (mail : Mail) (later : List Mail) (next : Option Ask) → members.mail ≡ mail ∷ later → AsksFor mail.0 members next → AsksOf members.mail members next
  asks_of mail later next is asks = subst (λ mails. AsksOf mails members next) (sym is) asks

  asks_come : (datagram : List ℕ) (later : List Mail) (peer : Peer) (next : Option Ask) → Comes m datagram later peer members → AsksBy peer.pull m members next
      → AsksOf members.mail members next
  asks_come datagram later peer next comes asks =
      asks_of (m, datagram) later next comes.is_first (record {
        peer = peer;
        is_there = comes.is_there;
        is = subst (λ b. MatchBool b (next ≡ Some (Keep m, members)) (AsksBy peer.pull m members next)) (sym comes.comes) asks;
      })

  pub asks_third : (third : List ℕ) (acted : Members) → Agrees m third members acted → AsksOf members.mail members (Some (Serve m third, acted))
  asks_third third acted agrees =
      let next = Some (Serve m third, acted) in
      asks_come agrees.second agrees.later agrees.peer next agrees.gets
      (subst (λ pull. AsksBy pull m members next) (sym agrees.agrees.has)
      (asks_second agrees.agrees.pull.step agrees.agrees.pull agrees.agrees.after agrees.second third acted agrees.agrees.takes agrees))

  pub asks_keep : (answer : Answer) (next : Members) → IsKeeping m members answer next → AsksOf members.mail members (Some (Keep m, members))
  asks_keep answer next keeping =
      let ask = Some (Keep m, members) in
      ⊎_elim
      (λ (missing : GoesMissing m members answer next). asks_of (m, missing.datagram) missing.later ask missing.is_first (record {
        peer = missing.peer;
        is_there = missing.is_there;
        is = subst (λ b. MatchBool b (ask ≡ Some (Keep m, members)) (AsksBy missing.peer.pull m members ask)) (sym missing.loses) refl;
      }))
      (λ (takes : TakesFourth m members answer next). asks_come takes.datagram takes.later takes.peer ask takes.gets
      (subst (λ pull. AsksBy pull m members ask) (sym takes.told.has)
      (asks_fourth takes.told.pull.step takes.told.pull takes.told.ended takes.datagram takes.keyed answer next takes.told.takes takes))) keeping

-- ---- other answers of members

-- what comes of it
pub record HasActed (members : Members) (answer : Answer) (next : Members) : Type 0 where
  pub plain : IsPlain answer
  pub same : AreSame members.all next.all
  pub mail : next.mail ≡ members.mail
  pub place : next.place ≡ members.place

nothing_done : (members : Members) (answer : Answer) (next : Members) → IsPlain answer → next ≡ members → HasActed members answer next
nothing_done members answer next plain is = record {
  plain = plain;
  same = as_before (ap (λ (members : Members). members.all) is);
  mail = ap (λ (members : Members). members.mail) is;
  place = ap (λ (members : Members). members.place) is;
}

pub has_lost : (introduced : Bool) (m : Name) (members : Members) (answer : Answer) (next : Members)
    → MatchBool introduced ((answer ≡ Done) × (next ≡ with_all members (with_loss members.all m true))) ((answer ≡ Nothing) × (next ≡ members))
    → HasActed members answer next
has_lost true m members answer next lost = record {
  plain = subst IsPlain (sym lost.0) (record { no_fault = refl; not_opened = refl; no_push = refl });
  same = subst (λ (next : Members). AreSame members.all next.all) (sym lost.1) (changed_same _ (λ peer. refl) members.all m);
  mail = ap (λ (members : Members). members.mail) lost.1;
  place = ap (λ (members : Members). members.place) lost.1;
}
has_lost false m members answer next nothing =
    nothing_done members answer next (subst IsPlain (sym nothing.0) (record { no_fault = refl; not_opened = refl; no_push = refl })) nothing.1

plain_answer : (result : Result Taken PushRefusal) → IsPlain (answer_of result)
plain_answer (Ok (takes.Root epoch)) = record { no_fault = refl; not_opened = refl; no_push = refl }
plain_answer (Ok (takes.Traffic epoch)) = record { no_fault = refl; not_opened = refl; no_push = refl }
plain_answer (Err why) = record { no_fault = refl; not_opened = refl; no_push = refl }

module _ {V : Type 0} (v : VerifierGhosts V) (verifier : V) (m : Name) (members : Members) (answer : Answer) (next : Members) where
  pub has_given : (had : Option Store) (push : Option (List ℕ)) → Gives v verifier had push m members answer next → HasActed members answer next
  has_given (Some store) (Some datagram) given = record {
    plain = subst IsPlain (sym given.answers) (plain_answer given.result);
    same = subst (λ (next : Members). AreSame members.all next.all) (sym given.after) (changed_same _ (λ peer. refl) members.all m);
    mail = ap (λ (members : Members). members.mail) given.after;
    place = ap (λ (members : Members). members.place) given.after;
  }
  has_given (Some store) None nothing =
      nothing_done members answer next (subst IsPlain (sym nothing.0) (record { no_fault = refl; not_opened = refl; no_push = refl })) nothing.1
  has_given None push nothing =
      nothing_done members answer next (subst IsPlain (sym nothing.0) (record { no_fault = refl; not_opened = refl; no_push = refl })) nothing.1

pub plain_key : (store : Option Store) → IsPlain (key_of store)
plain_key None = record { no_fault = refl; not_opened = refl; no_push = refl }
plain_key (Some store) = record { no_fault = refl; not_opened = refl; no_push = refl }

-- ---- members that are used, and introduced

one_more : (peers : List Peer) (phase : Phase1) (name : Name) → is_peer peers name ≡ true → is_peer (with_peer peers phase) name ≡ true
one_more [] phase name is = absurd (true≢false (sym is))
one_more (peer ∷ peers) phase name is = by_name (is_named name peer) (one_more peers phase name) is
  where
    by_name : (b : Bool) → (is_peer peers name ≡ true → is_peer (with_peer peers phase) name ≡ true) → (b || is_peer peers name) ≡ true
        → (b || is_peer (with_peer peers phase) name) ≡ true
    by_name true rest is = refl
    by_name false rest is = rest is

-- who is used stays a peer
pub record HasUsed (old new : Members) : Type 0 where
  pub keeps : KeepsPeers old.all new.all
  pub mail : new.mail ≡ old.mail

pub has_used : (block : ℕ → List ℕ) (m : Name) {old new : Members} → IsUse block m old new → HasUsed old new
has_used block m {old} {new} used =
    elim (is_peer old.all m) as (λ b. MatchBool b (new ≡ old) (IsFirstUse block m old new) → HasUsed old new) [
      | true ↦ λ same. record { keeps = as_peers (ap (λ (members : Members). members.all) same); mail = ap (λ (members : Members). members.mail) same }
      | false ↦ λ first. record {
        keeps = subst (λ (new : Members). KeepsPeers old.all new.all) (sym first.now) (record { each = one_more old.all (phase_drawn block old.place m) });
        mail = ap (λ (members : Members). members.mail) first.now;
      }
    ] used

pub introduced_same : (answer : Answer) (m : Name) (members : Members) → AreSame members.all (introduced_by answer m members).all
introduced_same Done m members = changed_same _ (λ peer. refl) members.all m
introduced_same answer m members = as_before refl

pub introduced_mail : (answer : Answer) (m : Name) (members : Members) → (introduced_by answer m members).mail ≡ members.mail
introduced_mail Done m members = refl
introduced_mail answer m members = refl

pub introduced_place : (answer : Answer) (m : Name) (members : Members) → (introduced_by answer m members).place ≡ members.place
introduced_place Done m members = refl
introduced_place answer m members = refl

-- where there is none
pub none_of : {A : Type 0} (lent : Option (Bor A)) → is_some lent ≡ false → option_copied lent ≡ None
none_of (Some one) is = absurd (true≢false is)
none_of None is = refl

-- where there is one
pub some_of : {A : Type 0} (lent : Option (Bor A)) → is_some lent ≡ true → (it : A) × (option_copied lent ≡ Some it)
some_of (Some one) is = (one.now, refl)
some_of None is = absurd (true≢false (sym is))
