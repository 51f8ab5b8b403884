-- Members while workers run a block of lines: what each has, once these turns were taken.
use Rattle.std.proofs.Common.{◌≡◌, ◌∙◌, ◌⊎◌, inl, inr, ℕ, zero, suc, Bool, true, false, cond, List, [], ◌∷◌, ◌++◌, length, map, slice_get, None, Some}
use Rattle.std.proofs.Common.{true≢false, refl, sym, ap, subst, arith}
use Rattle.std.specs.List.{AllByRecursion, IsDistinct}
use Rattle.std.proofs.lemmas.List.{append-nil}
use Rattle.std.proofs.lemmas.Option.{none-some, same_Some}
use Rattle.group_terms.specs.Names.{Name, same_name}
use Rattle.group_model.specs.declared.entries.Entry.{Entry}
use Rattle.group_peers.specs.Peers.{AreOnce, is_named, names_of, peer_of}
use Rattle.group_peers.specs.declared.members.Peer.{Peer}
use Rattle.member_steps.specs.Members.{Members}
use Rattle.register_workers.specs.Own.{HaveOwnTurns, IsSender, own_turns, serves}
use Rattle.register_workers.specs.declared.lines.BlockAsk.{BlockAsk}
use Rattle.register_workers.specs.declared.lines.BlockLine.{BlockLine}
use Rattle.group_run.specs.Blocks.{AreHanded, Has, HasOf, is_for, took}
use Rattle.group_run.proofs.OwnTurnLemmas.{Cases, cases_of, for_sender, not_own, own_after, same_ask, sender_of, turned, two_in}
use Rattle.group_run.proofs.ServedLemmas.{same_itself}
use Rattle.group_run.proofs.TurnMailLemmas.{way_of}

-- ---- peers by their names

module _ (first : Peer) (all : List Peer) where
  found_after : (peers : List Peer) → AllByRecursion (λ name. same_name first.phase.member name ≡ false) (names_of peers)
      → AllByRecursion (λ (peer : Peer). peer_of all peer.phase.member ≡ Some peer) peers
      → AllByRecursion (λ (peer : Peer). peer_of (first ∷ all) peer.phase.member ≡ Some peer) peers
  found_after [] others found = tt
  found_after (peer ∷ peers) others found = (
    ap (λ b. cond b (Some first) (peer_of all peer.phase.member)) (turned first.phase.member peer.phase.member others.0) ∙ found.0,
    found_after peers others.1 found.1,
  )

-- each is the one of its name
pub all_found : (all : List Peer) → AreOnce all → AllByRecursion (λ (peer : Peer). peer_of all peer.phase.member ≡ Some peer) all
unfolding IsDistinct
all_found [] once = tt
all_found (first ∷ all) once = (
  ap (λ b. cond b (Some first) (peer_of all first.phase.member)) (same_itself first.phase.member),
  found_after first all all once.0 (all_found all once.1),
)

-- two maps that agree at each
pub same_maps : {A : Type 0} (P : Peer → Type 0) (f g : Peer → A) → ((peer : Peer) → P peer → f peer ≡ g peer) → (peers : List Peer)
    → AllByRecursion P peers → map f peers ≡ map g peers
same_maps P f g agree [] all = refl
same_maps P f g agree (peer ∷ peers) all = λ i. agree peer all.0 i ∷ same_maps P f g agree peers all.1 i

pub maps_agree : {A : Type 0} (f g : Peer → A) → ((peer : Peer) → f peer ≡ g peer) → (peers : List Peer) → map f peers ≡ map g peers
maps_agree f g agree [] = refl
maps_agree f g agree (peer ∷ peers) = λ i. agree peer i ∷ maps_agree f g agree peers i

pub map_again : {A : Type 0} (f : Peer → A) (g : Peer → Peer) (peers : List Peer) → map f (map g peers) ≡ map (λ peer. f (g peer)) peers
map_again f g [] = refl
map_again f g (peer ∷ peers) = λ i. f (g peer) ∷ map_again f g peers i

-- ---- what they have

-- where this is so, what its line has at the end
abbrev pub held_if : List BlockLine → Bool → Peer → Peer
held_if news sent_twice peer =
    record peer { pull = cond sent_twice (took news peer).pull peer.pull; sent = cond sent_twice (took news peer).sent peer.sent }

-- once it sent for the second time
abbrev pub held : List BlockLine → List Entry → Peer → Peer
held news turns peer = held_if news (two_in (own_turns peer.phase.member turns)) peer

-- all members, once these turns were taken
abbrev pub held_by : List BlockLine → List Entry → Members → Members
held_by news turns present = record present { all = map (held news turns) present.all; mail = way_of turns }

-- before the first one
pub held_first : (news : List BlockLine) (present : Members) → present.mail ≡ [] → held_by news [] present ≡ present
held_first news present none = λ i. record present { all = each present.all i; mail = sym none i }
  where
    each : (peers : List Peer) → map (held news []) peers ≡ peers
    each [] = refl
    each (peer ∷ peers) = λ i. peer ∷ each peers i

-- one is found as before
pub found_held : (news : List BlockLine) (turns : List Entry) (m : Name) (peer : Peer) (all : List Peer) → peer_of all m ≡ Some peer
    → peer_of (map (held news turns) all) m ≡ Some (held news turns peer)
found_held news turns m peer [] is = absurd (none-some peer is)
found_held news turns m peer (first ∷ all) is = by_name (is_named m first) (found_held news turns m peer all) is
  where
    by_name : (b : Bool) → (peer_of all m ≡ Some peer → peer_of (map (held news turns) all) m ≡ Some (held news turns peer))
        → cond b (Some first) (peer_of all m) ≡ Some peer
        → cond b (Some (held news turns first)) (peer_of (map (held news turns) all) m) ≡ Some (held news turns peer)
    by_name true rest is = ap (λ peer. Some (held news turns peer)) (same_Some first peer is)
    by_name false rest is = rest is

-- a turn of another member changes nothing
pub held_still : (news : List BlockLine) (front : List Entry) (turn : Entry) (peer : Peer) → serves peer.phase.member turn ≡ false
    → held news front peer ≡ held news (front ++ turn ∷ []) peer
held_still news front turn peer other =
    ap (λ own. held_if news (two_in own) peer)
    (sym (not_own peer.phase.member front turn other ∙ append-nil (own_turns peer.phase.member front)))

-- and so does the first one of its own
pub held_once : (news : List BlockLine) (front : List Entry) (turn : Entry) (peer : Peer) → own_turns peer.phase.member front ≡ []
    → held news front peer ≡ held news (front ++ turn ∷ []) peer
held_once news front turn peer none = by_turn (serves peer.phase.member turn) refl
  where
    by_turn : (b : Bool) → serves peer.phase.member turn ≡ b → held news front peer ≡ held news (front ++ turn ∷ []) peer
    by_turn false other = held_still news front turn peer other
    by_turn true own =
        ap (λ own. held_if news (two_in own) peer) none
        ∙ ap (λ own. held_if news (two_in own) peer)
        (sym (own_after peer.phase.member front turn [] own ∙ ap (λ own. own ++ turn ∷ []) none))

-- before its second one it is as it was
pub held_yet : (news : List BlockLine) (front : List Entry) (peer : Peer) → two_in (own_turns peer.phase.member front) ≡ false → held news front peer ≡ peer
held_yet news front peer few = ap (λ b. held_if news b peer) few

-- ---- lines of peers

-- a line for this peer, and what becomes of it
pub record IsPicked (lines news : List BlockLine) (peer : Peer) : Type 0 where
  pub place : ℕ
  pub line : BlockLine
  pub new : BlockLine
  pub is_line : slice_get lines place ≡ Some line
  pub is_new : slice_get news place ≡ Some new
  pub is_for_it : is_for line.asked peer ≡ true
  pub taken : took news peer ≡ record peer { pull = new.pull; sent = new.sent; loses = new.lose }

-- or there is none
pub record HasNoLine (lines news : List BlockLine) (peer : Peer) : Type 0 where
  pub none : (place : ℕ) (line : BlockLine) → slice_get lines place ≡ Some line → is_for line.asked peer ≡ false
  pub taken : took news peer ≡ peer

pub pick : (peer : Peer) (lines news : List BlockLine) → length news ≡ length lines
    → ((place : ℕ) (line new : BlockLine) → slice_get lines place ≡ Some line → slice_get news place ≡ Some new → new.asked ≡ line.asked)
    → HasNoLine lines news peer ⊎ IsPicked lines news peer
pick peer [] [] as_many same = inl (record { none = λ place line is. absurd (none-some line is); taken = refl })
pick peer [] (new ∷ news) as_many same = absurd (omega (arith, as_many))
pick peer (line ∷ lines) [] as_many same = absurd (omega (arith, as_many))
pick peer (line ∷ lines) (new ∷ news) as_many same =
    by_line (is_for line.asked peer) refl (pick peer lines news (omega (arith, as_many)) (λ place. same (suc place)))
  where
    here : is_for new.asked peer ≡ is_for line.asked peer
    here = ap (λ asked. is_for asked peer) (same zero line new refl refl)

    unfold_taken : (b : Bool) → is_for line.asked peer ≡ b
        → took (new ∷ news) peer ≡ cond b (record peer { pull = new.pull; sent = new.sent; loses = new.lose }) (took news peer)
    unfold_taken b is = ap (λ b. cond b (record peer { pull = new.pull; sent = new.sent; loses = new.lose }) (took news peer)) (here ∙ is)

    by_line : (b : Bool) → is_for line.asked peer ≡ b → HasNoLine lines news peer ⊎ IsPicked lines news peer
        → HasNoLine (line ∷ lines) (new ∷ news) peer ⊎ IsPicked (line ∷ lines) (new ∷ news) peer
    by_line true is rest =
        inr (record { place = zero; line = line; new = new; is_line = refl; is_new = refl; is_for_it = is; taken = unfold_taken true is })
    by_line false is (inl rest) = inl (record { none = none; taken = unfold_taken false is ∙ rest.taken })
      where
        none : (place : ℕ) (other : BlockLine) → slice_get (line ∷ lines) place ≡ Some other → is_for other.asked peer ≡ false
        none zero other at = subst (λ (line : BlockLine). is_for line.asked peer ≡ false) (same_Some line other at) is
        none (suc place) other at = rest.none place other at
    by_line false is (inr rest) = inr (record {
      place = suc rest.place;
      line = rest.line;
      new = rest.new;
      is_line = rest.is_line;
      is_new = rest.is_new;
      is_for_it = rest.is_for_it;
      taken = unfold_taken false is ∙ rest.taken;
    })

-- what a line has whose member sends
pub handed_of : (present : Members) (asks : List BlockAsk) (lines : List BlockLine) → AreHanded present asks lines
    → (place : ℕ) (line : BlockLine) → slice_get lines place ≡ Some line → (m : Name) → IsSender line.asked m → HasOf m present line
handed_of present [] [] handed place line at m sends = absurd (none-some line at)
handed_of present [] (first ∷ lines) handed place line at m sends = absurd handed
handed_of present (ask ∷ asks) [] handed place line at m sends = absurd handed
handed_of present (ask ∷ asks) (first ∷ lines) handed (suc place) line at m sends = handed_of present asks lines handed.1 place line at m sends
handed_of present (ask ∷ asks) (first ∷ lines) handed zero line at m sends =
    subst (HasOf m present) (same_Some first line at) (by_ask (subst (λ (line : BlockLine). IsSender line.asked m) (sym (same_Some first line at)) sends))
  where
    by_ask : IsSender first.asked m → HasOf m present first
    by_ask (inl join) = subst (λ ask. Has ask present first) (sym handed.0.asked ∙ join) handed.0.has
    by_ask (inr again) = subst (λ ask. Has ask present first) (sym handed.0.asked ∙ again) handed.0.has

-- The line of a peer, which had what the peer has, and what becomes of both.
pub record HasLine (short : Bool) (news : List BlockLine) (turns : List Entry) (peer : Peer) : Type 0 where
  pub line : BlockLine
  pub new : BlockLine
  pub pull : line.pull ≡ peer.pull
  pub sent : line.sent ≡ peer.sent
  pub loses : line.lose ≡ peer.loses
  pub cases : Cases short peer.phase.member (record line { seen = None }) (own_turns peer.phase.member turns) new
  pub taken : took news peer ≡ record peer { pull = new.pull; sent = new.sent; loses = new.lose }

module _ (present : Members) (asks : List BlockAsk) (lines news : List BlockLine) (handed : AreHanded present asks lines)
    (as_many : length news ≡ length lines) (short : Bool) (turns : List Entry) (own : HaveOwnTurns short lines news turns) where
  pub line_of : (peer : Peer) → peer_of present.all peer.phase.member ≡ Some peer → HasNoLine lines news peer ⊎ HasLine short news turns peer
  line_of peer found =
      by_pick (pick peer lines news as_many (λ place line new is_line is_new. same_ask short line turns new (own.own place line new is_line is_new)))
    where
      by_pick : HasNoLine lines news peer ⊎ IsPicked lines news peer → HasNoLine lines news peer ⊎ HasLine short news turns peer
      by_pick (inl none) = inl none
      by_pick (inr picked) =
          let sends = sender_of picked.line.asked peer picked.is_for_it in
          let has = handed_of present asks lines handed picked.place picked.line picked.is_line peer.phase.member sends in
          let same : has.peer ≡ peer = same_Some has.peer peer (sym has.is_there ∙ found) in
          inr (record {
            line = picked.line;
            new = picked.new;
            pull = has.pull ∙ ap (λ (peer : Peer). peer.pull) same;
            sent = has.sent ∙ ap (λ (peer : Peer). peer.sent) same;
            loses = has.loses ∙ ap (λ (peer : Peer). peer.loses) same;
            cases = cases_of short peer.phase.member picked.line turns picked.new sends (own.own picked.place picked.line picked.new picked.is_line picked.is_new);
            taken = picked.taken;
          })

  -- who sends in a line has one
  pub line_of_sender : (peer : Peer) → peer_of present.all peer.phase.member ≡ Some peer → (place : ℕ) (line : BlockLine)
      → slice_get lines place ≡ Some line → IsSender line.asked peer.phase.member → HasLine short news turns peer
  line_of_sender peer found place line at sends = by_line (line_of peer found)
    where
      by_line : HasNoLine lines news peer ⊎ HasLine short news turns peer → HasLine short news turns peer
      by_line (inl none) = absurd (true≢false (sym (for_sender line.asked peer sends) ∙ none.none place line at))
      by_line (inr has) = has
