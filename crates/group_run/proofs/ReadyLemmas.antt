-- What members do before a turn of a block, so that it is ready: a member agrees to the answer to its first datagram before its second one is served.
use Rattle.std.proofs.Common.{◌≡◌, ◌∙◌, ◌⊎◌, inl, inr, ℕ, zero, suc, Bool, true, false, cond, List, [], ◌∷◌, ◌++◌, length, map, None, Some, Ok}
use Rattle.std.proofs.Common.{append-nil, refl, sym, ap, subst}
use Rattle.std.specs.List.{All}
use Rattle.std.specs.Option.{option_and_then}
use Rattle.std.proofs.lemmas.List.{map-append}
use Rattle.std.proofs.lemmas.List.Elements.{All-head, All-tail}
use Rattle.std.proofs.lemmas.Option.{same_Some}
use Rattle.group_terms.specs.Names.{Name, same_name}
use Rattle.group_model.specs.declared.entries.Asked.{Asked}
use Rattle.group_model.specs.declared.entries.Asked.TheVariants as requests
use Rattle.group_model.specs.declared.entries.Entry.{Entry}
use Rattle.group_peers.specs.Peers.{AreOnce, is_named, peer_of, put}
use Rattle.group_peers.specs.declared.members.Peer.{Peer}
use Rattle.group_steps.specs.Gets.{get, mail_by, mail_to}
use Rattle.member_pull.specs.Pulls.{IsSecond}
use Rattle.member_steps.specs.Acts.{Acts, Agrees, IsReady, Overtakes}
use Rattle.member_steps.specs.Members.{Mail, Members, with_all, with_mail_left}
use Rattle.register_workers.specs.Own.{HaveOwnTurns, IsOfLines, IsRequestOf, IsSender, own_turns, serves, serves_for}
use Rattle.register_workers.specs.declared.lines.BlockAsk.{BlockAsk}
use Rattle.register_workers.specs.declared.lines.BlockLine.{BlockLine}
use Rattle.group_run.specs.Blocks.{AreHanded, left_of, took}
use Rattle.group_run.proofs.HeldLemmas.{HasLine, all_found, found_held, handed_of, held, held_by, held_if, held_once, held_still, held_yet, line_of_sender, map_again, maps_agree, same_maps}
use Rattle.group_run.proofs.MemberLemmas.{found_named, has_agreed}
use Rattle.group_run.proofs.OwnTurnLemmas.{SentOnce, SentTwice, none_after, own_after, same_is, turned, two_in, where_one, where_two}
use Rattle.group_run.proofs.ServedLemmas.{same_itself}
use Rattle.group_run.proofs.TurnMailLemmas.{IsTaken, later_of_none, later_of_own, mail_at, none_own, taken_from, way_batch, way_leave, way_more, way_of, way_served}

-- the datagram that is to be served
datagram_in : Asked → List ℕ
datagram_in (requests.Serve m datagram) = datagram
datagram_in asked = []

module _ (block : ℕ → List ℕ) (group : Name) (present : Members) (news : List BlockLine) where
  -- Members act, and then a turn of this request is ready; what it sends makes them what they are after it.
  pub record IsReadied (front : List Entry) (turn : Entry) (asked : Asked) : Type 0 where
    pub acted : Members
    pub acts : Acts block group (held_by news front present) acted
    pub ready : IsReady asked acted
    pub now : get asked turn.answer acted ≡ held_by news (front ++ turn ∷ []) present

  -- ---- a turn of nobody

  module _ (front : List Entry) (turn : Entry) (nobody : (m : Name) → serves m turn ≡ false) where
    of_nobody : map (held news front) present.all ≡ map (held news (front ++ turn ∷ [])) present.all
    of_nobody =
        maps_agree (held news front) (held news (front ++ turn ∷ [])) (λ peer. held_still news front turn peer (nobody peer.phase.member)) present.all

    way_of_nobody : way_of (front ++ turn ∷ []) ≡ way_of front ++ way_of (turn ∷ [])
    way_of_nobody = way_more turn front (later_of_none turn nobody front)

  readied_batch : (front : List Entry) (turn : Entry) → turn.asked ≡ requests.Batch → IsReadied front turn requests.Batch
  readied_batch front turn is = record {
    acted = held_by news front present;
    acts = (zero, refl);
    ready = tt;
    now = λ i. record present { all = of_nobody front turn nobody i; mail = way i };
  }
    where
      nobody : (m : Name) → serves m turn ≡ false
      nobody m = ap (serves_for m) is

      way : way_of front ++ mail_by turn.answer ≡ way_of (front ++ turn ∷ [])
      way = ap (λ mail. way_of front ++ mail) (sym (way_batch turn is)) ∙ sym (way_of_nobody front turn nobody)

  readied_leave : (front : List Entry) (turn : Entry) (m : Name) → turn.asked ≡ requests.Leave m → IsReadied front turn (requests.Leave m)
  readied_leave front turn m is = record {
    acted = held_by news front present;
    acts = (zero, refl);
    ready = tt;
    now = λ i. record present { all = of_nobody front turn nobody i; mail = way i };
  }
    where
      nobody : (m : Name) → serves m turn ≡ false
      nobody m = ap (serves_for m) is

      way : way_of front ≡ way_of (front ++ turn ∷ [])
      way =
          sym (append-nil (way_of front)) ∙ ap (λ mail. way_of front ++ mail) (sym (way_leave turn m is)) ∙ sym (way_of_nobody front turn nobody)

  -- ---- a turn of a member

  module _ (short : Bool) (turns front : List Entry) (turn : Entry) (later : List Entry) (are : turns ≡ front ++ turn ∷ later)
      (peer : Peer) (found : peer_of present.all peer.phase.member ≡ Some peer) (datagram : List ℕ)
      (is_turn : turn.asked ≡ requests.Serve peer.phase.member datagram) where
    own : serves peer.phase.member turn ≡ true
    own = ap (serves_for peer.phase.member) is_turn ∙ same_itself peer.phase.member

    -- where it is among those of its member
    own_split : own_turns peer.phase.member turns ≡ own_turns peer.phase.member front ++ turn ∷ own_turns peer.phase.member later
    own_split = ap (own_turns peer.phase.member) are ∙ own_after peer.phase.member front turn later own

    -- a turn with this datagram serves it
    same_datagram : (other : Entry) (octets : List ℕ) → turn ≡ other → other.asked ≡ requests.Serve peer.phase.member octets → octets ≡ datagram
    unfolding datagram_in
    same_datagram other octets is asked = ap datagram_in (sym asked ∙ ap (λ (entry : Entry). entry.asked) (sym is) ∙ is_turn)

    -- the first one
    readied_first : own_turns peer.phase.member front ≡ [] → peer.sent ≡ Some datagram → IsReadied front turn (requests.Serve peer.phase.member datagram)
    readied_first none sent = record {
      acted = held_by news front present;
      acts = (zero, refl);
      ready = ap (option_and_then (λ (peer : Peer). peer.sent))
          (found_held news front peer.phase.member peer present.all found ∙ ap (λ peer. Some peer) (held_yet news front peer (ap two_in none))) ∙ sent;
      now = λ i. record present { all = all i; mail = way i };
    }
      where
        still : (other : Peer) → held news front other ≡ held news (front ++ turn ∷ []) other
        still other = by_name (same_name other.phase.member peer.phase.member) refl
          where
            by_name : (b : Bool) → same_name other.phase.member peer.phase.member ≡ b → held news front other ≡ held news (front ++ turn ∷ []) other
            by_name true same =
                held_once news front turn other (ap (λ m. own_turns m front) (same_is other.phase.member peer.phase.member same) ∙ none)
            by_name false differs = held_still news front turn other (ap (serves_for other.phase.member) is_turn ∙ differs)

        all : map (held news front) present.all ≡ map (held news (front ++ turn ∷ [])) present.all
        all = maps_agree (held news front) (held news (front ++ turn ∷ [])) still present.all

        way : way_of front ++ mail_to peer.phase.member turn.answer ≡ way_of (front ++ turn ∷ [])
        way =
            ap (λ mail. way_of front ++ mail) (sym (way_served turn peer.phase.member datagram is_turn))
            ∙ sym (way_more turn front
            (later_of_own peer.phase.member turn datagram is_turn front (none_own peer.phase.member front none)))

    -- the second one
    readied_second : AreOnce present.all → (has : HasLine short news turns peer)
        → (twice : SentTwice peer.phase.member (record has.line { seen = None }) (own_turns peer.phase.member turns) has.new)
        → own_turns peer.phase.member front ≡ twice.first ∷ [] → turn ≡ twice.second → IsReadied front turn (requests.Serve peer.phase.member datagram)
    readied_second once has twice one is = record {
      acted = acted;
      acts = (suc (suc zero), (mid, inr (inr (inr (inr (inl overtakes)))), (acted, inr (inl (peer.phase.member, datagram, agrees)), refl)));
      ready = (has_agreed agrees).sent;
      now = λ i. record present { all = all i; mail = way i };
    }
      where
        is_third : turn.asked ≡ requests.Serve peer.phase.member twice.third
        is_third = ap (λ (entry : Entry). entry.asked) is ∙ twice.asks_third

        taken : IsTaken (peer.phase.member, twice.octets) turn front
        taken =
            taken_from peer.phase.member twice.first turn twice.datagram twice.octets twice.third twice.asked twice.answered is_third front one

        passed : List Mail
        passed = map mail_at taken.passed

        behind : List Mail
        behind = map mail_at taken.later

        -- the answer comes to it
        mid : Members
        mid = with_mail_left (held_by news front present) ((peer.phase.member, twice.octets) ∷ (passed ++ behind))

        after : Peer
        after = record peer { pull = Some twice.after; sent = Some datagram }

        acted : Members
        acted = with_mail_left (with_all mid (put mid.all after)) (passed ++ behind)

        overtakes : Overtakes (held_by news front present) mid
        overtakes = record {
          passed = passed;
          mail = (peer.phase.member, twice.octets);
          later = behind;
          were = ap (map mail_at) taken.were ∙ map-append mail_at taken.passed (record { mail = (peer.phase.member, twice.octets); own = true } ∷ taken.later);
          now = refl;
        }

        agrees : Agrees peer.phase.member datagram mid acted
        agrees = record {
          second = twice.octets;
          later = passed ++ behind;
          peer = peer;
          gets = record {
            is_first = refl;
            is_there = found_held news front peer.phase.member peer present.all found
                ∙ ap (λ peer. Some peer) (held_yet news front peer (ap two_in one));
            comes = sym has.loses ∙ twice.comes;
          };
          after = after;
          agrees = record {
            pull = twice.pull;
            has = sym has.pull ∙ twice.has_pull;
            after = twice.after;
            takes = subst (λ third. IsSecond twice.pull twice.octets (Ok third) twice.after) (same_datagram twice.second twice.third is twice.asks_third) twice.takes;
            now = refl;
          };
          now = refl;
        }

        -- so it has what its line has
        itself : after ≡ held news (front ++ turn ∷ []) peer
        itself =
            (λ i. record peer { pull = last_pull i; sent = last_sent i })
            ∙ ap (λ own. held_if news (two_in own) peer)
            (sym (own_after peer.phase.member front turn [] own ∙ ap (λ own. own ++ turn ∷ []) one))
          where
            last_pull : Some twice.after ≡ (took news peer).pull
            last_pull = sym (ap (λ (peer : Peer). peer.pull) has.taken ∙ twice.new_pull)

            last_sent : Some datagram ≡ (took news peer).sent
            last_sent =
                ap (λ datagram. Some datagram) (sym (same_datagram twice.second twice.third is twice.asks_third))
                ∙ sym (ap (λ (peer : Peer). peer.sent) has.taken ∙ twice.new_sent)

        each : (other : Peer) → peer_of present.all other.phase.member ≡ Some other
            → cond (is_named peer.phase.member other) after (held news front other) ≡ held news (front ++ turn ∷ []) other
        each other there = by_name (same_name peer.phase.member other.phase.member) refl
          where
            by_name : (b : Bool) → same_name peer.phase.member other.phase.member ≡ b
                → cond b after (held news front other) ≡ held news (front ++ turn ∷ []) other
            by_name true same =
                let is : peer ≡ other =
                same_Some peer other (sym found ∙ ap (peer_of present.all) (same_is peer.phase.member other.phase.member same) ∙ there) in
                itself ∙ ap (held news (front ++ turn ∷ [])) is
            by_name false differs =
                held_still news front turn other
                (ap (serves_for other.phase.member) is_turn ∙ turned peer.phase.member other.phase.member differs)

        all : put (map (held news front) present.all) after ≡ map (held news (front ++ turn ∷ [])) present.all
        all =
            map_again (λ (other : Peer). cond (is_named peer.phase.member other) after other) (held news front) present.all
            ∙ same_maps (λ (other : Peer). peer_of present.all other.phase.member ≡ Some other)
            (λ other. cond (is_named peer.phase.member other) after (held news front other)) (held news (front ++ turn ∷ [])) each present.all
            (all_found present.all once)

        way : (passed ++ behind) ++ mail_to peer.phase.member turn.answer ≡ way_of (front ++ turn ∷ [])
        way =
            (λ i. sym (map-append mail_at taken.passed taken.later) i ++ sym (way_served turn peer.phase.member datagram is_turn) i)
            ∙ sym (ap (map mail_at) taken.now ∙ map-append mail_at (taken.passed ++ taken.later) (left_of (turn ∷ [])))

    -- whichever it is
    readied_own : AreOnce present.all → HasLine short news turns peer → IsReadied front turn (requests.Serve peer.phase.member datagram)
    readied_own once has = by_case has.cases.sent
      where
        sent_first : (first : Entry) (octets : List ℕ) → turn ≡ first → has.line.sent ≡ Some octets → first.asked ≡ requests.Serve peer.phase.member octets
            → peer.sent ≡ Some datagram
        sent_first first octets is sent asked = sym has.sent ∙ sent ∙ ap (λ datagram. Some datagram) (same_datagram first octets is asked)

        by_case : (own_turns peer.phase.member turns ≡ [])
            ⊎ (SentOnce peer.phase.member (record has.line { seen = None }) (own_turns peer.phase.member turns)
            ⊎ SentTwice peer.phase.member (record has.line { seen = None }) (own_turns peer.phase.member turns) has.new)
            → IsReadied front turn (requests.Serve peer.phase.member datagram)
        by_case (inl none) =
            absurd (none_after (own_turns peer.phase.member front) (own_turns peer.phase.member later) turn (sym own_split ∙ none))
        by_case (inr (inl sent)) =
            let place = where_one (own_turns peer.phase.member front) (own_turns peer.phase.member later) turn sent.turn (sym own_split ∙ sent.are) in
            readied_first place.0 (sent_first sent.turn sent.datagram place.1 sent.has sent.asked)
        by_case (inr (inr twice)) =
            by_place (where_two (own_turns peer.phase.member front) (own_turns peer.phase.member later) turn twice.first twice.second (sym own_split ∙ twice.are))
          where
            by_place : ((own_turns peer.phase.member front ≡ []) × (turn ≡ twice.first))
                ⊎ ((own_turns peer.phase.member front ≡ twice.first ∷ []) × (turn ≡ twice.second))
                → IsReadied front turn (requests.Serve peer.phase.member datagram)
            by_place (inl first) = readied_first first.0 (sent_first twice.first twice.datagram first.1 twice.has twice.asked)
            by_place (inr second) = readied_second once has twice second.0 second.1

  -- ---- each turn

  module _ (once : AreOnce present.all) (asks : List BlockAsk) (lines : List BlockLine) (handed : AreHanded present asks lines)
      (as_many : length news ≡ length lines) (short : Bool) (turns : List Entry) (have : HaveOwnTurns short lines news turns) where
    pub readied : (front : List Entry) (turn : Entry) (later : List Entry) → turns ≡ front ++ turn ∷ later → IsReadied front turn turn.asked
    readied front turn later are = by_ask turn.asked refl (of_line front (subst (All (IsOfLines lines)) are have.of_lines))
      where
        of_line : (front : List Entry) → All (IsOfLines lines) (front ++ turn ∷ later) → IsOfLines lines turn
        of_line [] all = All-head (IsOfLines lines) turn later all
        of_line (entry ∷ front) all = of_line front (All-tail (IsOfLines lines) entry (front ++ turn ∷ later) all)

        by_ask : (asked : Asked) → turn.asked ≡ asked → IsRequestOf lines asked → IsReadied front turn asked
        by_ask requests.Batch is of = readied_batch front turn is
        by_ask (requests.Leave m) is of = readied_leave front turn m is
        by_ask (requests.Serve m datagram) is of =
            let has = handed_of present asks lines handed of.0 of.1 of.2 m of.3 in
            let named : m ≡ has.peer.phase.member = found_named present.all m has.peer has.is_there in
            let found : peer_of present.all has.peer.phase.member ≡ Some has.peer =
            subst (λ m. peer_of present.all m ≡ Some has.peer) named has.is_there in
            subst (λ m. IsReadied front turn (requests.Serve m datagram)) (sym named)
            (readied_own short turns front turn later are has.peer found datagram (is ∙ ap (λ m. requests.Serve m datagram) named) once
            (line_of_sender present asks lines news handed as_many short turns have has.peer found of.0 of.1 of.2
            (subst (IsSender of.1.asked) named of.3)))
        by_ask asked is of = absurd of
