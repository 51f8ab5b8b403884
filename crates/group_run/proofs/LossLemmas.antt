-- Members after a block, when for each line is set whether the next datagram to its member goes missing.
use Rattle.std.proofs.Common.{◌≡◌, ◌∙◌, ◌⊎◌, inl, inr, ℕ, zero, suc, Bool, true, false, cond, List, [], ◌∷◌, length, map, Some, refl, sym, ap, subst}
use Rattle.group_terms.specs.Names.{Name}
use Rattle.group_model.specs.declared.entries.Entry.{Entry}
use Rattle.group_peers.specs.Peers.{AreOnce, is_named, peer_of}
use Rattle.group_peers.specs.declared.members.Peer.{Peer}
use Rattle.member_steps.specs.Acts.{Acts, AreActs, IsAct}
use Rattle.member_steps.specs.Members.{Members, with_all}
use Rattle.register_workers.specs.Own.{HaveOwnTurns, own_turns}
use Rattle.register_workers.specs.declared.lines.BlockAsk.{BlockAsk}
use Rattle.register_workers.specs.declared.lines.BlockAsk.TheVariants.{Again, Join}
use Rattle.register_workers.specs.declared.lines.BlockLine.{BlockLine}
use Rattle.group_run.specs.Blocks.{AreHanded, is_for, taken_back, took}
use Rattle.group_run.proofs.HeldLemmas.{HasLine, HasNoLine, all_found, held, held_by, held_if, line_of, map_again, same_maps}
use Rattle.group_run.proofs.OwnTurnLemmas.{two_in}

-- ---- one act more

act_more : (block : ℕ → List ℕ) (group : Name) (n : ℕ) (old mid new : Members) → AreActs block group n old mid → IsAct block group mid new
    → AreActs block group (suc n) old new
act_more block group zero old mid new same more = (new, subst (λ (members : Members). IsAct block group members new) same more, refl)
act_more block group (suc n) old mid new acts more = (acts.0, acts.1, act_more block group n acts.0 mid new acts.2 more)

-- ---- what is set

-- for a peer of such a line
abbrev pub losing_for : BlockAsk → Bool → Peer → Peer
losing_for (Join m) lose peer = cond (is_named m peer) (record peer { loses = lose }) peer
losing_for (Again m) lose peer = cond (is_named m peer) (record peer { loses = lose }) peer
losing_for ask lose peer = peer

-- for lines, the first one last
abbrev pub losing : List BlockLine → Peer → Peer
losing [] peer = peer
losing (line ∷ lines) peer = losing_for line.asked line.lose (losing lines peer)

-- each is an act
module _ (block : ℕ → List ℕ) (group : Name) where
  pub lose_all : (lines : List BlockLine) (members : Members) → Acts block group members (with_all members (map (losing lines) members.all))
  lose_all [] members = (zero, λ i. with_all members (same members.all i))
    where
      same : (peers : List Peer) → map (losing []) peers ≡ peers
      same [] = refl
      same (peer ∷ peers) = λ i. peer ∷ same peers i
  lose_all (line ∷ lines) members = by_ask line.asked (lose_all lines members)
    where
      mid : Members
      mid = with_all members (map (losing lines) members.all)

      once : (m : Name) → IsAct block group mid (with_all members (map (λ peer. losing_for (Join m) line.lose (losing lines peer)) members.all))
      once m = inr (inr (inr (inr (inr (record {
        m = m;
        loses = line.lose;
        now = λ i. with_all members (sym (map_again (losing_for (Join m) line.lose) (losing lines) members.all) i);
      })))))

      by_ask : (asked : BlockAsk) → Acts block group members mid
          → Acts block group members (with_all members (map (λ peer. losing_for asked line.lose (losing lines peer)) members.all))
      by_ask (Join m) acts = (suc acts.0, act_more block group acts.0 members mid _ acts.1 (once m))
      by_ask (Again m) acts = (suc acts.0, act_more block group acts.0 members mid _ acts.1 (once m))
      by_ask asked acts = acts

-- it is what the lines say in all
losing_is : (lines : List BlockLine) (peer : Peer) → losing lines peer ≡ record peer { loses = (took lines peer).loses }
losing_is [] peer = refl
losing_is (line ∷ lines) peer = ap (losing_for line.asked line.lose) (losing_is lines peer) ∙ by_ask line.asked
  where
    was : Peer
    was = took lines peer

    by_name : (b : Bool) → cond b (record peer { loses = line.lose }) (record peer { loses = was.loses })
        ≡ record peer { loses = (cond b (record peer { pull = line.pull; sent = line.sent; loses = line.lose }) was).loses }
    by_name true = refl
    by_name false = refl

    by_ask : (asked : BlockAsk) → losing_for asked line.lose (record peer { loses = was.loses })
        ≡ record peer { loses = (cond (is_for asked peer) (record peer { pull = line.pull; sent = line.sent; loses = line.lose }) was).loses }
    by_ask (Join m) = by_name (is_named m peer)
    by_ask (Again m) = by_name (is_named m peer)
    by_ask asked = refl

-- what it has else does not matter
loses_still : (lines : List BlockLine) (news : List BlockLine) (b : Bool) (peer : Peer) → (took lines (held_if news b peer)).loses ≡ (took lines peer).loses
loses_still [] news b peer = refl
loses_still (line ∷ lines) news b peer = by_ask line.asked (loses_still lines news b peer)
  where
    now : Peer
    now = held_if news b peer

    by_name : (is : Bool) → (took lines now).loses ≡ (took lines peer).loses
        → (cond is (record now { pull = line.pull; sent = line.sent; loses = line.lose }) (took lines now)).loses
        ≡ (cond is (record peer { pull = line.pull; sent = line.sent; loses = line.lose }) (took lines peer)).loses
    by_name true rest = refl
    by_name false rest = rest

    by_ask : (asked : BlockAsk) → (took lines now).loses ≡ (took lines peer).loses
        → (cond (is_for asked now) (record now { pull = line.pull; sent = line.sent; loses = line.lose }) (took lines now)).loses
        ≡ (cond (is_for asked peer) (record peer { pull = line.pull; sent = line.sent; loses = line.lose }) (took lines peer)).loses
    by_ask (Join m) rest = by_name (is_named m peer) rest
    by_ask (Again m) rest = by_name (is_named m peer) rest
    by_ask asked rest = rest

-- ---- at the end

-- a peer with all that this one has
filled : Bool → Peer → Peer → Peer
filled b peer last = record peer { pull = cond b last.pull peer.pull; sent = cond b last.sent peer.sent; loses = last.loses }

module _ (present : Members) (asks : List BlockAsk) (lines news : List BlockLine) (handed : AreHanded present asks lines)
    (as_many : length news ≡ length lines) (turns : List Entry) (own : HaveOwnTurns false lines news turns) where
  at_end : (peer : Peer) → peer_of present.all peer.phase.member ≡ Some peer → losing news (held news turns peer) ≡ took news peer
  at_end peer found =
      losing_is news (held news turns peer)
      ∙ ap (λ loses. record peer {
        pull = cond (two_in (own_turns peer.phase.member turns)) (took news peer).pull peer.pull;
        sent = cond (two_in (own_turns peer.phase.member turns)) (took news peer).sent peer.sent;
        loses = loses;
      }) (loses_still news news (two_in (own_turns peer.phase.member turns)) peer)
      ∙ by_line (line_of present asks lines news handed as_many false turns own peer found)
    where
      Full : Bool → Peer → Type 0
      Full b last = record peer { pull = cond b last.pull peer.pull; sent = cond b last.sent peer.sent; loses = last.loses } ≡ last

      unlined : (b : Bool) → Full b peer
      unlined true = refl
      unlined false = refl

      lined : (new : BlockLine) (b : Bool) → (b ≡ false → (new.pull ≡ peer.pull) × (new.sent ≡ peer.sent))
          → Full b (record peer { pull = new.pull; sent = new.sent; loses = new.lose })
      lined new true still = refl
      lined new false still =
          let same = still refl in λ i. record peer { pull = sym same.0 i; sent = sym same.1 i; loses = new.lose }

      by_line : HasNoLine lines news peer ⊎ HasLine false news turns peer → Full (two_in (own_turns peer.phase.member turns)) (took news peer)
      by_line (inl none) = subst (Full (two_in (own_turns peer.phase.member turns))) (sym none.taken) (unlined (two_in (own_turns peer.phase.member turns)))
      by_line (inr has) =
          subst (Full (two_in (own_turns peer.phase.member turns))) (sym has.taken)
          (lined has.new (two_in (own_turns peer.phase.member turns)) (λ few.
          let still = has.cases.still refl few in (still.pull ∙ has.pull, still.sent ∙ has.sent)))

  -- members end with what their lines have
  pub ends : (block : ℕ → List ℕ) (group : Name) → AreOnce present.all → Acts block group (held_by news turns present) (taken_back news turns present)
  ends block group once = subst (Acts block group (held_by news turns present)) is (lose_all block group news (held_by news turns present))
    where
      each : map (losing news) (map (held news turns) present.all) ≡ map (took news) present.all
      each =
          map_again (losing news) (held news turns) present.all
          ∙ same_maps (λ (peer : Peer). peer_of present.all peer.phase.member ≡ Some peer) (λ peer. losing news (held news turns peer)) (took news) at_end
          present.all (all_found present.all once)

      is : with_all (held_by news turns present) (map (losing news) (map (held news turns) present.all)) ≡ taken_back news turns present
      is = λ i. with_all (taken_back news turns present) (each i)
