-- The lines of a block, once workers ran them.
use Rattle.std.proofs.Common.{◌≡◌, ◌∙◌, ◌⊎◌, inl, inr, ⊎_elim, ℕ, ◌≤◌, Bool, true, false, MatchBool, List, [], ◌∷◌, ◌++◌, drop, length, append-nil, Option, None, Some, refl, sym, ap, subst}
use Rattle.std.specs.Prelude.{IfSome}
use Rattle.std.specs.List.{All, cons_option, flat_map}
use Rattle.std.proofs.lemmas.List.Elements.{All-cons, All-head, All-nil, All-tail, All-weaker}
use Rattle.epoch_board.specs.declared.pairs.Seen.{Seen}
use Rattle.gd_disk.specs.declared.disks.Disk.{Ghosts as DiskGhosts}
use Rattle.gd_edges.specs.declared.draws.Draws.{Ghosts as DrawGhosts}
use Rattle.gd_edges.specs.declared.signers.Signer.{Ghosts as SignerGhosts}
use Rattle.group_terms.specs.Names.{Name}
use Rattle.group_model.specs.declared.entries.Entry.{Entry}
use Rattle.group_peers.specs.Peers.{AreOnce, is_peer}
use Rattle.group_peers.specs.declared.members.Peer.{Peer}
use Rattle.group_run.specs.Blocks.{AreHanded, Finishes, IsBlock, Point, StopsAfter, StopsShort, seen_in, taken_back}
use Rattle.group_run.specs.Mails.{mail_in}
use Rattle.group_run.specs.Places.{AreAsked, IsAt, IsServedAt, Reaches, ReachesServed, keys_of}
use Rattle.group_run.specs.Private.Begun.{CanRun, CanRunOn, Ends, HasEnded, HasEndedServed, HasHanded, StopsEnding, lent}
use Rattle.group_run.specs.Private.Kept.{GoesToPeer}
use Rattle.group_run.specs.Private.Lendings.{all_lending, asks_of}
use Rattle.group_run.specs.Private.Ran.{AreUntouched, HasTurned, HaveWorked, IsOfPeer}
use Rattle.group_run.specs.Views.{View}
use Rattle.group_run.proofs.BlockLemmas.{after_turns, finishes, stops_after}
use Rattle.group_run.proofs.ReachLemmas.{same_keys}
use Rattle.group_run.proofs.RunLemmas.{all_ready, asked_apart, asks_still}
use Rattle.group_run.proofs.StartLemmas.{lending_named, stops_begun}
use Rattle.group_run.proofs.TurningLemmas.{added_turns}
use Rattle.member_steps.specs.Members.{Members}
use Rattle.register_workers.specs.Lines.{IsReady}
use Rattle.register_workers.specs.LooksShown.{LooksWereShown, ShowsOnly, WasShown}
use Rattle.register_workers.specs.Own.{HaveOwnTurns, LinesHaveOwnTurns}
use Rattle.register_workers.specs.declared.lines.BlockAsk.{BlockAsk}
use Rattle.register_workers.specs.declared.lines.BlockAsk.TheVariants.{Again, Batch, Join, Leave, Now}
use Rattle.register_workers.specs.declared.lines.BlockLine.{BlockLine}
use Rattle.server_steps.specs.Reflects.{IsServerOf}
use Rattle.server_steps.specs.Serves.{GoesOn}
use Rattle.server_steps.specs.Steps.{AreServed}

-- ---- lines of peers, some of whom lent

of_peer_still : (before now : List Peer) → ((name : Name) → is_peer now name ≡ is_peer before name) → (ask : BlockAsk) → IsOfPeer before ask → IsOfPeer now ask
of_peer_still before now named (Join m) is = named m ∙ is
of_peer_still before now named (Again m) is = named m ∙ is
of_peer_still before now named (Leave m) is = tt
of_peer_still before now named Batch is = tt
of_peer_still before now named Now is = tt

pub lent_of_peers : (lines : List BlockLine) (members : Members) → (can : CanRunOn lines members) → All (λ (line : BlockLine). IsOfPeer members.all line.asked) lines
lent_of_peers lines members can =
    let now : members.all ≡ all_lending can.handed can.before.all = ap (λ (members : Members). members.all) can.now in
    All-weaker (λ (line : BlockLine). IsOfPeer can.before.all line.asked) (λ (line : BlockLine). IsOfPeer members.all line.asked)
    (λ line. of_peer_still can.before.all members.all
    (λ name. ap (λ peers. is_peer peers name) now ∙ lending_named can.handed name can.before.all) line.asked)
    lines can.can.of_peers

asks_handed : (members : Members) (asks : List BlockAsk) (lines : List BlockLine) → AreHanded members asks lines → asks_of lines ≡ asks
asks_handed members [] [] are = refl
asks_handed members [] (line ∷ lines) are = absurd are
asks_handed members (ask ∷ asks) [] are = absurd are
asks_handed members (ask ∷ asks) (line ∷ lines) are = λ i. are.0.asked i ∷ asks_handed members asks lines are.1 i

-- ---- what looks showed

shown_in_all : (history : List Entry) (news : List BlockLine) → All (ShowsOnly history) news → All (WasShown history) (seen_in news)
shown_in_all history [] all = All-nil (WasShown history)
shown_in_all history (new ∷ news) all =
    by_seen new.seen (All-head (ShowsOnly history) new news all) (shown_in_all history news (All-tail (ShowsOnly history) new news all))
  where
    by_seen : (seen : Option Seen) → IfSome seen (WasShown history) → All (WasShown history) (seen_in news)
        → All (WasShown history) (cons_option seen (seen_in news))
    by_seen None shown all = all
    by_seen (Some seen) shown all = All-cons (WasShown history) seen (seen_in news) shown all

-- ---- after the turns

module _ {D G R : Type 0} (d : DiskGhosts D) (g : SignerGhosts G) (draws : DrawGhosts R) (own : LinesHaveOwnTurns) (looked : LooksWereShown) (workers : ℕ)
    (some : 1 ≤ workers) {short ran : Bool} {lines news : List BlockLine} {old new : View D G R}
    (turned : HasTurned d g draws workers short ran lines news old new) (first : ℕ) (at : first ≡ length old.entries) where
  -- there was no memory for the block itself
  pub untouched : ran ≡ false → (handed : List BlockAsk) (asks : List BlockAsk) (block : ℕ → List ℕ) (group : Name) (ready : Point D)
      → IsServedAt d draws old ready
      → (next : Point D) × ((next ≡ ready) ⊎ StopsAfter d g (keys_of draws old block group) workers asks handed ready next) × IsServedAt d draws new next
  untouched none handed asks block group ready served =
      let same = subst (λ ran. MatchBool ran (HaveWorked workers old.entries turned.since.news short lines news) (AreUntouched turned.since.news short lines news))
      none turned.worked in
      let next = turned.since.each ready.run.host served.server in (
        ready,
        inl refl,
        record {
          entries = turned.since.history ∙ ap (λ news. old.entries ++ news) same.none ∙ append-nil old.entries ∙ served.entries;
          server = subst (IsServerOf d draws new.server)
              (subst (λ news. AreServed d g old.server.core.signer (draws.block_at old.server.core.draws) ready.run.host news next.0) same.none next.1) next.2;
        },
      )

  module _ (has_run : ran ≡ true) (can : CanRunOn lines old.members) where
    worked : HaveWorked workers old.entries turned.since.news short lines news
    worked = subst (λ ran. MatchBool ran (HaveWorked workers old.entries turned.since.news short lines news) (AreUntouched turned.since.news short lines news))
        has_run turned.worked

    have : HaveOwnTurns short lines news turned.since.news
    have = own short workers old.entries turned.since.news lines news worked.calls some can.can.apart worked.as_many worked.a_list_each worked.are_calls worked.worked

    since_first : drop first new.entries ≡ turned.since.news
    since_first = ap (λ first. drop first new.entries) at ∙ added_turns old.entries turned.since.news new.entries turned.since.history

    pub ready_then : All IsReady news
    ready_then = all_ready short lines news turned.since.news worked.as_many can.can.ready have.own

    same_asks : asks_of news ≡ asks_of lines
    same_asks = asks_still short lines news turned.since.news worked.as_many have.own

    pub apart_then : AreAsked (asks_of news)
    apart_then = asked_apart lines (asks_of news) same_asks can.can.apart

    pub to_peers_then : All (GoesToPeer new.members.all) (flat_map mail_in (drop first new.entries))
    to_peers_then = subst (λ turns. All (GoesToPeer new.members.all) (flat_map mail_in turns)) (sym since_first) turned.to_peers

    pub shown_then : All (WasShown new.entries) (seen_in news)
    shown_then = subst (λ entries. All (WasShown entries) (seen_in news)) (sym turned.since.history)
        (shown_in_all (old.entries ++ turned.since.news) news
        (looked short workers old.entries turned.since.news lines news worked.calls some worked.worked))

    -- what the end of the block makes of it, wherever the lines began
    module _ (block : ℕ → List ℕ) (group : Name) (asks handed : List BlockAsk) (before : Members) (begun : CanRun before handed lines)
        (now : old.members ≡ lent handed before) (unsent : before.mail ≡ []) (ready : Point D) (served : IsServedAt d draws old ready)
        (is : ready.present ≡ before) where
      members_then : new.members ≡ lent (asks_of news) before
      members_then = turned.members ∙ now
          ∙ ap (λ handed. lent handed before) (sym (same_asks ∙ asks_handed before handed lines begun.handed_over))

      keys_then : keys_of draws new block group ≡ keys_of draws old block group
      keys_then = same_keys draws old new turned.since.goes_on block group

      back_then : taken_back news turned.since.news ready.present ≡ taken_back news (drop first new.entries) before
      back_then = ap (taken_back news turned.since.news) is ∙ ap (λ turns. taken_back news turns before) (sym since_first)

      pub ends_then : short ≡ false → {ended : View D G R}
          → ((before : Members) (block : ℕ → List ℕ) (group : Name) → AreOnce before.all → before.mail ≡ []
          → new.members ≡ lent (asks_of news) before → (ran : Point D) → IsServedAt d draws new ran
          → (short ≡ false → ran.present ≡ taken_back news (drop first new.entries) before)
          → Ends d g draws (keys_of draws new block group) (drop first new.entries) news before ran ended)
          → (next : Point D) × Finishes d g (keys_of draws old block group) workers asks handed ready next × IsAt d draws ended next
      ends_then had {ended} ends =
          let after = after_turns d g draws own block group some turned worked begun unsent ready served is in
          let ending = ends before block group begun.once unsent members_then after.ran after.served (λ had. after.takes.back had ∙ back_then) in
          finishes d g draws (keys_of draws old block group) workers asks handed turned.since.news news before ready after.ran is short had after.takes {new = ended}
          (subst (λ turns. Ends d g draws (keys_of draws old block group) turns news before after.ran ended) since_first
          (subst (λ keys. Ends d g draws keys (drop first new.entries) news before after.ran ended) keys_then ending))

      pub stops_then : {ended : View D G R}
          → ((before : Members) (block : ℕ → List ℕ) (group : Name) → AreOnce before.all → before.mail ≡ []
          → new.members ≡ lent (asks_of news) before → (ran : Point D) → IsServedAt d draws new ran
          → (short ≡ false → ran.present ≡ taken_back news (drop first new.entries) before)
          → StopsEnding d g draws (keys_of draws new block group) (drop first new.entries) news before short ran ended)
          → (next : Point D) × ((next ≡ ready) ⊎ StopsAfter d g (keys_of draws old block group) workers asks handed ready next) × IsServedAt d draws ended next
      stops_then {ended} stops =
          let after = after_turns d g draws own block group some turned worked begun unsent ready served is in
          let ending = stops before block group begun.once unsent members_then after.ran after.served (λ had. after.takes.back had ∙ back_then) in
          stops_after d g draws (keys_of draws old block group) workers asks handed turned.since.news news before ready after.ran is short after.takes {new = ended}
          (subst (λ turns. StopsEnding d g draws (keys_of draws old block group) turns news before short after.ran ended) since_first
          (subst (λ keys. StopsEnding d g draws keys (drop first new.entries) news before short after.ran ended) keys_then ending))

-- ---- a whole block

module _ {D G R : Type 0} (d : DiskGhosts D) (g : SignerGhosts G) (draws : DrawGhosts R) (block : ℕ → List ℕ) (group : Name) (workers : ℕ)
    (asks : List BlockAsk) {lines : List BlockLine} {old mid : View D G R}
    (begun : HasHanded d g draws (keys_of draws old block group) workers asks lines old mid) (unsent : mid.members.mail ≡ []) where
  none_before : begun.before.mail ≡ []
  none_before = sym (ap (λ (members : Members). members.mail) begun.members) ∙ unsent

  pub can_run_on : CanRunOn lines mid.members
  can_run_on = record { handed = begun.handed; before = begun.before; can = begun.can; now = begun.members; none = none_before }

  module _ (on : GoesOn draws old.server mid.server) {new : View D G R} where
    pub whole : ((block : ℕ → List ℕ) (group : Name) (asks : List BlockAsk)
        → HasEnded d draws (Finishes d g (keys_of draws mid block group) workers asks) lines mid new)
        → Reaches d draws (IsBlock d g (keys_of draws old block group) workers asks) old new
    whole ended point at =
        let start = begun.each point at in
        let end = ended block group asks begun.handed begun.before begun.can begun.members none_before start.0 start.2 start.3 in (
          end.0,
          record {
            handed = begun.handed;
            ready = start.0;
            begun = start.1;
            finishes = subst (λ keys. Finishes d g keys workers asks begun.handed start.0 end.0) (same_keys draws old mid on block group) end.1;
          },
          end.2,
        )

    pub stopped : ((block : ℕ → List ℕ) (group : Name) (asks : List BlockAsk)
        → HasEndedServed d draws
        (λ handed ready next. (next ≡ ready) ⊎ StopsAfter d g (keys_of draws mid block group) workers asks handed ready next) lines mid new)
        → ReachesServed d draws (StopsShort d g (keys_of draws old block group) workers asks) old new
    stopped ended point at =
        let start = begun.each point at in
        let end = ended block group asks begun.handed begun.before begun.can begun.members none_before start.0 start.2 start.3 in (
          end.0,
          inr (⊎_elim (λ (same : end.0 ≡ start.0).
              inl (stops_begun d g (keys_of draws old block group) workers asks begun.handed start.1 same))
              (λ (stops : StopsAfter d g (keys_of draws mid block group) workers asks begun.handed start.0 end.0).
              inr (record {
                handed = begun.handed;
                ready = start.0;
                begun = start.1;
                stops = subst (λ keys. StopsAfter d g keys workers asks begun.handed start.0 end.0) (same_keys draws old mid on block group) stops;
              })) end.1),
          end.2,
        )
