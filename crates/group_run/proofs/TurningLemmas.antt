-- What a block of workers leaves of a server and its history.
use Rattle.std.proofs.Common.{◌≡◌, ◌∙◌, ℕ, ◌+◌, ◌*◌, ◌<◌, ◌≤◌, Bool, false, MatchBool, List, [], ◌++◌, Option, None, Some, Result, Ok, Err, arith, drop, length, refl}
use Rattle.std.proofs.Common.{append-nil, mul-add, sym, ap, subst, take}
use Rattle.std.specs.Prelude.{OnOk, is_err, is_some, replicate}
use Rattle.std.specs.List.{All, count_by, flat_map}
use Rattle.std.proofs.Math.Seq.{drop-append_seam, take-append_seam}
use Rattle.std.proofs.lemmas.List.{get_or-replicate, length-replicate}
use Rattle.std.proofs.lemmas.List.Elements.{All-drop, All-nil, All-replicate}
use Rattle.std.proofs.lemmas.List.Sums.{count_by-le-length}
use Rattle.desk.specs.Calls.{IsRising, StandsIn}
use Rattle.desk.specs.declared.calls.Call.{Call}
use Rattle.gd_disk.specs.declared.disks.Disk.{Ghosts as DiskGhosts}
use Rattle.gd_edges.specs.declared.draws.Draws.{Ghosts as DrawGhosts}
use Rattle.gd_edges.specs.declared.signers.Signer.{Ghosts as SignerGhosts}
use Rattle.group_model.specs.declared.entries.Entry.{Entry}
use Rattle.group_peers.specs.declared.members.Peer.{Peer}
use Rattle.group_run.specs.Private.Ran.{AreUntouched, HaveWorked, IsOfPeer, IsSmall}
use Rattle.group_run.specs.Mails.{mail_in}
use Rattle.group_run.specs.Private.Kept.{GoesToPeer, IsOwn}
use Rattle.group_run.specs.Private.Turned.{IsNoOpening, PushesFit, made_batch}
use Rattle.group_run.proofs.TurnedLemmas.{AreGood, good_turns}
use Rattle.group_steps.specs.Shows.{pairs_shown}
use Rattle.register_workers.specs.Blocks.{LeavesBlock, Worked}
use Rattle.register_workers.specs.FewTurns.{BlocksHaveFewTurns}
use Rattle.register_workers.specs.Own.{AreApart, IsOfLines, LinesHaveOwnTurns}
use Rattle.register_workers.specs.Views.{View as BookView}
use Rattle.register_workers.specs.declared.lines.BlockLine.{BlockLine}
use Rattle.server_steps.specs.Hosts.{Host}
use Rattle.server_steps.specs.Laws.{BeginsNow}
use Rattle.server_steps.specs.Reflects.{IsServerOf}
use Rattle.server_steps.specs.Serves.{IsSince}
use Rattle.server_steps.specs.Views.{View as ServerView}
use Rattle.work_shares.specs.Shares.{rounds}

-- the laws of blocks
pub record Laws {D G R : Type 0} (d : DiskGhosts D) (g : SignerGhosts G) (draws : DrawGhosts R) : Type 0 where
  pub begins : BeginsNow d g draws
  pub own : LinesHaveOwnTurns
  pub few : BlocksHaveFewTurns

module _ {D G R : Type 0} (d : DiskGhosts D) (g : SignerGhosts G) (draws : DrawGhosts R) (laws : Laws d g draws) where
  -- what is left of the server and its history, and of the lines
  pub record IsLeft (workers : ℕ) (ran memory : Bool) (lines news : List BlockLine) (old new : ServerView D G R) (before after : List Entry) : Type 0 where
    pub since : IsSince d g draws (record { server = old; before = before }) new after
    pub worked : MatchBool ran (HaveWorked workers before since.news memory lines news) (AreUntouched since.news memory lines news)
    pub of_lines : AreApart lines → All (IsOfLines lines) since.news
    pub few : length since.news ≤ workers * (rounds workers (length lines) + rounds workers (length lines))

  pub left_by_block : (workers : ℕ) (calls : Option (List (List (Call Entry)))) (memory : Bool) (lines news : List BlockLine) (old new : BookView D G R)
      → 1 ≤ workers → LeavesBlock d g draws calls memory workers lines news old new
      → IsLeft workers (is_some calls) memory lines news old.server new.server old.entries new.entries
  left_by_block workers None memory lines news old new some left =
      let begins = laws.begins old.server old.entries in
      subst (λ (now : BookView D G R). IsLeft workers false memory lines news old.server now.server old.entries now.entries) (sym left.same_book) (record {
        since = record { news = []; history = sym (append-nil old.entries); goes_on = begins.goes_on; each = λ host is. (host, refl, is) };
        worked = record { out = left.short; none = refl; same = left.same_lines };
        of_lines = λ apart. All-nil (IsOfLines lines);
        few = omega arith;
      })
  left_by_block workers (Some calls) memory lines news old new some left =
      let since = left.since in
      let worked : (w : ℕ) → w < workers → Worked memory old.entries (old.entries ++ since.news) workers w lines news calls =
      λ w less. subst (λ after. Worked memory old.entries after workers w lines news calls) since.history (left.worked w less) in
      record {
        since = since;
        worked = record {
          calls = calls;
          a_list_each = left.a_list_each;
          are_calls = left.whole;
          as_many = left.as_many;
          worked = worked;
        };
        of_lines = λ apart. (laws.own memory workers old.entries since.news lines news calls some apart left.as_many left.a_list_each left.whole worked).of_lines;
        few = laws.few memory workers old.entries since.news lines news calls some left.a_list_each left.whole worked;
      }

  -- by a server and a history that are the same
  pub left_as : {workers : ℕ} {ran memory : Bool} {lines news : List BlockLine} {old new server now : ServerView D G R} {before after entries more : List Entry}
      → old ≡ server → new ≡ now → before ≡ entries → after ≡ more → IsLeft workers ran memory lines news old new before after
      → IsLeft workers ran memory lines news server now entries more
  left_as {workers} {ran} {memory} {lines} {news} {old} {new} {server} {now} {before} {after} {entries} {more} servers nows befores afters left =
      subst (λ more. IsLeft workers ran memory lines news server now entries more) afters
      (subst (λ entries. IsLeft workers ran memory lines news server now entries after) befores
      (subst (λ now. IsLeft workers ran memory lines news server now before after) nows
      (subst (λ server. IsLeft workers ran memory lines news server new before after) servers left)))

  -- the turns of such a block, where its lines are of peers
  pub good_block : {workers : ℕ} {ran memory : Bool} {lines news : List BlockLine} {old new : ServerView D G R} {before after : List Entry} (peers : List Peer)
      (of_peers : All (λ (line : BlockLine). IsOfPeer peers line.asked) lines) → AreApart lines → All IsSmall after
      → (left : IsLeft workers ran memory lines news old new before after) → (host : Host D) → (is_on : IsServerOf d draws old host)
      → All (IsOwn peers) host.sessions.sas
      → AreGood d g old.core.signer (draws.block_at old.core.draws) peers lines of_peers host (left.since.each host is_on).0 left.since.news
  good_block {lines = lines} {old = old} {before = before} {after = after} peers of_peers apart small left host is_on own =
      let turns = left.since.news in
      let later : All IsSmall turns = subst (All IsSmall) (drop-append_seam before turns)
      (All-drop IsSmall (length before) (before ++ turns) (subst (All IsSmall) left.since.history small)) in
      good_turns d g old.core.signer (draws.block_at old.core.draws) peers lines of_peers turns host (left.since.each host is_on).0 (left.of_lines apart) later
      (left.since.each host is_on).1 own

  -- both, of a server and a history that were handed to a block of workers, and that came back
  pub record HaveEnded (workers : ℕ) (ran memory : Bool) (lines news : List BlockLine) (old new : ServerView D G R) (before after : List Entry) (peers : List Peer)
      (host : Host D) : Type 0 where
    pub left : IsLeft workers ran memory lines news old new before after
    pub next : Host D
    pub is_on : IsServerOf d draws new next
    pub own : All (IsOwn peers) next.sessions.sas
    pub to_peers : All (GoesToPeer peers) (flat_map mail_in left.since.news)
    pub rules : new.rules ≡ old.rules
    pub no_opening : All IsNoOpening left.since.news
    pub fits : All PushesFit left.since.news

  pub have_ended : {workers : ℕ} {memory : Bool} {lines news : List BlockLine} {old new : ServerView D G R} {before after : List Entry} {peers : List Peer}
      (calls : Option (List (List (Call Entry)))) (made came : BookView D G R) → 1 ≤ workers → LeavesBlock d g draws calls memory workers lines news made came
      → made.server ≡ old → made.entries ≡ before → new ≡ came.server → after ≡ came.entries
      → All (λ (line : BlockLine). IsOfPeer peers line.asked) lines → AreApart lines → All IsSmall after
      → (host : Host D) → IsServerOf d draws old host → All (IsOwn peers) host.sessions.sas
      → HaveEnded workers (is_some calls) memory lines news old new before after peers host
  have_ended {workers} {memory} {lines} {news} {old} {new} {before} {after} {peers} calls made came some block servers entries now more of_peers apart small host is_on own =
      let left = left_as servers (sym now) entries (sym more) (left_by_block workers calls memory lines news made came some block) in
      let good = good_block peers of_peers apart small left host is_on own in
      let next = left.since.each host is_on in
      record {
        left = left;
        next = next.0;
        is_on = next.2;
        own = good.own;
        to_peers = good.to_peers;
        rules = sym next.2.rules ∙ good.rules ∙ is_on.rules;
        no_opening = good.no_opening;
        fits = good.fits;
      }

-- ---- what was added to a history

pub added_turns : (before turns after : List Entry) → after ≡ before ++ turns → drop (length before) after ≡ turns
added_turns before turns after is = ap (drop (length before)) is ∙ drop-append_seam before turns

pub had_before : (before turns after : List Entry) → after ≡ before ++ turns → take (length before) after ≡ before
had_before before turns after is = ap (take (length before)) is ∙ take-append_seam before turns

-- there is room for the pushes of so few turns
pub few_pushes : (turns : List Entry) (workers each most spare : ℕ) → length turns ≤ workers * (each + each) → most ≡ 4 * (workers * each) → most ≤ spare
    → 2 * count_by made_batch turns ≤ spare
few_pushes turns workers each most spare few is room =
    let counted = count_by-le-length made_batch turns in
    let doubled = mul-add workers each each in
    omega (arith, counted, few, is, room, doubled)

-- ---- a block without lines

-- so many workers that do nothing
abbrev no_calls : ℕ → List (List (Call Entry))
no_calls workers = replicate workers []

pub nobody_worked : (workers : ℕ) (before : List Entry) → HaveWorked workers before [] false [] []
nobody_worked workers before = record {
  calls = no_calls workers;
  a_list_each = length-replicate workers [];
  are_calls = record {
    stand = All-replicate (λ mine. All (StandsIn []) mine) workers [] (All-nil (StandsIn []));
    once = λ place less. absurd (omega (arith, less));
    rising = All-replicate IsRising workers [] (λ i j d less within. absurd (omega (arith, within)));
  };
  as_many = refl;
  worked = λ w less. record {
    known = pairs_shown before;
    ran = (get_or-replicate workers w [] [] less, refl, refl);
  };
}

-- there was memory
pub was_ok : {X E : Type 0} (result : Result X E) (P : Type 0) → false ≡ is_err result → OnOk result P → P
was_ok (Ok x) P ok holds = holds
was_ok (Err e) P ok holds = absurd (cc ok)
