-- The end of a block: what members take back, its mark, what they read then, and the looks.
use Rattle.std.proofs.Common.{◌≡◌, ◌∙◌, inl, inr, ℕ, zero, suc, ◌&&◌, Bool, true, false, cond, List, [], ◌∷◌, ◌++◌, drop, map, reverse, Option, Some, refl, sym, ap, subst, append_assoc}
use Rattle.std.specs.List.{All, cons_option, filter_map, flat_map, list_any}
use Rattle.std.proofs.lemmas.List.{append-nil}
use Rattle.std.proofs.lemmas.List.Elements.{All-append, All-map, All-nil, All-weaker}
use Rattle.epoch_board.specs.declared.pairs.Seen.{Seen}
use Rattle.gd_disk.specs.Moments.{Keeps}
use Rattle.gd_disk.specs.declared.disks.Disk.{Ghosts as DiskGhosts}
use Rattle.gd_edges.specs.declared.draws.Draws.{Ghosts as DrawGhosts}
use Rattle.gd_edges.specs.declared.signers.Signer.{Ghosts as SignerGhosts}
use Rattle.group_terms.specs.Names.{Name}
use Rattle.group_model.specs.declared.entries.Answer.{Answer}
use Rattle.group_model.specs.declared.entries.Asked.{Asked}
use Rattle.group_model.specs.declared.entries.Asked.TheVariants.{Batch, Serve, Together2}
use Rattle.group_model.specs.declared.entries.Entry.{Entry}
use Rattle.group_peers.specs.Peers.{AreOnce, is_peer}
use Rattle.group_peers.specs.declared.members.Peer.{Peer}
use Rattle.group_steps.specs.Devices.{Keying}
use Rattle.group_steps.specs.Gets.{mail_by, mail_to}
use Rattle.group_steps.specs.Runs.{Run, run_of, with_members}
use Rattle.member_steps.specs.Members.{Mail, Members, with_mail_left}
use Rattle.member_steps.specs.Views.{View as MemberView}
use Rattle.register_workers.specs.Own.{serves}
use Rattle.register_workers.specs.declared.lines.BlockLine.{BlockLine}
use Rattle.server_steps.specs.Disks.{Counts}
use Rattle.server_steps.specs.Hosts.{Host}
use Rattle.server_steps.specs.Reflects.{IsServerOf}
use Rattle.server_steps.specs.Serves.{GoesOn}
use Rattle.server_steps.specs.Views.{View as ServerView}
use Rattle.group_run.specs.Blocks.{Left, LooksAll, Marks, Point, Reads, ReadsOne, at_present, left_by, left_of, marked, marks_of, seen_in, taken_back, took}
use Rattle.group_run.specs.Mails.{mail_in, mail_of_answer}
use Rattle.group_run.specs.Places.{IsAt, IsServedAt, Reaches, ReachesServed, keys_of}
use Rattle.group_run.specs.Private.Afters.{AreLeftAt, HaveReadLefts, HaveStoppedLefts, IsToPeer, ReadsAll, StopsInLooks, StopsInReads, mails_of, owns_of}
use Rattle.register_workers.specs.LooksShown.{WasShown}
use Rattle.group_run.specs.Private.Begun.{Ends, StopsEnding, lent}
use Rattle.group_run.specs.Private.Kept.{GoesToPeer, members_at}
use Rattle.group_run.specs.Private.Lefts.{AreLefts, lefts_at, marked_left, marked_lefts}
use Rattle.group_run.specs.Private.Lendings.{all_lending, asks_of}
use Rattle.group_run.specs.Private.Places.{IsAtBefore, ReachesPast, ReachesServedFrom}
use Rattle.group_run.specs.Views.{View}
use Rattle.group_run.specs.declared.lefts.LeftAt.{LeftAt}
use Rattle.group_run.specs.declared.unread.Unread.{Unread}
use Rattle.group_run.proofs.LendLemmas.{lent_loses}
use Rattle.group_run.proofs.LookLemmas.{all_behind, all_front, shown_in}
use Rattle.group_run.proofs.MoveLemmas.{held_as}
use Rattle.group_run.proofs.PopLemmas.{lefts_more}
use Rattle.group_run.proofs.ReachLemmas.{same_keys}
use Rattle.group_run.proofs.RestLemmas.{ReadsWhole, reads_whole, same_goes, stops_whole}
use Rattle.group_run.proofs.WayLemmas.{mails_are, marks_are}

-- ---- what lines showed

from_seen : (lines : List BlockLine) → seen_in lines ≡ filter_map (λ (seen : Option Seen). seen) (map (λ (line : BlockLine). line.seen) lines)
from_seen [] = refl
from_seen (line ∷ lines) = ap (cons_option line.seen) (from_seen lines)

pub same_seen : (news lines : List BlockLine) → map (λ (line : BlockLine). line.seen) news ≡ map (λ (line : BlockLine). line.seen) lines
    → seen_in news ≡ seen_in lines
same_seen news lines same = from_seen news ∙ ap (filter_map (λ (seen : Option Seen). seen)) same ∙ sym (from_seen lines)

-- ---- what turns left is of what they sent

module _ (P : Mail → Type 0) where
  left_one : (asked : Asked) (answer : Answer) (later : List Entry) → All P (mail_of_answer asked answer)
      → All (λ (left : Left). P left.mail) (left_by asked answer later)
  left_one (Serve m datagram) answer later all = by_later (list_any (serves m) later)
    where
      by_later : (b : Bool)
          → All (λ (left : Left). P left.mail) (cond b [] (map (λ (mail : Mail). record { mail = mail; own = true }) (mail_to m answer)))
      by_later true = All-nil (λ (left : Left). P left.mail)
      by_later false = All-map (λ (left : Left). P left.mail) (λ (mail : Mail). record { mail = mail; own = true }) (mail_to m answer) all
  left_one Batch answer later all = All-map (λ (left : Left). P left.mail) (λ (mail : Mail). record { mail = mail; own = false }) (mail_by answer) all
  left_one asked answer later all = All-nil (λ (left : Left). P left.mail)

  left_all : (turns : List Entry) → All P (flat_map mail_in turns) → All (λ (left : Left). P left.mail) (left_of turns)
  left_all [] all = All-nil (λ (left : Left). P left.mail)
  left_all (turn ∷ later) all =
      All-append (λ (left : Left). P left.mail) (left_by turn.asked turn.answer later) (left_of later)
      (left_one turn.asked turn.answer later (all_front P (mail_in turn) (flat_map mail_in later) all))
      (left_all later (all_behind P (mail_in turn) (flat_map mail_in later) all))

-- it goes to peers, whichever of it is marked
pub left_to_peers : (peers now : List Peer) (turns : List Entry) → ((name : Name) → is_peer now name ≡ is_peer peers name)
    → All (GoesToPeer peers) (flat_map mail_in turns) → All (IsToPeer now) (marked_lefts peers turns)
left_to_peers peers now turns names goes =
    All-map (IsToPeer now) (marked_left peers) (left_of turns)
    (All-weaker (λ (left : Left). GoesToPeer peers left.mail) (λ (left : Left). GoesToPeer now left.mail) (λ left is. names left.mail.0 ∙ is) (left_of turns)
    (left_all (GoesToPeer peers) turns goes))

-- which of it is marked is as before members lent
marks_before : (lines : List BlockLine) (old before : Members) (turns : List Entry) → old ≡ lent (asks_of lines) before → marks_of old turns ≡ marks_of before turns
marks_before lines old before turns is =
    ap (λ members. marks_of members turns) is
    ∙ (λ i. map (λ (left : Left). left.own && lent_loses (asks_of lines) left.mail.0 before.all i) (left_of turns))

-- ---- members took back

module _ {D G R : Type 0} where
  -- what these lines left, and nothing is on its way
  pub record HasTakenBack (lines : List BlockLine) (old held : View D G R) : Type 0 where
    pub server : held.server ≡ old.server
    pub entries : held.entries ≡ old.entries
    pub none : held.members.mail ≡ []
    pub place : held.members.place ≡ old.members.place
    pub names : (name : Name) → is_peer held.members.all name ≡ is_peer old.members.all name
    pub all : (all : List Peer) → AreOnce all → old.members.all ≡ all_lending (asks_of lines) all → held.members.all ≡ map (took lines) all

  pub has_taken : (lines : List BlockLine) (server : ServerView D G R) (members now : MemberView) (entries : List Entry) (unread : Unread) (old : View D G R)
      → held_as server (members_at members entries unread) entries ≡ old → old.members.mail ≡ [] → now.place ≡ members.place
      → ((name : Name) → is_peer now.all name ≡ is_peer members.all name)
      → ((all : List Peer) → AreOnce all → members.all ≡ all_lending (asks_of lines) all → now.all ≡ map (took lines) all)
      → HasTakenBack lines old (held_as server (members_at now entries unread) entries)
  has_taken lines server members now entries unread old view none place names all = record {
    server = ap (λ (held : View D G R). held.server) view;
    entries = ap (λ (held : View D G R). held.entries) view;
    none = ap (λ (held : View D G R). held.members.mail) view ∙ none;
    place = place ∙ ap (λ (held : View D G R). held.members.place) view;
    names = λ name. names name ∙ ap (λ (held : View D G R). is_peer held.members.all name) view;
    all = λ peers once is. all peers once (ap (λ (held : View D G R). held.members.all) view ∙ is);
  }

-- ---- the history grows while members read

module _ {D G : Type 0} (d : DiskGhosts D) (g : SignerGhosts G) (by : Keying G) where
  abbrev Grows : Point D → Point D → Type 0
  Grows old new = (more : List Entry) × (new.entries ≡ old.entries ++ more)

  one_grows : (out : Bool) (members : Members) (old new : Point D) → ReadsOne d g by out members old new → Grows old new
  one_grows out members old new (inl ignored) = ([], ap (λ (point : Point D). point.entries) ignored.2 ∙ sym (append-nil old.entries))
  one_grows out members old new (inr (inl served)) = (served.4.entry ∷ [], served.4.added)
  one_grows out members old new (inr (inr kept)) = (kept.1.entry ∷ [], kept.1.added)

  reads_grow : (n : ℕ) (marks : List Bool) (old new : Point D) → Reads d g by n marks old new → Grows old new
  reads_grow zero marks old new same = ([], ap (λ (point : Point D). point.entries) same ∙ sym (append-nil old.entries))
  reads_grow (suc n) marks old new reads =
      let one = one_grows false (marked marks old.present) old reads.0 reads.1 in
      let others = reads_grow n (drop 1 marks) reads.0 new reads.2 in
      (one.0 ++ others.0, others.1 ∙ ap (λ entries. entries ++ others.0) one.1 ∙ append_assoc old.entries one.0 others.0)

module _ {D G R : Type 0} (d : DiskGhosts D) (draws : DrawGhosts R) where
  -- ---- the mark

  -- its end is marked at a place whose members may be others
  pub record HasMarkedFrom (new : View D G R) (ran : Point D) : Type 0 where
    pub ended : Point D
    pub ends : Marks d Together2 ran ended
    pub served : IsServedAt d draws new ended
    pub present : ended.present ≡ ran.present

  pub record HasMarked (held new : View D G R) : Type 0 where
    pub entry : Entry
    pub grown : new.entries ≡ held.entries ++ entry ∷ []
    pub members : new.members ≡ held.members
    pub from : (ran : Point D) → IsServedAt d draws held ran → HasMarkedFrom new ran

  pub has_marked : (held new : View D G R) (host : Host D) → IsServerOf d draws held.server host → Reaches d draws (Marks d Together2) held new
      → HasMarked held new
  has_marked held new host is reaches =
      let made = reaches (record { entries = held.entries; run = run_of host held.members; present = held.members })
      (record { served = record { entries = refl; server = is }; present = refl }) in
      record {
        entry = made.1.entry;
        grown = made.2.served.entries ∙ made.1.added;
        members = sym made.2.present ∙ made.1.present ∙ ap (λ (run : Run D). run.members) made.1.stepped.answered.stays;
        from = marked_from;
      }
    where
      marked_from : (ran : Point D) → IsServedAt d draws held ran → HasMarkedFrom new ran
      marked_from ran served =
          let made = reaches (at_present ran held.members) (record { served = record { entries = served.entries; server = served.server }; present = refl }) in
          let step = made.1.stepped in
          let run = with_members ran.run ran.present in
          record {
            ended = record { entries = made.0.entries; run = run; present = ran.present };
            ends = record {
              entry = made.1.entry;
              added = made.1.added;
              asked = made.1.asked;
              stepped = record {
                answered = record { answers = step.answered.answers; beside = step.answered.beside; stays = refl };
                keeps = subst (λ (next : Run D). Keeps d ran.run.host.disk next.host.disk) step.answered.stays step.keeps;
                counts = subst (λ (next : Run D). Counts d made.1.entry.outside.disk_failed ran.run.host.disk next.host.disk) step.answered.stays step.counts;
              };
              present = refl;
              memory = made.1.memory;
            };
            served = record {
              entries = made.2.served.entries;
              server = subst (λ (next : Run D). IsServerOf d draws new.server next.host) step.answered.stays made.2.served.server;
            };
            present = refl;
          }

  -- ---- what is there after the mark

  -- These were left there by the turns, and members took back what the lines left.
  pub record IsMarkedSo (lines : List BlockLine) (turns : List Entry) (places : List LeftAt) (old marked : View D G R) : Type 0 where
    pub held : View D G R
    pub taken : HasTakenBack lines old held
    pub has : HasMarked held marked
    pub same : marked.server ≡ held.server
    pub host : Host D
    pub is_on : IsServerOf d draws marked.server host
    pub are : AreLefts old.members.all old.entries places turns

  pub marked_so : (lines : List BlockLine) (first : ℕ) (places : List LeftAt) (server : ServerView D G R) (members now : MemberView) (entries : List Entry)
      (unread : Unread) (old marked : View D G R) → held_as server (members_at members entries unread) entries ≡ old → old.members.mail ≡ []
      → now.place ≡ members.place → ((name : Name) → is_peer now.all name ≡ is_peer members.all name)
      → ((all : List Peer) → AreOnce all → members.all ≡ all_lending (asks_of lines) all → now.all ≡ map (took lines) all)
      → (host : Host D) → IsServerOf d draws server host
      → Reaches d draws (Marks d Together2) (held_as server (members_at now entries unread) entries) marked → marked.server ≡ server
      → (looked : List Entry) → looked ≡ entries → AreLefts members.all looked places (drop first looked)
      → IsMarkedSo lines (drop first old.entries) places old marked
  marked_so lines first places server members now entries unread old marked view none place names all host is reaches same looked whole are =
      let held = held_as server (members_at now entries unread) entries in
      record {
        held = held;
        taken = has_taken lines server members now entries unread old view none place names all;
        has = has_marked held marked host is reaches;
        same = same;
        host = host;
        is_on = subst (λ (server : ServerView D G R). IsServerOf d draws server host) (sym same) is;
        are = subst (λ (old : View D G R). AreLefts old.members.all old.entries places (drop first old.entries)) view
            (subst (λ entries. AreLefts members.all entries places (drop first entries)) whole are);
      }

module _ {D G R : Type 0} (d : DiskGhosts D) (g : SignerGhosts G) (draws : DrawGhosts R) (turns : List Entry) (lines : List BlockLine) where
  -- from wherever the turns were run
  abbrev pub FromRan : View D G R → Bool → (Keying G → Members → Point D → Type 0) → Type 0
  FromRan old short leads =
      (before : Members) (block : ℕ → List ℕ) (group : Name) → AreOnce before.all → before.mail ≡ [] → old.members ≡ lent (asks_of lines) before
      → (ran : Point D) → IsServedAt d draws old ran → (short ≡ false → ran.present ≡ taken_back lines turns before)
      → leads (keys_of draws old block group) before ran

  abbrev pub StopsSo : View D G R → Bool → View D G R → Type 0
  StopsSo old short new = FromRan old short (λ keys before ran. StopsEnding d g draws keys turns lines before short ran new)

  abbrev pub EndsSo : View D G R → Bool → View D G R → Type 0
  EndsSo old short new = FromRan old short (λ keys before ran. Ends d g draws keys turns lines before ran new)

  -- ---- before the mark

  pub stops_still : (old new : View D G R) (short : Bool) → new.server ≡ old.server → new.entries ≡ old.entries → StopsSo old short new
  stops_still old new short server entries before block group once none lent_so ran served back = record {
    next = ran;
    stops = inl refl;
    is_at = record {
      entries = entries ∙ served.entries;
      server = subst (λ (server : ServerView D G R). IsServerOf d draws server ran.run.host) (sym server) served.server;
    };
  }

  module _ (places : List LeftAt) (old marked : View D G R) (so : IsMarkedSo d draws lines turns places old marked) where
    at_held : (ran : Point D) → IsServedAt d draws old ran → IsServedAt d draws so.held ran
    at_held ran served = record {
      entries = so.taken.entries ∙ served.entries;
      server = subst (λ (server : ServerView D G R). IsServerOf d draws server ran.run.host) (sym so.taken.server) served.server;
    }

    -- right after it
    pub stops_marked : (short : Bool) → StopsSo old short marked
    stops_marked short before block group once none lent_so ran served back =
        let from = so.has.from ran (at_held ran served) in
        record { next = from.ended; stops = inr (inl from.ends); is_at = from.served }

    -- ---- what turns left

    grown : marked.entries ≡ old.entries ++ so.has.entry ∷ []
    grown = so.has.grown ∙ ap (λ entries. entries ++ so.has.entry ∷ []) so.taken.entries

    abbrev lefts : List Left
    lefts = marked_lefts old.members.all turns

    left_there : lefts_at marked.entries places ≡ map Some lefts
    left_there = ap (λ entries. lefts_at entries places) grown ∙ lefts_more old.entries (so.has.entry ∷ []) (reverse places) lefts so.are

    pub are_left : All (GoesToPeer old.members.all) (flat_map mail_in turns) → (are : List Left) × AreLeftAt marked.members.all marked.entries places are
    are_left goes = (
      lefts,
      record {
        there = left_there;
        to_peers = left_to_peers old.members.all marked.members.all turns
            (λ name. ap (λ (members : Members). is_peer members.all name) so.has.members ∙ so.taken.names name) goes;
      },
    )

    module _ (before : Members) (block : ℕ → List ℕ) (group : Name) (once : AreOnce before.all) (lent_so : old.members ≡ lent (asks_of lines) before)
        (ran : Point D) (served : IsServedAt d draws old ran) (back : ran.present ≡ taken_back lines turns before) where
      abbrev keys : Keying G
      keys = keys_of draws old block group

      keys_same : keys_of draws marked block group ≡ keys
      keys_same = same_keys draws old marked (same_goes draws (so.same ∙ so.taken.server)) block group

      from : HasMarkedFrom d draws marked ran
      from = so.has.from ran (at_held ran served)

      marks_same : owns_of lefts ≡ marks_of before turns
      marks_same = marks_are old.members turns ∙ marks_before lines old.members before turns lent_so

      mail_same : mails_of lefts ++ marked.members.mail ≡ map (λ (left : Left). left.mail) (left_of turns)
      mail_same =
          ap (λ mail. mails_of lefts ++ mail) (ap (λ (members : Members). members.mail) so.has.members ∙ so.taken.none)
          ∙ append-nil (mails_of lefts) ∙ mails_are old.members.all turns

      all_same : marked.members.all ≡ map (took lines) before.all
      all_same =
          ap (λ (members : Members). members.all) so.has.members ∙ so.taken.all before.all once (ap (λ (members : Members). members.all) lent_so)

      place_same : marked.members.place ≡ before.place
      place_same =
          ap (λ (members : Members). members.place) so.has.members ∙ so.taken.place ∙ ap (λ (members : Members). members.place) lent_so

      at_before : IsAtBefore d draws (mails_of lefts) marked from.ended
      at_before = record {
        served = from.served;
        present = from.present ∙ back ∙ (λ i. record { all = sym all_same i; mail = sym mail_same i; place = sym place_same i });
      }

      -- while members read
      stopped_reading : (short : Bool) → short ≡ false → (new : View D G R)
          → ReachesServedFrom d draws (mails_of lefts) (StopsInReads d g (keys_of draws marked block group) (owns_of lefts)) marked new
          → StopsEnding d g draws keys turns lines before short ran new
      stopped_reading short not_short new stops =
          let made = stops from.ended at_before in
          let is : StopsInReads d g keys (marks_of before turns) from.ended made.0 =
          subst (λ marks. StopsInReads d g keys marks from.ended made.0) marks_same
          (subst (λ (by : Keying G). StopsInReads d g by (owns_of lefts) from.ended made.0) keys_same made.1) in
          record {
            next = made.0;
            stops = inr (inr (
              not_short,
              record {
                ended = from.ended;
                ends = from.ends;
                stops = inl (record { count = is.count; mid = is.mid; reads = is.reads; last = is.last });
              },
            ));
            is_at = made.2;
          }

      module _ (rest : View D G R)
          (reads : ReachesPast d draws (mails_of lefts) (ReadsWhole d g draws (keys_of draws marked block group) (owns_of lefts)) marked rest) where
        record HasRead : Type 0 where
          next : Point D
          whole : ReadsWhole d g draws keys (marks_of before turns) from.ended next
          is_at : IsAt d draws rest next

        has_read : HasRead
        has_read =
            let made = reads from.ended at_before in
            record {
              next = made.0;
              whole = subst (λ marks. ReadsWhole d g draws keys marks from.ended made.0) marks_same
                  (subst (λ (by : Keying G). ReadsWhole d g draws by (owns_of lefts) from.ended made.0) keys_same made.1);
              is_at = made.2;
            }

        -- after some of the looks
        stopped_looking : (short : Bool) → short ≡ false → (new : View D G R) (pairs : List Seen) → pairs ≡ seen_in lines
            → ReachesServed d draws (StopsInLooks d pairs) rest new → StopsEnding d g draws keys turns lines before short ran new
        stopped_looking short not_short new pairs are_pairs stops =
            let made = stops has_read.next has_read.is_at in
            record {
              next = made.0;
              stops = inr (inr (
                not_short,
                record {
                  ended = from.ended;
                  ends = from.ends;
                  stops = inr (record {
                    count = has_read.whole.count;
                    rest = has_read.next;
                    reads = has_read.whole.reads;
                    all_read = has_read.whole.all_read;
                    front = made.1.front;
                    later = made.1.later;
                    are = sym are_pairs ∙ made.1.are;
                    looks = made.1.looks;
                  });
                },
              ));
              is_at = made.2;
            }

        -- all of it
        ended_so : (new : View D G R) (pairs : List Seen) → pairs ≡ seen_in lines → Reaches d draws (LooksAll d pairs) rest new
            → Ends d g draws keys turns lines before ran new
        ended_so new pairs are_pairs looks =
            let made = looks has_read.next has_read.is_at in
            record {
              ended = from.ended;
              ends = from.ends;
              count = has_read.whole.count;
              rest = has_read.next;
              reads = has_read.whole.reads;
              all_read = has_read.whole.all_read;
              next = made.0;
              looks = subst (λ pairs. LooksAll d pairs has_read.next made.0) are_pairs made.1;
              is_at = made.2;
            }

    -- ---- what is read then

    pub stops_left : (new : View D G R) (short : Bool) → short ≡ false → HaveStoppedLefts d g draws places marked new → StopsSo old short new
    stops_left new short not_short stopped before block group once none lent_so ran served back =
        stopped_reading before block group once lent_so ran served (back not_short) short not_short new (stopped.reads lefts block group left_there)

    module _ (left : View D G R) (read : HaveReadLefts d g draws places marked left) (goes : GoesOn draws marked.server left.server) (short : Bool)
        (not_short : short ≡ false) where
      pub stops_rest : (new : View D G R)
          → ((block : ℕ → List ℕ) (group : Name) → ReachesServed d draws (StopsInReads d g (keys_of draws left block group) []) left new) → StopsSo old short new
      stops_rest new stops before block group once none lent_so ran served back =
          stopped_reading before block group once lent_so ran served (back not_short) short not_short new
          (stops_whole d g draws places marked left new read goes lefts block group left_there (stops block group))

      module _ (rest : View D G R) (reads : (block : ℕ → List ℕ) (group : Name) → Reaches d draws (ReadsAll d g (keys_of draws left block group)) left rest)
          (news : List BlockLine) (seen : map (λ (line : BlockLine). line.seen) news ≡ map (λ (line : BlockLine). line.seen) lines) where
        -- what was shown by the turns was shown
        pub shown_then : All (WasShown old.entries) (seen_in lines) → All (WasShown rest.entries) (seen_in news)
        shown_then shown =
            let first : Point D = record {
              entries = marked.entries;
              run = run_of so.host marked.members;
              present = with_mail_left marked.members (mails_of lefts ++ marked.members.mail);
            } in
            let block : ℕ → List ℕ = λ k. [] in
            let made = reads_whole d g draws places marked left rest read goes lefts block [] left_there (reads block []) first
            (record { served = record { entries = refl; server = so.is_on }; present = refl }) in
            let grows = reads_grow d g (keys_of draws marked block []) made.1.count (owns_of lefts) first made.0 made.1.reads in
            subst (All (WasShown rest.entries)) (sym (same_seen news lines seen))
            (shown_in grows.0 (seen_in lines) (made.2.served.entries ∙ grows.1) (shown_in (so.has.entry ∷ []) (seen_in lines) grown shown))

        pub stops_looking : (new : View D G R) → ReachesServed d draws (StopsInLooks d (seen_in news)) rest new → StopsSo old short new
        stops_looking new stops before block group once none lent_so ran served back =
            stopped_looking before block group once lent_so ran served (back not_short) rest
            (reads_whole d g draws places marked left rest read goes lefts block group left_there (reads block group)) short not_short new (seen_in news)
            (same_seen news lines seen) stops

        pub ends_so : (new : View D G R) → Reaches d draws (LooksAll d (seen_in news)) rest new → EndsSo old short new
        ends_so new looks before block group once none lent_so ran served back =
            ended_so before block group once lent_so ran served (back not_short) rest
            (reads_whole d g draws places marked left rest read goes lefts block group left_there (reads block group)) new (seen_in news)
            (same_seen news lines seen) looks
