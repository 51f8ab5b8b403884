-- Lines that send something, and then members read what is on its way: a pull, a datagram that is sent again, a batch.
use Rattle.std.proofs.Common.{◌≡◌, ℕ, Bool, true, false, cond, List, [], ◌∷◌, ◌++◌, Option, None, Some, Result, Err, sym, refl, ap, ◌∙◌, subst, inl, inr}
use Rattle.std.specs.Prelude.{MatchBool, MatchResult, option_map, unwrap_or}
use Rattle.std.proofs.lemmas.Bool.{cases_Bool, cond-false, cond-true, false≢true}
use Rattle.std.proofs.lemmas.Option.{none-some}
use Rattle.gd_edges.specs.Shown.{Shown}
use Rattle.gd_edges.specs.declared.draws.Draws.{Ghosts as DrawGhosts}
use Rattle.group_terms.specs.Names.{Name}
use Rattle.group_terms.specs.declared.phases.Phase1.{Phase1}
use Rattle.group_model.specs.declared.entries.Answer.{Answer}
use Rattle.group_model.specs.declared.entries.Answer.TheVariants.{Done}
use Rattle.group_model.specs.declared.entries.Asked.{Asked}
use Rattle.group_model.specs.declared.entries.Asked.TheVariants as requests
use Rattle.group_model.specs.declared.entries.Entry.{Entry}
use Rattle.group_peers.specs.Peers.{introduced, is_named, is_peer, new_peer, peer_of, sent_by, was_introduced, with_peer}
use Rattle.group_peers.specs.declared.members.Peer.{Peer}
use Rattle.group_run.specs.Pulls.{Introduces, Pulls, SendsAgain}
use Rattle.group_run.specs.Reads.{Ask}
use Rattle.group_run.specs.Reflects.{Reflects}
use Rattle.group_run.specs.Views.{View}
use Rattle.group_steps.specs.Devices.{Devices}
use Rattle.group_steps.specs.Gets.{introduced_by}
use Rattle.group_steps.specs.Runs.{Run, with_members}
use Rattle.member_steps.specs.Acts.{BeginsPull, IsFirstUse}
use Rattle.member_steps.specs.Members.{Members}
use Rattle.script_text.specs.declared.lines.Line.{Line as ScriptLine}
use Rattle.script_text.specs.declared.lines.Line.TheVariants as lines
use Rattle.run_report.specs.declared.stops.Stop.{Stop}
use Rattle.run_report.specs.declared.stops.Stop.TheVariants.{Line, Memory}
use Rattle.console_run.specs.Names.{console_name}
use Rattle.console_run.specs.Lines.{IsAnsweredHere, AsksNext, AsksToIntroduce, AsksToPull, JoinsAfter, asked_again}
use Rattle.console_run.specs.Private.Asks.{Answers, StopsIn}
use Rattle.console_run.specs.Private.Mail.{begun_by_mail, by_mail}
use Rattle.console_run.specs.Private.Runs.{Drawing, Runs, Stops, by_line}
use Rattle.console_run.proofs.ActLemmas.{ignores_all, ignores_none, phase_found, phase_named}
use Rattle.console_run.proofs.AskLemmas.{Answers-by, Going, Going-more, Going-none, IsReported, IsStopped, MovesBy, Runs-all, Stops-more, Stops-unasked}
use Rattle.console_run.proofs.AskLemmas.{any_run, asks_later}
use Rattle.console_run.proofs.MailLemmas.{Ends-read, IsOfMail, ReadsAfter, ReadsOn}

-- ---- which lines read on

pub reads_again : (D : Type 0) (m : Name) → ReadsOn D (lines.Again m)
reads_again D m entry of_mail block group run before so_far next h = h

pub reads_batch : (D : Type 0) → ReadsOn D lines.Batch
reads_batch D entry of_mail block group run before so_far next h = h

reads_batch_after : {D : Type 0} (entry : Entry) → ReadsAfter D lines.Batch entry
reads_batch_after entry block group run before so_far next h = h

reads_again_after : {D : Type 0} (m : Name) (entry : Entry) → ReadsAfter D (lines.Again m) entry
reads_again_after m entry block group run before so_far next h = h

pub reads_join : (D : Type 0) (m : Name) → ReadsOn D (lines.Join m)
reads_join D m entry of_mail block group run before so_far next h = by_asked entry.asked of_mail
  where
    by_asked : (asked : Asked) → IsOfMail asked → JoinsAfter block group run before so_far m asked entry.answer next
    by_asked (requests.Serve name datagram) is = h
    by_asked (requests.Keep name) is = h
    by_asked asked is = absurd is

-- ---- a first request, and then mail

module _ {D G V R : Type 0} (on : Devices D G V) (draws : DrawGhosts R) (peers : Drawing) (line : ScriptLine) (keeps : List Entry → Run D → Type 0)
    (more : List Entry) (old middle next : View D G R) (was seen told : Shown) (going : Going on draws peers line keeps more old middle was seen)
    (acted : Members) (request : Asked) (answers : Answers on draws peers acted request middle next)
    (asks : (run : Run D) → Reflects on.disks draws middle run → keeps more run
    → AsksNext peers.block console_name run old.entries more line (Some (request, acted))) where
  -- a request was answered, and there the run stopped
  pub stopped_there : (stop : Stop) → IsStopped on draws peers middle next seen told stop → StopsIn on draws peers line stop old next was told
  stopped_there stop stopped =
      Stops-more on draws peers line keeps more old middle was seen going next acted request answers asks told stop
      (stopped middle.entries answers.entry answers.added)

  -- or it was reported, and members read what is on its way
  pub read_after : ReadsOn D line → ReadsAfter D line answers.entry → IsReported on draws peers middle next seen told → (new : View D G R) (now : Shown)
      → (result : Result Unit Stop) → (result ≡ Err Line → ⊥)
      → MatchResult result (λ _. Runs on.disks draws peers (by_mail on) next new told now)
      (λ stop. Stops on.disks draws peers (begun_by_mail on) stop next new told now)
      → MatchResult result (λ _. Runs on.disks draws peers (by_line on line) old new was now) (λ stop. StopsIn on draws peers line stop old new was now)
  read_after reads goes reported new now result known h =
      let put = reported middle.entries answers.entry answers.added in
      Ends-read on draws peers line reads any_run (more ++ answers.entry ∷ []) old next new was told now
      (Going-more on draws peers line keeps more old middle was seen going next acted request answers asks any_run told
      (λ by run next stands kept step. tt) put.0 put.1)
      (record { front = more; last = answers.entry; is = refl; reads = goes }) result known h

-- nothing was asked yet
pub none_yet : {D G V R : Type 0} (on : Devices D G V) (draws : DrawGhosts R) (peers : Drawing) (line : ScriptLine) (old : View D G R) (was : Shown)
    → Going on draws peers line any_run [] old old was was
none_yet on draws peers line old was = Going-none on draws peers line any_run old was (λ run reflects. tt)

module _ {D G V R : Type 0} (on : Devices D G V) (draws : DrawGhosts R) (peers : Drawing) (old new : View D G R) (rest : old.members.mail ≡ []) where
  -- ---- a batch

  pub batch_answers : MovesBy on draws peers old new old.members requests.Batch → Answers on draws peers old.members requests.Batch old new
  batch_answers moves = Answers-by on draws peers old new old.members requests.Batch moves

  pub asks_batch : (run : Run D) → Reflects on.disks draws old run → Unit {0}
      → AsksNext peers.block console_name run old.entries [] lines.Batch (Some (requests.Batch, old.members))
  asks_batch run reflects kept = (old.members, (reflects.members, rest), refl)

  module _ (was told : Shown) (moves : MovesBy on draws peers old new old.members requests.Batch) where
    pub batch_stopped : (stop : Stop) → IsStopped on draws peers old new was told stop → StopsIn on draws peers lines.Batch stop old new was told
    batch_stopped stop stopped =
        stopped_there on draws peers lines.Batch any_run [] old old new was was told (none_yet on draws peers lines.Batch old was) old.members requests.Batch
        (batch_answers moves) asks_batch stop stopped

    pub batch_read : IsReported on draws peers old new was told → (last : View D G R) (now : Shown) (result : Result Unit Stop) → (result ≡ Err Line → ⊥)
        → MatchResult result (λ _. Runs on.disks draws peers (by_mail on) new last told now)
        (λ stop. Stops on.disks draws peers (begun_by_mail on) stop new last told now)
        → MatchResult result (λ _. Runs on.disks draws peers (by_line on lines.Batch) old last was now)
        (λ stop. StopsIn on draws peers lines.Batch stop old last was now)
    batch_read reported last now result known h =
        read_after on draws peers lines.Batch any_run [] old old new was was told (none_yet on draws peers lines.Batch old was) old.members requests.Batch
        (batch_answers moves) asks_batch (reads_batch D) (reads_batch_after (batch_answers moves).entry) reported last now result known h

  -- ---- a datagram that is sent again

  again_moves : (m : Name) (sent : Option (List ℕ)) → SendsAgain on.disks on.signers draws sent m old new
      → MovesBy on draws peers old new old.members (asked_again m sent)
  again_moves m None moves = moves
  again_moves m (Some datagram) moves = moves

  asks_again : (m : Name) (run : Run D) → Reflects on.disks draws old run → Unit {0}
      → AsksNext peers.block console_name run old.entries [] (lines.Again m) (Some (asked_again m (sent_by old.members.all m), old.members))
  asks_again m run reflects kept = (old.members, (reflects.members, rest), refl)

  module _ (m : Name) (was told : Shown) (moves : SendsAgain on.disks on.signers draws (sent_by old.members.all m) m old new) where
    abbrev asked_now : Asked
    asked_now = asked_again m (sent_by old.members.all m)

    again_answers : Answers on draws peers old.members asked_now old new
    again_answers = Answers-by on draws peers old new old.members asked_now (again_moves m (sent_by old.members.all m) moves)

    pub again_stopped : (stop : Stop) → IsStopped on draws peers old new was told stop → StopsIn on draws peers (lines.Again m) stop old new was told
    again_stopped stop stopped =
        stopped_there on draws peers (lines.Again m) any_run [] old old new was was told (none_yet on draws peers (lines.Again m) old was) old.members asked_now
        again_answers (asks_again m) stop stopped

    pub again_read : IsReported on draws peers old new was told → (last : View D G R) (now : Shown) (result : Result Unit Stop) → (result ≡ Err Line → ⊥)
        → MatchResult result (λ _. Runs on.disks draws peers (by_mail on) new last told now)
        (λ stop. Stops on.disks draws peers (begun_by_mail on) stop new last told now)
        → MatchResult result (λ _. Runs on.disks draws peers (by_line on (lines.Again m)) old last was now)
        (λ stop. StopsIn on draws peers (lines.Again m) stop old last was now)
    again_read reported last now result known h =
        read_after on draws peers (lines.Again m) any_run [] old old new was was told (none_yet on draws peers (lines.Again m) old was) old.members asked_now
        again_answers (asks_again m) (reads_again D m) (reads_again_after m again_answers.entry) reported last now result known h

-- ---- whose SA was introduced

module _ (m : Name) where
  abbrev introduced_in : Option Peer → Bool
  introduced_in found = unwrap_or (option_map (λ (peer : Peer). peer.introduced) found) false

  granted_is : (peers : List Peer) (peer : Peer) → peer_of peers m ≡ Some peer → was_introduced (introduced peers m) m ≡ true
  granted_is [] peer is = absurd (none-some peer is)
  granted_is (first ∷ peers) peer is =
      let changed : Peer = record first { introduced = true } in
      let rest = peer_of (introduced peers m) m in
      elim (cases_Bool (is_named m first)) [
        | inl here ↦ ap (λ (head : Peer). introduced_in (cond (is_named m head) (Some head) rest)) (cond-true (is_named m first) changed first here)
            ∙ ap introduced_in (cond-true (is_named m first) (Some changed) rest here)
        | inr other ↦ ap (λ (head : Peer). introduced_in (cond (is_named m head) (Some head) rest)) (cond-false (is_named m first) changed first other)
            ∙ ap introduced_in (cond-false (is_named m first) (Some first) rest other)
            ∙ granted_is peers peer (sym (cond-false (is_named m first) (Some first) (peer_of peers m) other) ∙ is)
      ]

  -- who was just used was not introduced
  used_first : (peers : List Peer) (phase : Phase1) → was_introduced peers m ≡ false → was_introduced (with_peer peers phase) m ≡ false
  used_first [] phase never = elim (is_named m (new_peer phase)) as
      (λ b. introduced_in (cond b (Some (new_peer phase)) None) ≡ false) [ true ↦ refl | false ↦ refl ]
  used_first (first ∷ peers) phase never =
      let rest = peer_of (with_peer peers phase) m in
      elim (cases_Bool (is_named m first)) [
        | inl here ↦ ap introduced_in (cond-true (is_named m first) (Some first) rest here)
            ∙ sym (ap introduced_in (cond-true (is_named m first) (Some first) (peer_of peers m) here)) ∙ never
        | inr other ↦ ap introduced_in (cond-false (is_named m first) (Some first) rest other)
            ∙ used_first peers phase (sym (ap introduced_in (cond-false (is_named m first) (Some first) (peer_of peers m) other)) ∙ never)
      ]

  module _ (block : ℕ → List ℕ) (old used : Members) where
    use_not : (b : Bool) → MatchBool b (used ≡ old) (IsFirstUse block m old used) → was_introduced old.all m ≡ false → was_introduced used.all m ≡ false
    use_not true same never = ap (λ (members : Members). was_introduced members.all m) same ∙ never
    use_not false first never = ap (λ (members : Members). was_introduced members.all m) first.now ∙ used_first old.all _ never

    use_mail : (b : Bool) → MatchBool b (used ≡ old) (IsFirstUse block m old used) → used.mail ≡ old.mail
    use_mail true same = ap (λ (members : Members). members.mail) same
    use_mail false first = ap (λ (members : Members). members.mail) first.now

  by_mail_stays : (answer : Answer) (phase : Phase1) (used : Members) → (introduced_by answer phase.member used).mail ≡ used.mail
  by_mail_stays Done phase used = refl
  by_mail_stays answer phase used = refl

-- ---- a pull

module _ {D G V R : Type 0} (on : Devices D G V) (draws : DrawGhosts R) (peers : Drawing) (m : Name) where
  pull_answers : (old new : View D G R) (pulls : Pulls on.disks on.signers draws peers.block console_name m old new)
      → Answers on draws peers pulls.acted (requests.Serve m pulls.datagram) old new
  pull_answers old new pulls = Answers-by on draws peers old new pulls.acted (requests.Serve m pulls.datagram) pulls.serves

  pull_reads : (old new : View D G R) (pulls : Pulls on.disks on.signers draws peers.block console_name m old new)
      → ReadsAfter D (lines.Join m) (pull_answers old new pulls).entry
  pull_reads old new pulls =
      let answers = pull_answers old new pulls in
      reads_join D m answers.entry (subst IsOfMail (sym answers.asked) tt)

  -- of who was introduced before
  module _ (old middle : View D G R) (was seen : Shown) (rest : old.members.mail ≡ []) (yes : was_introduced old.members.all m ≡ true)
      (pulls : Pulls on.disks on.signers draws peers.block console_name m old middle) where
    asks_pull : (run : Run D) → Reflects on.disks draws old run → Unit {0}
        → AsksNext peers.block console_name run old.entries [] (lines.Join m) (Some (requests.Serve m pulls.datagram, pulls.acted))
    asks_pull run reflects kept = (
      old.members,
      (reflects.members, rest),
      subst (λ b. MatchBool b
          (AsksToPull peers.block console_name run old.entries [] m old.members (Some (requests.Serve m pulls.datagram, pulls.acted)))
          (AsksToIntroduce peers.block console_name run old.entries [] m old.members (Some (requests.Serve m pulls.datagram, pulls.acted)))) (sym yes)
          (pulls.acted, pulls.begins, pulls.datagram, pulls.sent, refl),
    )

    pub pull_stopped : (stop : Stop) → IsStopped on draws peers old middle was seen stop → StopsIn on draws peers (lines.Join m) stop old middle was seen
    pull_stopped stop stopped =
        stopped_there on draws peers (lines.Join m) any_run [] old old middle was was seen (none_yet on draws peers (lines.Join m) old was) pulls.acted
        (requests.Serve m pulls.datagram) (pull_answers old middle pulls) asks_pull stop stopped

    pub pull_read : IsReported on draws peers old middle was seen → (new : View D G R) (now : Shown) (result : Result Unit Stop) → (result ≡ Err Line → ⊥)
        → MatchResult result (λ _. Runs on.disks draws peers (by_mail on) middle new seen now)
        (λ stop. Stops on.disks draws peers (begun_by_mail on) stop middle new seen now)
        → MatchResult result (λ _. Runs on.disks draws peers (by_line on (lines.Join m)) old new was now)
        (λ stop. StopsIn on draws peers (lines.Join m) stop old new was now)
    pull_read reported new now result known h =
        read_after on draws peers (lines.Join m) any_run [] old old middle was was seen (none_yet on draws peers (lines.Join m) old was) pulls.acted
        (requests.Serve m pulls.datagram) (pull_answers old middle pulls) asks_pull (reads_join D m) (pull_reads old middle pulls) reported new now result
        known h

  -- of who is introduced first
  module _ (old middle : View D G R) (was seen : Shown) (rest : old.members.mail ≡ []) (never : was_introduced old.members.all m ≡ false)
      (brings : Introduces on.disks on.signers draws peers.block m old middle) where
    abbrev request : Asked
    request = requests.Introduce brings.phase

    abbrev used : Members
    used = brings.used

    answers : Answers on draws peers used request old middle
    answers = Answers-by on draws peers old middle used request brings.serves

    asks_introduce : (run : Run D) → Reflects on.disks draws old run → Unit {0}
        → AsksNext peers.block console_name run old.entries [] (lines.Join m) (Some (request, used))
    asks_introduce run reflects kept = (
      old.members,
      (reflects.members, rest),
      subst (λ b. MatchBool b (AsksToPull peers.block console_name run old.entries [] m old.members (Some (request, used)))
          (AsksToIntroduce peers.block console_name run old.entries [] m old.members (Some (request, used)))) (sym never)
          (used, brings.uses, brings.phase, brings.is, refl),
    )

    pub introduce_stopped : (stop : Stop) → IsStopped on draws peers old middle was seen stop → StopsIn on draws peers (lines.Join m) stop old middle was seen
    introduce_stopped stop stopped =
        stopped_there on draws peers (lines.Join m) any_run [] old old middle was was seen (none_yet on draws peers (lines.Join m) old was) used request answers
        asks_introduce stop stopped

    -- the members of a run after that
    abbrev has_introduced : List Entry → Run D → Type 0
    has_introduced more run = run.members ≡ introduced_by answers.entry.answer brings.phase.member used

    going : IsReported on draws peers old middle was seen
        → Going on draws peers (lines.Join m) has_introduced (answers.entry ∷ []) old middle was seen
    going reported =
        let put = reported old.entries answers.entry answers.added in
        Going-more on draws peers (lines.Join m) any_run [] old old was was (none_yet on draws peers (lines.Join m) old was) middle used request answers
        asks_introduce has_introduced seen
        (λ by run next stands kept step.
        (subst (λ asked. IsAnsweredHere on by old.entries asked (with_members run used) answers.entry.answer answers.entry.outside next) answers.asked
        step.answered).gets)
        put.0 put.1

    used_not : was_introduced used.all m ≡ false
    used_not = use_not m peers.block old.members used (is_peer old.members.all m) brings.uses never

    -- whether that was granted is seen by the members that the group has
    seen_by : (run : Run D) (b : Bool) → Reflects on.disks draws middle run → was_introduced middle.members.all m ≡ b
        → run.members ≡ introduced_by answers.entry.answer brings.phase.member used
        → was_introduced (introduced_by answers.entry.answer brings.phase.member used).all m ≡ b
    seen_by run b reflects is same =
        ap (λ (members : Members). was_introduced members.all m) (sym same)
        ∙ ap (λ all. was_introduced all m) (sym (ignores_all reflects.members.0 run.members middle.members reflects.members.1)) ∙ is

    no_more : (run : Run D) (so_far : List Entry) (answer : Answer) → was_introduced (introduced_by answer brings.phase.member used).all m ≡ false
        → JoinsAfter peers.block console_name run old.entries so_far m request answer None
    no_more run so_far Done is =
        let found = phase_found (peer_of used.all m) brings.phase brings.is in
        absurd (false≢true (sym is ∙ ap (λ name. was_introduced (introduced used.all name) m) (sym (phase_named used.all m brings.phase brings.is))
        ∙ granted_is m used.all found.0 found.1))
    no_more run so_far answer is = refl

    -- it was refused, and that is all
    pub introduced_only : IsReported on draws peers old middle was seen → was_introduced middle.members.all m ≡ false
        → Runs on.disks draws peers (by_line on (lines.Join m)) old middle was seen
    introduced_only reported is =
        Runs-all on draws peers (lines.Join m) has_introduced (answers.entry ∷ []) old middle was seen (going reported)
        (λ run reflects kept.
        asks_later (lines.Join m) peers.block console_name run old.entries [] answers.entry None
        (subst (λ asked. JoinsAfter peers.block console_name run old.entries (answers.entry ∷ []) m asked answers.entry.answer None) (sym answers.asked)
        (no_more run (answers.entry ∷ []) answers.entry.answer (seen_by run false reflects is kept))))

    -- out of memory for the pull
    pub unpulled : IsReported on draws peers old middle was seen → (new : View D G R) → new.server ≡ middle.server → new.entries ≡ middle.entries
        → StopsIn on draws peers (lines.Join m) Memory old new was seen
    unpulled reported new server entries =
        Stops-unasked on draws peers (lines.Join m) has_introduced (answers.entry ∷ []) old middle was seen (going reported) new server entries

    -- ---- it was granted, and the pull follows

    pulls_on : (run : Run D) (so_far : List Entry) (next : Option Ask) (answer : Answer)
        → was_introduced (introduced_by answer brings.phase.member used).all m ≡ true
        → AsksToPull peers.block console_name run old.entries so_far m run.members next
        → JoinsAfter peers.block console_name run old.entries so_far m request answer next
    pulls_on run so_far next Done is h = h
    pulls_on run so_far next answer is h = absurd (false≢true (sym used_not ∙ is))

    module _ (reported : IsReported on draws peers old middle was seen) (yes : was_introduced middle.members.all m ≡ true) (after : View D G R) (told : Shown)
        (pulls : Pulls on.disks on.signers draws peers.block console_name m middle after) where
      abbrev ask : Option Ask
      ask = Some (requests.Serve m pulls.datagram, pulls.acted)

      asks_then : (run : Run D) → Reflects on.disks draws middle run → has_introduced (answers.entry ∷ []) run
          → AsksNext peers.block console_name run old.entries (answers.entry ∷ []) (lines.Join m) ask
      asks_then run reflects kept =
          let none : run.members.mail ≡ [] =
          ap (λ (members : Members). members.mail) kept ∙ by_mail_stays m answers.entry.answer brings.phase used
          ∙ use_mail m peers.block old.members used (is_peer old.members.all m) brings.uses ∙ rest in
          let same : middle.members ≡ run.members = ignores_none reflects.members.0 run.members middle.members reflects.members.1 none in
          asks_later (lines.Join m) peers.block console_name run old.entries [] answers.entry ask
          (subst (λ asked. JoinsAfter peers.block console_name run old.entries (answers.entry ∷ []) m asked answers.entry.answer ask) (sym answers.asked)
          (pulls_on run (answers.entry ∷ []) ask answers.entry.answer (seen_by run true reflects yes kept)
          (pulls.acted, subst (λ members. BeginsPull peers.block console_name m members pulls.acted) same pulls.begins, pulls.datagram, pulls.sent, refl)))

      pub then_stopped : (stop : Stop) → IsStopped on draws peers middle after seen told stop → StopsIn on draws peers (lines.Join m) stop old after was told
      then_stopped stop stopped =
          stopped_there on draws peers (lines.Join m) has_introduced (answers.entry ∷ []) old middle after was seen told (going reported) pulls.acted
          (requests.Serve m pulls.datagram) (pull_answers middle after pulls) asks_then stop stopped

      pub then_read : IsReported on draws peers middle after seen told → (new : View D G R) (now : Shown) (result : Result Unit Stop)
          → (result ≡ Err Line → ⊥)
          → MatchResult result (λ _. Runs on.disks draws peers (by_mail on) after new told now)
          (λ stop. Stops on.disks draws peers (begun_by_mail on) stop after new told now)
          → MatchResult result (λ _. Runs on.disks draws peers (by_line on (lines.Join m)) old new was now)
          (λ stop. StopsIn on draws peers (lines.Join m) stop old new was now)
      then_read put new now result known h =
          read_after on draws peers (lines.Join m) has_introduced (answers.entry ∷ []) old middle after was seen told (going reported) pulls.acted
          (requests.Serve m pulls.datagram) (pull_answers middle after pulls) asks_then (reads_join D m) (pull_reads middle after pulls) put new now result
          known h
