-- Members read what is on its way to them, entry by entry, after what a line gave first.
use Rattle.std.proofs.Common.{◌≡◌, ◌⊎◌, ℕ, Bool, true, false, ◌||◌, List, [], ◌∷◌, ◌++◌, Option, None, Some, Result, Ok, Err, sym, refl, ap, ◌∙◌}
use Rattle.std.proofs.Common.{subst, inl, inr, append_assoc}
use Rattle.std.specs.Prelude.{MatchBool, MatchResult}
use Rattle.std.proofs.lemmas.Bool.{or_from, or_parts}
use Rattle.std.proofs.lemmas.List.{append-nil}
use Rattle.std.proofs.lemmas.List.Folds.{list_any-append}
use Rattle.std.proofs.lemmas.Option.{none-some, same_Some}
use Rattle.gd_edges.specs.Shown.{Shown}
use Rattle.gd_edges.specs.declared.draws.Draws.{Ghosts as DrawGhosts}
use Rattle.group_terms.specs.Names.{Name}
use Rattle.group_model.specs.Answers.{any_ran_out, ran_out}
use Rattle.group_model.specs.declared.entries.Asked.{Asked}
use Rattle.group_model.specs.declared.entries.Asked.TheVariants as requests
use Rattle.group_model.specs.declared.entries.Entry.{Entry}
use Rattle.group_run.specs.Reads.{Ask, AsksAt, AsksBy as ReadsBy, AsksOf, ReadsMail}
use Rattle.group_run.specs.Tells.{AllIsRead, HasReadSome, KeepsNext, SendsNext}
use Rattle.group_run.specs.Views.{View}
use Rattle.group_steps.specs.Devices.{Devices, Keying}
use Rattle.group_steps.specs.Runs.{Run}
use Rattle.member_pull.specs.Views.{Pull}
use Rattle.member_pull.specs.declared.pulls.Step.{Step}
use Rattle.member_pull.specs.declared.pulls.Step.TheVariants as steps
use Rattle.member_steps.specs.Members.{Mail, Members}
use Rattle.server_steps.specs.Reflects.{IsServerOf}
use Rattle.script_text.specs.Report.{entries_text}
use Rattle.script_text.specs.declared.lines.Line.{Line as ScriptLine}
use Rattle.run_report.specs.declared.stops.Stop.{Stop}
use Rattle.run_report.specs.declared.stops.Stop.TheVariants.{Line, Source, Sink, Memory, Unreported}
use Rattle.run_report.specs.declared.endings.Ending.{Ending}
use Rattle.run_report.specs.declared.endings.Ending.TheVariants.{Sink as SinkEnding, Memory as MemoryEnding}
use Rattle.run_report.specs.Reports.{Puts, ReportBreaksOff}
use Rattle.run_report.proofs.KnownLemmas.{Puts-entries, Puts-entry, Puts-none}
use Rattle.console_run.specs.Lines.{IsGivenAfter, Asks, AsksAfter, AsksNext, BeginsToGive, GoesThrough}
use Rattle.console_run.specs.Private.Asks.{Answers, StopsIn}
use Rattle.console_run.specs.Private.Mail.{begun_by_mail, by_mail}
use Rattle.console_run.specs.Private.Runs.{Drawing, ReportsUntil, Runs, Stands, Stops, by_line}
use Rattle.console_run.proofs.ActLemmas.{ignores_then, reads_from}
use Rattle.console_run.proofs.AskLemmas.{Answers-by, Going, IsReported, IsStopped, asks_later, until}

-- ---- entries that come of mail, and then a line that goes on by them

-- a datagram is served, or keys are kept
abbrev pub IsOfMail : Asked → Type 0
IsOfMail (requests.Serve m datagram) = Unit {0}
IsOfMail (requests.Keep m) = Unit {0}
IsOfMail asked = ⊥

asked_is : (asked : Asked) (acted : Members) (request : Asked) (present : Members) → IsOfMail request → Asks request present (Some (asked, acted))
    → IsOfMail asked
asked_is asked acted request present is same =
    subst (λ (ask : Ask). IsOfMail ask.0) (sym (same_Some (asked, acted) (request, present) same)) is

asked_of_mail : (mail : List Mail) (read : Members) (asked : Asked) (acted : Members) → AsksOf mail read (Some (asked, acted)) → IsOfMail asked
asked_of_mail [] read asked acted none = absurd (none-some (asked, acted) (sym none))
asked_of_mail (mail ∷ later) read asked acted asks = by_loss asks.peer.loses asks.is
  where
    by_step : (step : Step) → AsksAt step mail.0 read (Some (asked, acted)) → IsOfMail asked
    by_step (steps.Second iv) h = asked_is asked acted (requests.Serve mail.0 h.0) h.1 tt h.3
    by_step (steps.Fourth iv nr spi) h = asked_is asked acted (requests.Keep mail.0) read tt h.3
    by_step steps.Ended h = absurd h

    by_pull : (pull : Option Pull) → ReadsBy pull mail.0 read (Some (asked, acted)) → IsOfMail asked
    by_pull None h = absurd h
    by_pull (Some pull) h = by_step pull.step h

    by_loss : (loses : Bool) → MatchBool loses (Asks (requests.Keep mail.0) read (Some (asked, acted)))
        (ReadsBy asks.peer.pull mail.0 read (Some (asked, acted)))
        → IsOfMail asked
    by_loss true h = asked_is asked acted (requests.Keep mail.0) read tt h
    by_loss false h = by_pull asks.peer.pull h

-- after such an entry a line goes on by what is on its way
abbrev pub ReadsAfter : Type 0 → ScriptLine → Entry → Type 0
ReadsAfter D line last =
    (block : ℕ → List ℕ) (group : Name) (run : Run D) (before so_far : List Entry) (next : Option Ask) → ReadsMail run.members next
    → AsksAfter block group run before so_far line last next

abbrev pub ReadsOn : Type 0 → ScriptLine → Type 0
ReadsOn D line = (entry : Entry) → IsOfMail entry.asked → ReadsAfter D line entry

-- entries of which the last is such a one
pub record EndsReading (D : Type 0) (line : ScriptLine) (so_far : List Entry) : Type 0 where
  pub front : List Entry
  pub last : Entry
  pub is : so_far ≡ front ++ last ∷ []
  pub reads : ReadsAfter D line last

module _ {D G V : Type 0} (on : Devices D G V) (by : Keying G) (line : ScriptLine) (reads : ReadsOn D line) (before : List Entry) where
  asks_reading : (so_far : List Entry) → EndsReading D line so_far → (run : Run D) (next : Option Ask) → ReadsMail run.members next
      → AsksNext by.members_block by.group run before so_far line next
  asks_reading so_far ends run next h =
      subst (λ so_far. AsksNext by.members_block by.group run before so_far line next) (sym ends.is)
      (asks_later line by.members_block by.group run before ends.front ends.last next
      (ends.reads by.members_block by.group run before (ends.front ++ ends.last ∷ []) next h))

  reads_through : (so_far : List Entry) → EndsReading D line so_far → (run : Run D) (more : List Entry) (after : Run D)
      → begun_by_mail on by (before ++ so_far) run more after
      → GoesThrough on by line before so_far run more after × EndsReading D line (so_far ++ more)
  reads_through so_far ends run [] after same = (same, subst (EndsReading D line) (sym (append-nil so_far)) ends)
  reads_through so_far ends run (entry ∷ more) after h =
      let of_mail : IsOfMail entry.asked = asked_of_mail h.1.0.mail h.1.0 entry.asked h.0 h.1.2 in
      let ends_now : EndsReading D line (so_far ++ entry ∷ []) = record { front = so_far; last = entry; is = refl; reads = reads entry of_mail } in
      let later = reads_through (so_far ++ entry ∷ []) ends_now h.3 more after
      (subst (λ all. begun_by_mail on by all h.3 more after) (append_assoc before so_far (entry ∷ [])) h.5) in (
        (h.0, asks_reading so_far ends run (Some (entry.asked, h.0)) h.1, h.2, h.3, h.4, later.0),
        subst (EndsReading D line) (append_assoc so_far (entry ∷ []) more) later.1,
      )

  -- entries that a line gave, and others after them
  pub through_then : (so_far : List Entry) (run : Run D) (first : List Entry) (middle : Run D) (more : List Entry) (after : Run D)
      → any_ran_out first ≡ false → GoesThrough on by line before so_far run first middle → GoesThrough on by line before (so_far ++ first) middle more after
      → GoesThrough on by line before so_far run (first ++ more) after
  through_then so_far run [] middle more after enough same goes =
      subst (λ run. GoesThrough on by line before so_far run more after) same
      (subst (λ list. GoesThrough on by line before list middle more after) (append-nil so_far) goes)
  through_then so_far run (entry ∷ first) middle more after enough h goes =
      let memory = or_parts (ran_out entry.answer) (any_ran_out first) enough in (
        h.0,
        h.1,
        inr memory.0,
        h.3,
        h.4,
        through_then (so_far ++ entry ∷ []) h.3 first middle more after memory.1 h.5
            (subst (λ list. GoesThrough on by line before list middle more after) (sym (append_assoc so_far (entry ∷ []) first)) goes),
      )

-- ---- the rest of a line

broken_then : (ending : Ending) (was seen now : Shown) (first more : List Entry) → Puts was seen (entries_text first) → ReportBreaksOff ending seen now more
    → ReportBreaksOff ending was now (first ++ more)
broken_then ending was seen now first more puts h = record {
  reported = first ++ h.reported;
  last = h.last;
  parts = ap (λ more. first ++ more) h.parts ∙ sym (append_assoc first h.reported (h.last ∷ []));
  middle = h.middle;
  puts = Puts-entries was seen h.middle first h.reported puts h.puts;
  breaks = h.breaks;
}

until_then : (stop : Stop) (was seen now : Shown) (first more : List Entry) → (stop ≡ Line → ⊥) → Puts was seen (entries_text first)
    → ReportsUntil stop seen now more → ReportsUntil stop was now (first ++ more)
until_then Line was seen now first more known puts h = absurd (known refl)
until_then Source was seen now first more known puts h = h
until_then Sink was seen now first more known puts h = broken_then SinkEnding was seen now first more puts h
until_then Memory was seen now first more known puts h = Puts-entries was seen now first more puts h
until_then Unreported was seen now first more known puts h = broken_then MemoryEnding was seen now first more puts h

module _ {D G V R : Type 0} (on : Devices D G V) (draws : DrawGhosts R) (peers : Drawing) (line : ScriptLine) (reads : ReadsOn D line)
    (keeps : List Entry → Run D → Type 0) (first : List Entry) (old middle new : View D G R) (was seen now : Shown)
    (going : Going on draws peers line keeps first old middle was seen) (ends : EndsReading D line first) where
  grown_then : (more : List Entry) → new.entries ≡ middle.entries ++ more → new.entries ≡ old.entries ++ (first ++ more)
  grown_then more grown = grown ∙ ap (λ entries. entries ++ more) going.grown ∙ append_assoc old.entries first more

  -- what members read was read, from any run
  read_then : (by : Keying G) (run middle_run : Run D) (more : List Entry) (after : Run D) → BeginsToGive on by line old.entries run first middle_run
      → begun_by_mail on by middle.entries middle_run more after
      → BeginsToGive on by line old.entries run (first ++ more) after × EndsReading D line (first ++ more)
  read_then by run middle_run more after gives mail =
      let through = reads_through on by line reads old.entries first ends middle_run more after
      (subst (λ all. begun_by_mail on by all middle_run more after) going.grown mail) in
      (through_then on by line reads old.entries [] run first middle_run more after going.enough gives through.0, through.1)

  runs_then : Runs on.disks draws peers (by_mail on) middle new seen now → Runs on.disks draws peers (by_line on line) old new was now
  runs_then h = record {
    more = first ++ h.more;
    grown = grown_then h.more h.grown;
    each = λ by run stands.
        let gave = going.each by run stands in
        let mail = h.each by gave.0 gave.2 in
        let all = read_then by run gave.0 h.more mail.0 gave.1 mail.1.begins in (
          mail.0,
          record {
            begins = all.0;
            no_more = asks_reading on by line reads old.entries (first ++ h.more) all.1 mail.0 None mail.1.no_more;
            enough_memory = list_any-append (λ (entry : Entry). ran_out entry.answer) first h.more ∙ or_from _ _ going.enough mail.1.enough_memory;
          },
          mail.2,
        );
    puts = Puts-entries was seen now first h.more going.puts h.puts;
  }

  stops_then : (stop : Stop) → (stop ≡ Line → ⊥) → Stops on.disks draws peers (begun_by_mail on) stop middle new seen now
      → StopsIn on draws peers line stop old new was now
  stops_then stop known h = record {
    stops = record {
      more = first ++ h.more;
      grown = grown_then h.more h.grown;
      each = λ by run stands.
          let gave = going.each by run stands in
          let mail = h.each by gave.0 gave.2 in
          (mail.0, (read_then by run gave.0 h.more mail.0 gave.1 mail.1).0, mail.2);
      reports = until_then stop was seen now first h.more known going.puts h.reports;
    };
    known = known;
  }

  -- after what a line gave first, members read what is on its way
  pub Ends-read : (result : Result Unit Stop) → (result ≡ Err Line → ⊥)
      → MatchResult result (λ _. Runs on.disks draws peers (by_mail on) middle new seen now)
      (λ stop. Stops on.disks draws peers (begun_by_mail on) stop middle new seen now)
      → MatchResult result (λ _. Runs on.disks draws peers (by_line on line) old new was now) (λ stop. StopsIn on draws peers line stop old new was now)
  Ends-read (Ok u) known h = runs_then h
  Ends-read (Err stop) known h = stops_then stop (λ same. known (ap Err same)) h

-- ---- the loop

module _ {D G V : Type 0} (on : Devices D G V) (by : Keying G) where
  mail_then : (before : List Entry) (run : Run D) (more : List Entry) (middle : Run D) (entry : Entry) (acted : Members) (after : Run D)
      → any_ran_out more ≡ false → begun_by_mail on by before run more middle → ReadsMail middle.members (Some (entry.asked, acted))
      → IsGivenAfter on by acted (before ++ more) middle entry after → begun_by_mail on by before run (more ++ entry ∷ []) after
  mail_then before run [] middle entry acted after enough same asks step = (
    acted,
    subst (λ (run : Run D). ReadsMail run.members (Some (entry.asked, acted))) same asks,
    inl refl,
    after,
    subst (λ (run : Run D). IsGivenAfter on by acted before run entry after) same
        (subst (λ list. IsGivenAfter on by acted list middle entry after) (append-nil before) step),
    refl,
  )
  mail_then before run (first ∷ more) middle entry acted after enough h asks step =
      let memory = or_parts (ran_out first.answer) (any_ran_out more) enough in (
        h.0,
        h.1,
        inr memory.0,
        h.3,
        h.4,
        mail_then (before ++ first ∷ []) h.3 more middle entry acted after memory.1 h.5 asks
            (subst (λ list. IsGivenAfter on by acted list middle entry after) (sym (append_assoc before (first ∷ []) more)) step),
      )

module _ {D G V R : Type 0} (on : Devices D G V) (draws : DrawGhosts R) (peers : Drawing) where
  -- some of it was read, and what came of that was reported
  pub record IsReading (old now : View D G R) (was seen : Shown) : Type 0 where
    pub more : List Entry
    pub grown : now.entries ≡ old.entries ++ more
    pub enough : any_ran_out more ≡ false
    pub each : (by : Keying G) (run : Run D) → Stands on.disks draws peers by old run
        → (after : Run D) × begun_by_mail on by old.entries run more after × Stands on.disks draws peers by now after
    pub puts : Puts was seen (entries_text more)

  pub reading_begins : (old : View D G R) (was : Shown) → IsReading old old was was
  reading_begins old was = record {
    more = [];
    grown = sym (append-nil old.entries);
    enough = refl;
    each = λ by run stands. (run, refl, stands);
    puts = Puts-none was;
  }

  -- the next datagram that is not ignored asks for something, which was answered
  pub record ReadsNext (middle new : View D G R) : Type 0 where
    pub request : Asked
    pub acted : Members
    pub asks : ReadsMail middle.members (Some (request, acted))
    pub answers : Answers on draws peers acted request middle new

  pub next_read : (middle new : View D G R) → SendsNext on.disks on.signers draws middle new ⊎ KeepsNext on.disks on.signers draws middle new
      → ReadsNext middle new
  next_read middle new (inl sends) = record {
    request = requests.Serve sends.m sends.third;
    acted = sends.acted;
    asks = sends.asks;
    answers = Answers-by on draws peers middle new sends.acted (requests.Serve sends.m sends.third) sends.serves;
  }
  next_read middle new (inr keeps) = record {
    request = requests.Keep keeps.m;
    acted = keeps.acted;
    asks = keeps.asks;
    answers = Answers-by on draws peers middle new keeps.acted (requests.Keep keeps.m) keeps.acts;
  }

  module _ (old middle new : View D G R) (was seen now : Shown) (reading : IsReading old middle was seen) where
    -- out of memory before reading on
    pub unread : HasReadSome middle new → Stops on.disks draws peers (begun_by_mail on) Memory old new was seen
    unread none = record {
      more = reading.more;
      grown = none.entries ∙ reading.grown;
      each = λ by run stands.
          let h = reading.each by run stands in
          (h.0, h.1, subst (λ server. IsServerOf on.disks draws server h.0.host) (sym none.server) h.2.reflects.server);
      reports = reading.puts;
    }

    -- all was read
    pub all_read : AllIsRead on.disks on.signers draws middle new → Runs on.disks draws peers (by_mail on) old new was seen
    all_read all = record {
      more = reading.more;
      grown = ap (λ (held : View D G R). held.entries) all.now ∙ reading.grown;
      each = λ by run stands.
          let h = reading.each by run stands in
          let ignored = ignores_then h.2.reflects.members.0 h.0.members middle.members all.rest h.2.reflects.members.1 all.at_rest.0 in (
            h.0,
            record {
              begins = h.1;
              no_more = (all.rest, ignored, subst (λ mail. AsksOf mail all.rest None) (sym all.at_rest.1) refl);
              enough_memory = reading.enough;
            },
            subst (λ (held : View D G R). Stands on.disks draws peers by held h.0) (sym all.now) (record {
              reflects = record { server = h.2.reflects.server; members = ignored };
              signer = h.2.signer;
              blocks = h.2.blocks;
              members_blocks = h.2.members_blocks;
              group = h.2.group;
            }),
          );
      puts = reading.puts;
    }

    pub all_at_rest : AllIsRead on.disks on.signers draws middle new → new.members.mail ≡ []
    all_at_rest all = ap (λ (held : View D G R). held.members.mail) all.now ∙ all.at_rest.1

    module _ (reads : ReadsNext middle new) where
      abbrev entry : Entry
      entry = reads.answers.entry

      abbrev all_now : List Entry
      all_now = reading.more ++ entry ∷ []

      grown_now : new.entries ≡ old.entries ++ all_now
      grown_now = reads.answers.added ∙ ap (λ entries. entries ++ entry ∷ []) reading.grown ∙ append_assoc old.entries reading.more (entry ∷ [])

      each_now : (by : Keying G) (run : Run D) → Stands on.disks draws peers by old run
          → (after : Run D) × begun_by_mail on by old.entries run all_now after × Stands on.disks draws peers by new after
      each_now by run stands =
          let h = reading.each by run stands in
          let next = reads.answers.each by h.0 h.2 in
          let asks = reads_from h.0.members middle.members (Some (reads.request, reads.acted)) h.2.reflects.members reads.asks in (
            next.0,
            mail_then on by old.entries run reading.more h.0 entry reads.acted next.0 reading.enough h.1
                (subst (λ asked. ReadsMail h.0.members (Some (asked, reads.acted))) (sym reads.answers.asked) asks)
                (subst (λ entries. IsGivenAfter on by reads.acted entries h.0 entry next.0) reading.grown next.1),
            next.2,
          )

      pub read_next : IsReported on draws peers middle new seen now → IsReading old new was now
      read_next reported =
          let told = reported middle.entries entry reads.answers.added in record {
            more = all_now;
            grown = grown_now;
            enough = list_any-append (λ (entry : Entry). ran_out entry.answer) reading.more (entry ∷ []) ∙ (λ i. reading.enough i || (told.1 i || false));
            each = each_now;
            puts = Puts-entries was seen now reading.more (entry ∷ []) reading.puts (Puts-entry seen now entry told.0);
          }

      pub stopped_reading : (stop : Stop) → IsStopped on draws peers middle new seen now stop
          → Stops on.disks draws peers (begun_by_mail on) stop old new was now
      stopped_reading stop stopped = record {
        more = all_now;
        grown = grown_now;
        each = λ by run stands. let h = each_now by run stands in (h.0, h.1, h.2.reflects.server);
        reports = until stop was seen now reading.more entry reading.puts (stopped middle.entries entry reads.answers.added);
      }
