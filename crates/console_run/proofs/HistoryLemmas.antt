-- However far a run came, its history is one of steps, from the opening on.
use Rattle.std.proofs.Common.{◌≡◌, ◌∙◌, ℕ, zero, Bool, true, false, List, [], ◌∷◌, ◌++◌, None, Some, append_assoc, sym, refl, ap, subst, inl, inr, ⊎_elim}
use Rattle.std.proofs.lemmas.Bool.{false≢true, or_from}
use Rattle.std.proofs.lemmas.List.{append-nil, append_cancel_left}
use Rattle.std.proofs.lemmas.List.Folds.{list_any-append}
use Rattle.group_model.specs.Answers.{BeginsWithOpening, any_ran_out, is_open, opens, ran_out}
use Rattle.group_model.specs.declared.entries.Answer.{Answer}
use Rattle.group_model.specs.declared.entries.Answer.TheVariants.{Opened}
use Rattle.group_model.specs.declared.entries.Asked.{Asked}
use Rattle.group_model.specs.declared.entries.Asked.TheVariants.{Now}
use Rattle.group_model.specs.declared.entries.Entry.{Entry}
use Rattle.group_model.specs.declared.entries.Outside.{Outside}
use Rattle.group_steps.specs.ChainLaws.{along_on}
use Rattle.group_steps.specs.Runs.{Run, with_members}
use Rattle.group_steps.specs.Steps.{AreRunSteps, IsAnswered, IsAnsweredAfter, IsHistory, IsRunStep}
use Rattle.member_steps.specs.Members.{Members}
use Rattle.register_workers.specs.declared.lines.BlockAsk.{BlockAsk}
use Rattle.script_text.specs.declared.lines.Line.{Line}
use Rattle.script_text.specs.declared.lines.Line.TheVariants.{End}
use Rattle.console_run.specs.Blocks.{BlockSoFar}
use Rattle.run_report.specs.declared.endings.Ending.{Ending}
use Rattle.run_report.specs.declared.endings.Ending.TheVariants.{Whole, NoGroup, BadLine, Source, Sink, Memory, NotOpened}
use Rattle.group_steps.specs.Devices.{Devices, Keying}
use Rattle.console_run.specs.Lines.{BeginsAt, BlockBegins, BlockGives, GivesAt, GoesThrough, IsAnsweredHere, IsGivenAfter, IsOpeningEntry, IsRunOf, LinesGive, Opens, TextBegins}
use Rattle.console_run.specs.Lines.{point}
use Rattle.console_run.specs.Causes.{CauseOf, Given, IsInParts, IsUpTo}
use Rattle.console_run.specs.Memory.{EndsWithoutMemory, in_block_after}
use Rattle.console_run.proofs.ActLemmas.{asked_acts, ignoring_acts, opening_ready}
use Rattle.console_run.proofs.BlockMemoryLemmas.{ends_then, in_block_all}
use Rattle.console_run.proofs.BlockStepLemmas.{block_came, block_gave, short_gave}

-- ---- memory

any_after : (first second : List Entry) → any_ran_out first ≡ false → any_ran_out second ≡ false → any_ran_out (first ++ second) ≡ false
any_after first second none h = list_any-append (λ (entry : Entry). ran_out entry.answer) first second ∙ or_from _ _ none h

-- it did not run out where a group was opened
open_ran : (answer : Answer) → is_open answer ≡ true → ran_out answer ≡ false
open_ran (Opened seen resent) h = refl
open_ran answer h = absurd (false≢true h)

module _ {D G V : Type 0} (on : Devices D G V) (by : Keying G) where
  -- ---- steps

  -- what a line answers is what a step does
  answers_step : (before : List Entry) (asked : Asked) (run : Run D) (answer : Answer) (outside : Outside) (next : Run D)
      → IsAnsweredHere on by before asked run answer outside next → IsAnswered on by before asked run answer outside next
  answers_step before Now run answer outside next h =
      record { upto = before; later = []; are = sym (append-nil before); answers = h.answers; beside = h.beside; stays = h.stays }
  answers_step before asked run answer outside next h = h

  given_step : (acted : Members) (before : List Entry) (run : Run D) (entry : Entry) (next : Run D) → IsGivenAfter on by acted before run entry next
      → IsAnsweredAfter on by acted before run entry next
  given_step acted before run entry next h = record {
    answered = answers_step before entry.asked (with_members run acted) entry.answer entry.outside next h.answered;
    keeps = h.keeps;
    counts = h.counts;
  }

  -- what a line gives, after what it gave so far
  through_steps : (line : Line) (before so_far : List Entry) (run : Run D) (more : List Entry) (after : Run D)
      → GoesThrough on by line before so_far run more after → AreRunSteps on by (before ++ so_far) run more after
  through_steps line before so_far run [] after h = h
  through_steps line before so_far run (entry ∷ more) after h =
      let acts = asked_acts by.members_block by.group run before so_far line entry.asked h.0 h.1 in (
        h.3,
        record { acted = h.0; acts = acts.0; ready = acts.1; answered = given_step h.0 (before ++ so_far) run entry h.3 h.4 },
        subst (λ (before : List Entry). AreRunSteps on by before h.3 more after) (sym (append_assoc before so_far (entry ∷ [])))
            (through_steps line before (so_far ++ entry ∷ []) h.3 more after h.5),
      )

  through_memory : (line : Line) (before so_far : List Entry) (run : Run D) (more : List Entry) (after : Run D)
      → GoesThrough on by line before so_far run more after → (b : Bool) → EndsWithoutMemory b more
  through_memory line before so_far run [] after h b = tt
  through_memory line before so_far run (entry ∷ more) after h b = (
    ⊎_elim (λ (none : more ≡ []). inl none) (λ (enough : ran_out entry.answer ≡ false). inr (inl enough)) h.2,
    through_memory line before (so_far ++ entry ∷ []) h.3 more after h.5 (in_block_after b entry.asked),
  )

  begun_steps : (line : Line) (before : List Entry) (run : Run D) (more : List Entry) (after : Run D)
      → GoesThrough on by line before [] run more after → AreRunSteps on by before run more after
  begun_steps line before run more after h =
      subst (λ (before : List Entry). AreRunSteps on by before run more after) (append-nil before) (through_steps line before [] run more after h)

  -- ---- what is given where it stands

  module _ (workers : ℕ) where
    none_steps : (before : List Entry) (run : Run D) (more : List Entry) (after : Run D) → (more ≡ []) × (after ≡ run) → AreRunSteps on by before run more after
    none_steps before run more after none = subst (λ (more : List Entry). AreRunSteps on by before run more after) (sym none.0) none.1

    block_steps : (asks : List BlockAsk) (before : List Entry) (run : Run D) (more : List Entry) (after : Run D)
        → BlockGives on by workers asks before run more after → AreRunSteps on by before run more after
    block_steps asks before run more after h =
        let came = block_came on by workers asks (point before run h.rest)
        (ignoring_acts by.members_block by.group h.at_rest.0.0 run.members h.rest h.at_rest.0.1) h.new h.block in
        let same : came.more ≡ more = append_cancel_left before came.more more (sym came.grown ∙ h.entries) in
        subst (AreRunSteps on by before run more) h.is_after (subst (λ (more : List Entry). AreRunSteps on by before run more h.new.run) same came.steps)

    gives_steps : (block : BlockSoFar) (line : Line) (before : List Entry) (run : Run D) (more : List Entry) (after : Run D)
        → GivesAt on by workers block line before run more after → AreRunSteps on by before run more after
    gives_steps None line before run more after h = begun_steps line before run more after h.begins
    gives_steps (Some asks) End before run more after h = block_steps asks before run more after h
    gives_steps (Some asks) line before run more after h = none_steps before run more after h

    gives_enough : (block : BlockSoFar) (line : Line) (before : List Entry) (run : Run D) (more : List Entry) (after : Run D)
        → GivesAt on by workers block line before run more after → any_ran_out more ≡ false
    gives_enough None line before run more after h = h.enough_memory
    gives_enough (Some asks) End before run more after h = h.enough_memory
    gives_enough (Some asks) line before run more after h = ap any_ran_out h.0

    -- what is begun
    pub record HasBegun (before : List Entry) (run : Run D) (more : List Entry) (after : Run D) : Type 0 where
      pub steps : AreRunSteps on by before run more after
      pub memory : (b : Bool) → EndsWithoutMemory b more

    none_begun : (before : List Entry) (run : Run D) (more : List Entry) (after : Run D) → (more ≡ []) × (after ≡ run) → HasBegun before run more after
    none_begun before run more after none = record {
      steps = none_steps before run more after none;
      memory = λ b. subst (EndsWithoutMemory b) (sym none.0) tt;
    }

    block_begun : (asks : List BlockAsk) (before : List Entry) (run : Run D) (more : List Entry) (after : Run D)
        → BlockBegins on by workers asks before run more after → HasBegun before run more after
    block_begun asks before run more after h =
        let acts = ignoring_acts by.members_block by.group h.at_rest.0.0 run.members h.rest h.at_rest.0.1 in
        let gave = ⊎_elim (λ short. short_gave on by workers asks (point before run h.rest) acts h.new short.0)
        (λ whole. block_gave on by workers asks (point before run h.rest) acts h.new whole.0) h.block in
        let same : gave.more ≡ more = append_cancel_left before gave.more more (sym gave.grown ∙ h.entries) in
        record { steps = h.steps; memory = λ b. subst (EndsWithoutMemory b) same (gave.memory b) }

    begins_begun : (block : BlockSoFar) (line : Line) (before : List Entry) (run : Run D) (more : List Entry) (after : Run D)
        → BeginsAt on by workers block line before run more after → HasBegun before run more after
    begins_begun None line before run more after h =
        record { steps = begun_steps line before run more after h; memory = through_memory line before [] run more after h }
    begins_begun (Some asks) End before run more after h = block_begun asks before run more after h
    begins_begun (Some asks) line before run more after h = none_begun before run more after h

    text_begun : (block : BlockSoFar) (text : List ℕ) (before : List Entry) (run : Run D) (more : List Entry) (after : Run D)
        → TextBegins on by workers block text before run more after → HasBegun before run more after
    text_begun block text before run more after (inl none) = none_begun before run more after none
    text_begun block text before run more after (inr goes) = begins_begun block goes.line before run more after goes.begins

  -- ---- histories

  -- a history, and nothing more was asked where memory ran out
  pub record HasRun (start : Run D) (entries : List Entry) (after : Run D) : Type 0 where
    pub history : IsHistory on by start entries after
    pub memory : EndsWithoutMemory false entries

  -- steps of which the first opened the group; memory did not run out
  pub record Begun (start : Run D) (entries : List Entry) (after : Run D) : Type 0 where
    pub entry : Entry
    pub others : List Entry
    pub parts : entries ≡ entry ∷ others
    pub opening : opens entry.asked ≡ true
    pub is_open : is_open entry.answer ≡ true
    pub memory : any_ran_out entries ≡ false
    pub steps : AreRunSteps on by [] start entries after

  -- more steps, and memory may run out in the last of them
  pub history_then : (start : Run D) (entries : List Entry) (middle : Run D) (more : List Entry) (after : Run D) → Begun start entries middle
      → AreRunSteps on by entries middle more after → ((b : Bool) → EndsWithoutMemory b more) → HasRun start (entries ++ more) after
  history_then start entries middle more after h steps memory = record {
    history = record {
      begins = subst (λ (entries : List Entry). BeginsWithOpening (entries ++ more)) (sym h.parts) (h.opening, inr h.is_open);
      steps = along_on (IsRunStep on by) [] entries more start middle after h.steps steps;
    };
    memory = ends_then false entries more h.memory (memory (in_block_all false entries));
  }

  pub history_of : (start : Run D) (entries : List Entry) (after : Run D) → Begun start entries after → HasRun start entries after
  history_of start entries after h =
      subst (λ (entries : List Entry). HasRun start entries after) (append-nil entries)
      (history_then start entries after [] after h refl (λ b. tt))

  begun_then : (start : Run D) (entries : List Entry) (middle : Run D) (more : List Entry) (after : Run D) → Begun start entries middle
      → AreRunSteps on by entries middle more after → any_ran_out more ≡ false → Begun start (entries ++ more) after
  begun_then start entries middle more after h steps memory = record {
    entry = h.entry;
    others = h.others ++ more;
    parts = ap (λ (entries : List Entry). entries ++ more) h.parts;
    opening = h.opening;
    is_open = h.is_open;
    memory = any_after entries more h.memory memory;
    steps = along_on (IsRunStep on by) [] entries more start middle after h.steps steps;
  }

  by_lines : (workers : ℕ) (start : Run D) (block : BlockSoFar) (before : List Entry) (run : Run D) (lines : List (List ℕ)) (last : BlockSoFar)
      (entries : List Entry) (after : Run D) → Begun start before run → LinesGive on by workers block before run lines last entries after
      → Begun start entries after
  by_lines workers start block before run [] last entries after h same =
      subst (λ (entries : List Entry). Begun start entries after) (sym same.1) (subst (Begun start before) (sym same.2) h)
  by_lines workers start block before run (line ∷ lines) last entries after h gives =
      let gave = gives.3 in
      by_lines workers start gives.0 (before ++ gives.1) gives.2 lines last entries after
      (begun_then start before run gives.1 gives.2 h (gives_steps workers block gave.line before run gives.1 gives.2 gave.gives)
      (gives_enough workers block gave.line before run gives.1 gives.2 gave.gives)) gives.4

  -- one entry, which answers an opening
  module _ (workers : ℕ) (request : Asked) (opening : opens request ≡ true) (start : Run D) where
    first_step : (entry : Entry) (after : Run D) → entry.asked ≡ request → IsAnsweredAfter on by start.members [] start entry after
        → IsRunStep on by [] start entry after
    first_step entry after asked h =
        record { acted = start.members; acts = (zero, refl); ready = opening_ready entry.asked start.members (ap opens asked ∙ opening); answered = h }

    first_history : (entries : List Entry) (after : Run D) → IsOpeningEntry on by request start entries after → HasRun start entries after
    first_history entries after h = subst (λ (entries : List Entry). HasRun start entries after) (sym h.alone) (record {
      history = record { begins = (ap opens h.asked ∙ opening, inl refl); steps = (after, first_step h.entry after h.asked h.step, refl) };
      memory = (inl refl, tt);
    })

    opened : (entries : List Entry) (after : Run D) → Opens on by request start entries after → Begun start entries after
    opened entries after h = record {
      entry = h.first.entry;
      others = [];
      parts = h.first.alone;
      opening = ap opens h.first.asked ∙ opening;
      is_open = h.is_open;
      memory = subst (λ (entries : List Entry). any_ran_out entries ≡ false) (sym h.first.alone) (or_from _ _ (open_ran h.first.entry.answer h.is_open) refl);
      steps = subst (λ (entries : List Entry). AreRunSteps on by [] start entries after) (sym h.first.alone)
          (after, first_step h.first.entry after h.first.asked h.first.step, refl);
    }

    pub run_begun : (lines : List (List ℕ)) (block : BlockSoFar) (entries : List Entry) (after : Run D)
        → IsRunOf on by workers request start lines block entries after → Begun start entries after
    run_begun lines block entries after h =
        by_lines workers start None h.opening h.opened lines block entries after (opened h.opening h.opened h.opens) h.gives

    none_history : (entries : List Entry) (after : Run D) → entries ≡ [] → after ≡ start → HasRun start entries after
    none_history entries after none same = subst (λ (entries : List Entry). HasRun start entries after) (sym none)
        (record { history = record { begins = tt; steps = same }; memory = tt })

    text_history : (block : BlockSoFar) (given : List Entry) (middle : Run D) (text : List ℕ) (more : List Entry) (after : Run D) → Begun start given middle
        → TextBegins on by workers block text given middle more after → HasRun start (given ++ more) after
    text_history block given middle text more after h begins =
        let begun = text_begun workers block text given middle more after begins in history_then start given middle more after h begun.steps begun.memory

    module _ (given : Given) where
      up_to : (done more : List Entry) (after : Run D) → IsUpTo on by workers given request start done more after → HasRun start (done ++ more) after
      up_to done more after (inl h) =
          subst (λ (done : List Entry). HasRun start (done ++ more) after) (sym h.nothing) (elim h.begins [
            | inl none ↦ none_history more after none.0 none.1
            | inr first ↦ first_history more after first
          ])
      up_to done more after (inr h) = text_history h.block done h.middle h.text more after (run_begun _ h.block done h.middle h.run) h.begins

      pub parts_history : (entries : List Entry) (after : Run D) → IsInParts on by workers given request start entries after → HasRun start entries after
      parts_history entries after h = subst (λ (entries : List Entry). HasRun start entries after) (sym h.parts) (up_to h.done h.more after h.up_to)

      whole : (lines : List (List ℕ)) (block : BlockSoFar) (entries : List Entry) (after : Run D)
          → IsRunOf on by workers request start lines block entries after → HasRun start entries after
      whole lines block entries after h = history_of start entries after (run_begun lines block entries after h)

      pub cause_history : (due : Ending) (entries : List Entry) (after : Run D) → CauseOf on by workers given request start due entries after
          → HasRun start entries after
      cause_history Whole entries after h = whole _ None entries after h.run
      cause_history NoGroup entries after h = absurd h
      cause_history (BadLine line) entries after (inl h) = whole _ h.block entries after h.run
      cause_history (BadLine line) entries after (inr h) = whole _ None entries after h.run
      cause_history Source entries after h = whole _ h.block entries after h.run
      cause_history Sink entries after h = absurd h
      cause_history Memory entries after (inl h) = elim h.begins [
        | inl none ↦ none_history entries after none.0 none.1
        | inr first ↦ first_history entries after first.0
      ]
      cause_history Memory entries after (inr h) =
          parts_history entries after (record { done = h.done; more = h.more; parts = h.parts; up_to = inr h.up_to })
      cause_history NotOpened entries after h = first_history entries after h.first
