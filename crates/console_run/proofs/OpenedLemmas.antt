-- How the opening of a group is one of a run.
use Rattle.std.proofs.Common.{◌≡◌, ◌∙◌, ◌⊎◌, ℕ, List, [], refl, sym, ap, subst, inl, inr}
use Rattle.std.specs.Prelude.{IfErr, IfOk, Result, Ok, Err}
use Rattle.command_words.specs.declared.commands.Opening.{Opening}
use Rattle.command_words.specs.declared.commands.Opening.TheVariants.{New, Open, Soak}
use Rattle.gd_edges.specs.Shown.{Shown}
use Rattle.gd_edges.specs.declared.draws.Draws.{Ghosts as DrawGhosts}
use Rattle.group_terms.specs.Names.{Name}
use Rattle.group_model.specs.Answers.{is_open}
use Rattle.group_model.specs.declared.entries.Answer.{Answer}
use Rattle.group_model.specs.declared.entries.Answer.TheVariants.{Refused}
use Rattle.group_model.specs.declared.entries.Entry.{Entry}
use Rattle.group_model.specs.declared.entries.Outside.{Outside}
use Rattle.group_model.specs.declared.entries.Refusal.{Refusal}
use Rattle.group_model.specs.declared.entries.Refusal.TheVariants.{NoMemory}
use Rattle.group_run.specs.Openings.{FailsToOpen, Opens as OpensAs}
use Rattle.group_run.specs.Views.{View}
use Rattle.server_steps.specs.Hosts.{Host}
use Rattle.server_steps.specs.Openings.{IsCreation}
use Rattle.group_steps.specs.Runs.{Run}
use Rattle.group_steps.specs.Steps.{IsAnswered, IsAnsweredAfter, IsOpening, IsStepBy}
use Rattle.run_report.specs.declared.endings.Ending.{Ending}
use Rattle.console_run.specs.Causes.{CannotOpen}
use Rattle.group_steps.specs.Devices.{Devices, Keying}
use Rattle.console_run.specs.Promises.{request_of, soak_depth}
use Rattle.console_run.specs.Private.Follows.{IsOpened, RunsScript}
use Rattle.console_run.specs.Private.Openings.{step_of}
use Rattle.console_run.specs.Private.Runs.{Drawing}
use Rattle.console_run.specs.Names.{console_name}
use Rattle.run_report.specs.Ends.{UnopenedEnds}
use Rattle.console_run.proofs.EndingLemmas.{ran_out_at_once, refused}

-- an opening is alike for every name and every limit, as it fails too
pub opens_for : {T E : Type 0} (P : Name → ℕ → T → Type 0) (result : Result T E) (name : Name) (limit : ℕ)
    → IfOk result (λ value. (name : Name) (limit : ℕ) → P name limit value) → IfOk result (P name limit)
opens_for P (Ok value) name limit h = h name limit
opens_for P (Err error) name limit h = h

pub fails_for : {T E : Type 0} (P : E → Name → ℕ → Type 0) (result : Result T E) (name : Name) (limit : ℕ)
    → IfErr result (λ error. (name : Name) (limit : ℕ) → P error name limit) → IfErr result (λ error. P error name limit)
fails_for P (Ok value) name limit h = h
fails_for P (Err error) name limit h = h name limit

module _ {D G V : Type 0} (on : Devices D G V) (by : Keying G) where
  -- the step of an opening, as a request
  pub opening_step : (opening : Opening) (start : Run D) (entry : Entry) (after : Run D) → entry.asked ≡ request_of opening
      → IsStepBy on.disks (IsOpening [] (step_of on.disks on.signers by.signer by.block opening)) start entry after
      → IsAnsweredAfter on by start.members [] start entry after
  opening_step opening start entry after asked h = record {
    answered = subst
        (λ asked. IsAnswered on by [] asked start entry.answer entry.outside after) (sym asked)
        (answered opening start entry.answer entry.outside after h.answered);
    keeps = h.keeps;
    counts = h.counts;
  }
    where
      answered : (opening : Opening) (start : Run D) (answer : Answer) (outside : Outside) (after : Run D)
          → IsOpening [] (step_of on.disks on.signers by.signer by.block opening) start answer outside after
          → IsAnswered on by [] (request_of opening) start answer outside after
      answered (New depth) start answer outside after h = h
      answered (Soak number) start answer outside after h = h
      answered Open start answer outside after h = h

  -- why the making of a group is refused
  why_not_made : (depth : ℕ) (start : Host D) (answer : Answer) (outside : Outside) (after : Host D) (why : Refusal) → answer ≡ Refused why
      → IsCreation on.disks by.block depth start answer outside after → (why ≡ NoMemory) ⊎ CannotOpen why
  why_not_made depth start answer outside after why refused h = elim h.ends [
    | inl makes ↦ cc (makes.answers, refused)
    | inr fails ↦ elim fails.causes [
      | inl fault ↦ inr (inl (cc (fault, fails.answers, refused)))
      | inr memory ↦ inl (cc (memory.0, fails.answers, refused))
    ]
  ]

  -- why an opening is refused
  why_refused : (opening : Opening) (start : Host D) (answer : Answer) (outside : Outside) (after : Host D) (why : Refusal) → answer ≡ Refused why
      → step_of on.disks on.signers by.signer by.block opening start answer outside after → (why ≡ NoMemory) ⊎ CannotOpen why
  why_refused (New depth) start answer outside after why refused h = why_not_made depth start answer outside after why refused h
  why_refused (Soak number) start answer outside after why refused h = why_not_made soak_depth start answer outside after why refused h
  why_refused Open start answer outside after why refused h = elim h.ends [
    | inl begins ↦ cc (begins.finds.answers, refused)
    | inr fails ↦ elim fails.causes [
      | inl fault ↦ inr (inl (cc (fault, fails.answers, refused)))
      | inr more ↦ elim more [
        | inl memory ↦ inl (cc (memory, fails.answers, refused))
        | inr none ↦ inr (inr (none.0, cc (none.1, fails.answers, refused)))
      ]
    ]
  ]

  -- a run that opened no group
  pub unopened_runs : (workers : ℕ) (opening : Opening) (start : Run D) (had was now : Shown) (ending : Ending) (history entries : List Entry) (disk left : D)
      → FailsToOpen on.disks (step_of on.disks on.signers by.signer by.block opening) (request_of opening) start history disk → entries ≡ history → left ≡ disk
      → UnopenedEnds history ending was now → RunsScript on by workers (request_of opening) start had had was now ending entries left
  unopened_runs workers opening start had was now ending history entries disk left (inl h) same kept ends =
      refused on by workers (request_of opening) start had was now ending entries h.after left (h.left ∙ sym kept)
      (record { entry = h.entry; alone = same ∙ h.alone; asked = h.asked; step = opening_step opening start h.entry h.after h.asked h.stepped })
      h.why h.refused (why_refused opening start.host h.entry.answer h.entry.outside h.after.host h.why h.refused h.stepped.answered.opens)
      (subst (λ history. UnopenedEnds history ending was now) h.alone ends)
  unopened_runs workers opening start had was now ending history entries disk left (inr h) same kept ends =
      ran_out_at_once on by workers (request_of opening) start had was now ending entries start left (sym (kept ∙ h.left))
      (subst (λ history. UnopenedEnds history ending was now) h.nothing ends) (same ∙ h.nothing) refl

-- a group that was opened as a command asks
module _ {D G V R : Type 0} (on : Devices D G V) (draws : DrawGhosts R) (peers : Drawing) (by : Keying G) where
  pub is_opened : (opening : Opening) (start : Run D) (was : Shown) (held : View D G R)
      → OpensAs on.disks draws (step_of on.disks on.signers by.signer by.block opening) (request_of opening) start held → held.server.core.signer ≡ by.signer
      → ((k : ℕ) → draws.block_at held.server.core.draws k ≡ by.block k) → ((k : ℕ) → peers.block k ≡ by.members_block k) → by.group ≡ console_name
      → peers.place ≡ held.members.place → held.members.mail ≡ [] → held.server.rules ≡ []
      → IsOpened on draws peers (record { request = request_of opening; run = start; by = by; was = was }) held
  is_opened opening start was held h signer blocks members_blocks group place rest no_rules = record {
    opened = h.after;
    opens = record {
      first = record { entry = h.entry; alone = h.alone; asked = h.asked; step = opening_step on by opening start h.entry h.after h.asked h.stepped };
      is_open = ap is_open h.is_open;
    };
    place = place;
    rest = rest;
    no_rules = no_rules;
    stands = record { reflects = h.reflects; signer = signer; blocks = blocks; members_blocks = members_blocks; group = group };
  }
