-- What follows from how a soak was run.
use Rattle.std.proofs.Common.{◌≡◌, ℕ, false, List, [], refl, sym, subst, inl, inr, arith}
use Rattle.std.proofs.KnownBytes.{Consumes-nil}
use Rattle.std.proofs.lemmas.Bool.{false≢true}
use Rattle.command_words.specs.declared.commands.Command.{Command}
use Rattle.gd_edges.specs.Shown.{Shown}
use Rattle.group_terms.specs.Faults.{Rose}
use Rattle.group_model.specs.declared.entries.Asked.{Asked}
use Rattle.group_model.specs.declared.entries.Entry.{Entry}
use Rattle.group_steps.specs.Devices.{Devices, Keying}
use Rattle.group_steps.specs.Runs.{Run}
use Rattle.run_report.specs.Reports.{SummaryEnds}
use Rattle.run_report.specs.declared.endings.Ending.{Ending}
use Rattle.script_text.specs.Soak.{soak_script}
use Rattle.console_run.specs.Blocks.{AreLines}
use Rattle.console_run.specs.Causes.{CameFrom, Given}
use Rattle.console_run.specs.Promises.{EndsSoak, PromisesSoak, no_report, request_of, soak_source, start_of, streams_of}
use Rattle.console_run.specs.Scripts.{script_lines}
use Rattle.console_run.specs.Private.Follows.{RunsKeepPromises, RunsScript, RunsSoak}
use Rattle.console_run.proofs.PromiseLemmas.{ran_to_end}

-- nothing was taken from a source
abbrev pub nothing : Given
nothing = record { taken = []; ended = false }

pub nothing_came : (had : Shown) → CameFrom had.octets had.octets nothing
nothing_came had = record { consumed = Consumes-nil had.octets; octets = refl; whole = λ ended. absurd (false≢true ended) }

none_rose : (faults : ℕ) → faults ≡ 0 → Rose 0 faults → ⊥
none_rose faults none (inl more) = omega (arith, more, none)
none_rose faults none (inr most) = omega (arith, most, none)

module _ {D G V : Type 0} (on : Devices D G V) (by : Keying G) (keeps : RunsKeepPromises on by) where
  pub soak_promises : (number : ℕ) (command : Command) (place members_place : ℕ) (had was now : Shown) (ending : Ending) (entries : List Entry) (old new : D)
      → AreLines (script_lines (soak_script number))
      → RunsSoak on by command.workers number (request_of command.opening) (start_of command old place members_place) was now ending entries new
      → PromisesSoak on by number (streams_of nothing had had was now) command place members_place ending entries old new
  soak_promises number command place members_place had was now ending entries old new lines h =
      let ran = h.runs in
      let inner = streams_of ran.given (soak_source number) h.left no_report no_report in record {
        none_taken = refl;
        source = refl;
        given = ran.given;
        left = h.left;
        came = ran.came;
        due = h.due;
        ends = elim (ran_to_end on by inner command place members_place old entries ran.after ran.came lines (none_rose h.left.faults h.no_fault)
            (none_rose 0 refl) h.due ran.run) [
              | inl either ↦ elim either [
                | inl whole ↦ subst EndsSoak (sym whole) tt
                | inr memory ↦ subst EndsSoak (sym memory) tt
              ]
              | inr unopened ↦ subst EndsSoak (sym unopened.0) tt
            ];
        run = keeps command place members_place (soak_source number) h.left no_report no_report h.due entries old new ran;
        last = h.last;
      }

-- a run of its script, and what came of the summary
pub as_ended : {D G V : Type 0} (on : Devices D G V) (by : Keying G) (workers number : ℕ) (request : Asked) (start : Run D) (was now left : Shown)
    → left.faults ≡ 0 → (due ending : Ending) (history entries : List Entry) → entries ≡ history → (disk last : D) → last ≡ disk
    → RunsScript on by workers request start (soak_source number) left no_report no_report due history disk → SummaryEnds number history due ending was now
    → RunsSoak on by workers number request start was now ending entries last
as_ended on by workers number request start was now left no_fault due ending history entries same disk last kept ran ends = record {
  left = left;
  no_fault = no_fault;
  due = due;
  runs = subst (λ entries. RunsScript on by workers request start (soak_source number) left no_report no_report due entries last) (sym same)
      (subst (λ disk. RunsScript on by workers request start (soak_source number) left no_report no_report due history disk) (sym kept) ran);
  last = subst (λ entries. SummaryEnds number entries due ending was now) (sym same) ends;
}
