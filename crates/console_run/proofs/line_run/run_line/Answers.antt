use Rattle.std.proofs.Common.{◌≡◌, ◌+◌, ◌≤◌, List, [], ◌∷◌, true, false, Ok, Err, Result, length, length-append, refl, sym, ap, subst, ◌∙◌, arith}
use Rattle.std.specs.Prelude.{OnErr, OnOk}
use Rattle.std.proofs.lemmas.Result.{IfErr-at_err, IfOk-at_ok}
use Rattle.group_terms.specs.declared.memory.NoMemory.{NoMemory}
use Rattle.group_terms.specs.declared.patterns.Rule.{Rule}
use Rattle.group_model.specs.declared.entries.Answer.{Answer}
use Rattle.group_model.specs.declared.entries.Answer.TheVariants.{RuleNumber}
use Rattle.group_model.specs.declared.entries.Asked.TheVariants as requests
use Rattle.group_run.specs.Stays.{AddsRule, MailStays, RulesStay, TakesRule}
use Rattle.group_run.specs.Views.{View}
use Rattle.script_text.specs.declared.lines.Line.TheVariants as lines
use Rattle.run_report.specs.declared.stops.Stop.TheVariants.{Memory}
use Rattle.group_steps.specs.Devices.{devices}
use Rattle.console_run.specs.Private.Runs.{Runs, by_line, drawn_by}
use Rattle.console_run.proofs.AskLemmas.{AsksOnce, Ends-once, MovesBy, Runs-nothing, Stops-unbegun, asked_once}
use Rattle.run_report.proofs.ErrorLemmas.{match_error}
use Rattle.console_run.proofs.line_run.run_line.Given.{Over}
use Rattle.console_run.proofs.line_run.run_line.Goals as goal
use Rattle.console_run.proofs.line_run.run_line.Goals.{After-report_last, in-Allow, in-Deny, in-Lose, in-Leave, in-Deliver, in-Key, in-Derive, in-Halt, in-Reopen, in-Show, in-Now}

pub returns-in-Nothing-clause-runs : goal.returns-in-Nothing-clause-runs
returns-in-Nothing-clause-runs g c =
    let held = c.args.group.now in
    let seen = g.K.Sink.shows c.args.out.now in
    let on = devices g.D.Disk g.G.Signer g.V.Verifier c.args.verifier.now in
    let peers = drawn_by g.P.Draws c.args.peers.now in
    subst (λ line. Runs g.D.Disk g.R.Draws peers (by_line on line) held held seen seen) (sym c.in-Nothing.is)
    (Runs-nothing on g.R.Draws peers held seen lines.Nothing (λ run members. refl) c.requires.rest)

pub returns-in-Together-clause-runs : goal.returns-in-Together-clause-runs
returns-in-Together-clause-runs g c =
    let held = c.args.group.now in
    let seen = g.K.Sink.shows c.args.out.now in
    let on = devices g.D.Disk g.G.Signer g.V.Verifier c.args.verifier.now in
    let peers = drawn_by g.P.Draws c.args.peers.now in
    subst (λ line. Runs g.D.Disk g.R.Draws peers (by_line on line) held held seen seen) (sym c.in-Together.is)
    (Runs-nothing on g.R.Draws peers held seen lines.Together (λ run members. refl) c.requires.rest)

pub returns-in-End-clause-runs : goal.returns-in-End-clause-runs
returns-in-End-clause-runs g c =
    let held = c.args.group.now in
    let seen = g.K.Sink.shows c.args.out.now in
    let on = devices g.D.Disk g.G.Signer g.V.Verifier c.args.verifier.now in
    let peers = drawn_by g.P.Draws c.args.peers.now in
    subst (λ line. Runs g.D.Disk g.R.Draws peers (by_line on line) held held seen seen) (sym c.in-End.is)
    (Runs-nothing on g.R.Draws peers held seen lines.End (λ run members. refl) c.requires.rest)

-- a call that was out of memory left all as it was
unchanged : {T E H : Type 0} (old new held : H) (call : Result T E) (error : E) → new ≡ held → call ≡ Err error → OnErr call (held ≡ old) → new ≡ old
unchanged old new held call error same failed stays = same ∙ IfErr-at_err (λ _. held ≡ old) failed stays

pub returns-in_err-asked-clause-runs : goal.returns-in_err-asked-clause-runs
returns-in_err-asked-clause-runs g c =
    let old = c.args.group.now in
    let new = c.match-line.group in
    let e = c.in_err-asked.field-0.0 in
    let was = c.in_err-asked.was in
    let same : new ≡ old = elim c.match-line.branch [
      | in-Allow w ↦ unchanged old new w.add_rule-asked.new.self w.add_rule-asked.result e w.group-is (sym w.asked-is ∙ was) w.add_rule-asked.ensures.err
      | in-Deny w ↦ unchanged old new w.add_rule-asked-in-Deny.new.self w.add_rule-asked-in-Deny.result e w.group-is (sym w.asked-is ∙ was)
          w.add_rule-asked-in-Deny.ensures.err
      | in-Lose w ↦ unchanged old new w.lose-asked.new.self w.lose-asked.result e w.group-is (sym w.asked-is ∙ was) w.lose-asked.ensures.err
      | in-Leave w ↦ unchanged old new w.leave-asked.new.self w.leave-asked.result e w.group-is (sym w.asked-is ∙ was) w.leave-asked.ensures.err
      | in-Deliver w ↦ unchanged old new w.deliver-asked.new.self w.deliver-asked.result e w.group-is (sym w.asked-is ∙ was) w.deliver-asked.ensures.err
      | in-Key w ↦ unchanged old new w.key-asked.new.self w.key-asked.result e w.group-is (sym w.asked-is ∙ was) w.key-asked.ensures.err
      | in-Derive w ↦ unchanged old new w.derive-asked.new.self w.derive-asked.result e w.group-is (sym w.asked-is ∙ was) w.derive-asked.ensures.err
      | in-Halt w ↦ unchanged old new w.halt-asked.new.self w.halt-asked.result e w.group-is (sym w.asked-is ∙ was) w.halt-asked.ensures.err
      | in-Reopen w ↦ unchanged old new w.reopen-asked.new.self w.reopen-asked.result e w.group-is (sym w.asked-is ∙ was) w.reopen-asked.ensures.err
      | in-Show w ↦ unchanged old new w.show-asked.new.self w.show-asked.result e w.group-is (sym w.asked-is ∙ was) w.show-asked.ensures.err
      | in-Now w ↦ unchanged old new w.look-asked.new.self w.look-asked.result e w.group-is (sym w.asked-is ∙ was) w.look-asked.ensures.err
    ] in
    match_error _ _ _ Memory c.from_residual.ensures.1
    (Stops-unbegun (devices g.D.Disk g.G.Signer g.V.Verifier c.args.verifier.now) g.R.Draws (drawn_by g.P.Draws c.args.peers.now) c.args.line old new
    (g.K.Sink.shows c.args.out.now) (ap (λ held. held.server) same) (ap (λ held. held.entries) same))

-- ---- what stays

record IsKeptOn {D G R : Type 0} (old new : View D G R) : Type 0 where
  rules : length new.server.rules ≤ length old.server.rules + 1
  place : new.members.place ≡ old.members.place
  rest : old.members.mail ≡ [] → new.members.mail ≡ []

-- at most one more
taken_few : (answer : Answer) (rule : Rule) (old new : List Rule) → TakesRule answer rule old new → length new ≤ length old + 1
taken_few (RuleNumber number) rule old new taken = omega (arith, ap length taken.1, length-append old (rule ∷ []))
taken_few answer rule old new taken = omega (arith, ap length taken.1)

OnOk-holds : {T E : Type 0} {P : Type 0} (call : Result T E) → P → OnOk call P
OnOk-holds (Ok t) h = h
OnOk-holds (Err e) h = tt

module _ {D G R : Type 0} (old new held : View D G R) (same : new ≡ held) (call : Result Unit NoMemory) (u : Unit {0}) (ok : call ≡ Ok u) where
  kept_on : IsKeptOn old held → IsKeptOn old new
  kept_on kept = subst (IsKeptOn old) (sym same) kept

  by_mail : OnOk call (MailStays old held) → IsKeptOn old new
  by_mail stays =
      let h = IfOk-at_ok (λ _. MailStays old held) ok stays in
      kept_on (record { rules = omega (arith, ap length h.rules_stay.rules); place = h.rules_stay.place; rest = λ none. h.mail ∙ none })

  by_opening : OnOk call (RulesStay old held) → OnOk call (held.members.mail ≡ []) → IsKeptOn old new
  by_opening stays rest =
      let h = IfOk-at_ok (λ _. RulesStay old held) ok stays in
      kept_on (record { rules = omega (arith, ap length h.rules); place = h.place; rest = λ none. IfOk-at_ok (λ _. held.members.mail ≡ []) ok rest })

  by_rule : (rule : Rule) → OnOk call (AddsRule rule old held) → OnOk call (held.members ≡ old.members) → IsKeptOn old new
  by_rule rule rules members =
      let h = IfOk-at_ok (λ _. held.members ≡ old.members) ok members in
      let adds = IfOk-at_ok (λ _. AddsRule rule old held) ok rules in
      kept_on (record {
        rules = taken_few adds.entry.answer rule old.server.rules held.server.rules adds.takes;
        place = ap (λ members. members.place) h;
        rest = λ none. ap (λ members. members.mail) h ∙ none;
      })

-- a line that asks once leaves at most one rule more, the place of the draws, and nothing on its way
kept_once : (g : Over) (c : After-report_last g) → IsKeptOn c.args.group.now c.match-line.group
kept_once g c =
    let old = c.args.group.now in
    let new = c.match-line.group in
    let u = c.in_ok-asked.field-0 in
    let ok = c.in_ok-asked.was in
    elim c.match-line.branch [
      | in-Allow w ↦ by_rule old new w.add_rule-asked.new.self w.group-is w.add_rule-asked.result u (sym w.asked-is ∙ ok) _ w.add_rule-asked.ensures.rules
          w.add_rule-asked.ensures.members
      | in-Deny w ↦ by_rule old new w.add_rule-asked-in-Deny.new.self w.group-is w.add_rule-asked-in-Deny.result u (sym w.asked-is ∙ ok) _
          w.add_rule-asked-in-Deny.ensures.rules w.add_rule-asked-in-Deny.ensures.members
      | in-Lose w ↦ by_mail old new w.lose-asked.new.self w.group-is w.lose-asked.result u (sym w.asked-is ∙ ok) w.lose-asked.ensures.stays
      | in-Leave w ↦ by_mail old new w.leave-asked.new.self w.group-is w.leave-asked.result u (sym w.asked-is ∙ ok) w.leave-asked.ensures.stays
      | in-Deliver w ↦ by_mail old new w.deliver-asked.new.self w.group-is w.deliver-asked.result u (sym w.asked-is ∙ ok) w.deliver-asked.ensures.stays
      | in-Key w ↦ by_mail old new w.key-asked.new.self w.group-is w.key-asked.result u (sym w.asked-is ∙ ok) w.key-asked.ensures.stays
      | in-Derive w ↦ by_mail old new w.derive-asked.new.self w.group-is w.derive-asked.result u (sym w.asked-is ∙ ok) w.derive-asked.ensures.stays
      | in-Halt w ↦ by_mail old new w.halt-asked.new.self w.group-is w.halt-asked.result u (sym w.asked-is ∙ ok) w.halt-asked.ensures.stays
      | in-Reopen w ↦ by_opening old new w.reopen-asked.new.self w.group-is w.reopen-asked.result u (sym w.asked-is ∙ ok) w.reopen-asked.ensures.stays
          w.reopen-asked.ensures.rest
      | in-Show w ↦ by_mail old new w.show-asked.new.self w.group-is w.show-asked.result u (sym w.asked-is ∙ ok) w.show-asked.ensures.stays
      | in-Now w ↦ by_mail old new w.look-asked.new.self w.group-is w.look-asked.result u (sym w.asked-is ∙ ok) w.look-asked.ensures.stays
    ]

pub returns-clause-place : goal.returns-clause-place
returns-clause-place g c =
    let kept = kept_once g (goal.at.returns-clause-place g c).After-report_last in OnOk-holds c.report_last.result (c.requires.place ∙ sym kept.place)

pub returns-clause-rules : goal.returns-clause-rules
returns-clause-rules g c = OnOk-holds c.report_last.result (kept_once g (goal.at.returns-clause-rules g c).After-report_last).rules

pub returns-clause-rest : goal.returns-clause-rest
returns-clause-rest g c =
    let kept = kept_once g (goal.at.returns-clause-rest g c).After-report_last in OnOk-holds c.report_last.result (kept.rest c.requires.rest)

pub returns-clause-runs : goal.returns-clause-runs
returns-clause-runs g c =
    let on = devices g.D.Disk g.G.Signer g.V.Verifier c.args.verifier.now in
    let peers = drawn_by g.P.Draws c.args.peers.now in
    let old = c.args.group.now in
    let new = c.match-line.group in
    let line = c.args.line in
    let was = g.K.Sink.shows c.args.out.now in
    let now = g.K.Sink.shows c.report_last.new.out in
    let u = c.in_ok-asked.field-0 in
    let ok = c.in_ok-asked.was in
    let asks : AsksOnce on g.R.Draws peers old new line = elim c.match-line.branch [
      | in-Allow w ↦
          asked_once on g.R.Draws peers old new line (lines.Allow w.in-Allow.pattern) w.in-Allow.is
          (requests.AddRule (record { allow = true; pattern = w.in-Allow.pattern })) (λ run members. refl) (λ run so_far last. refl)
          w.add_rule-asked.new.self w.group-is w.add_rule-asked.result u (sym w.asked-is ∙ ok)
          (subst (λ rule. OnOk w.add_rule-asked.result (MovesBy on g.R.Draws peers old w.add_rule-asked.new.self old.members (requests.AddRule rule)))
          w.rule.ensures w.add_rule-asked.ensures.ok)
      | in-Deny w ↦
          asked_once on g.R.Draws peers old new line (lines.Deny w.in-Deny.pattern) w.in-Deny.is
          (requests.AddRule (record { allow = false; pattern = w.in-Deny.pattern })) (λ run members. refl) (λ run so_far last. refl)
          w.add_rule-asked-in-Deny.new.self w.group-is w.add_rule-asked-in-Deny.result u (sym w.asked-is ∙ ok)
          (subst (λ rule. OnOk w.add_rule-asked-in-Deny.result
          (MovesBy on g.R.Draws peers old w.add_rule-asked-in-Deny.new.self old.members (requests.AddRule rule))) w.rule-in-Deny.ensures
          w.add_rule-asked-in-Deny.ensures.ok)
      | in-Lose w ↦
          asked_once on g.R.Draws peers old new line (lines.Lose w.in-Lose.member) w.in-Lose.is (requests.Lose w.in-Lose.member) (λ run members. refl)
          (λ run so_far last. refl) w.lose-asked.new.self w.group-is w.lose-asked.result u (sym w.asked-is ∙ ok) w.lose-asked.ensures.ok
      | in-Leave w ↦
          asked_once on g.R.Draws peers old new line (lines.Leave w.in-Leave.member) w.in-Leave.is (requests.Leave w.in-Leave.member) (λ run members. refl)
          (λ run so_far last. refl) w.leave-asked.new.self w.group-is w.leave-asked.result u (sym w.asked-is ∙ ok) w.leave-asked.ensures.ok
      | in-Deliver w ↦
          asked_once on g.R.Draws peers old new line (lines.Deliver w.in-Deliver.member w.in-Deliver.sequence) w.in-Deliver.is
          (requests.Deliver w.in-Deliver.member w.in-Deliver.sequence) (λ run members. refl)
          (λ run so_far last. refl) w.deliver-asked.new.self w.group-is w.deliver-asked.result u (sym w.asked-is ∙ ok) w.deliver-asked.ensures.ok
      | in-Key w ↦
          asked_once on g.R.Draws peers old new line (lines.Key w.in-Key.member) w.in-Key.is (requests.Key w.in-Key.member) (λ run members. refl)
          (λ run so_far last. refl) w.key-asked.new.self w.group-is w.key-asked.result u (sym w.asked-is ∙ ok) w.key-asked.ensures.ok
      | in-Derive w ↦
          asked_once on g.R.Draws peers old new line (lines.Derive w.in-Derive.epoch w.in-Derive.members) w.in-Derive.is
          (requests.Derive w.in-Derive.epoch w.in-Derive.members) (λ run members. refl)
          (λ run so_far last. refl) w.derive-asked.new.self w.group-is w.derive-asked.result u (sym w.asked-is ∙ ok) w.derive-asked.ensures.ok
      | in-Halt w ↦
          asked_once on g.R.Draws peers old new line lines.Halt w.in-Halt.is requests.Halt (λ run members. refl)
          (λ run so_far last. refl) w.halt-asked.new.self w.group-is w.halt-asked.result u (sym w.asked-is ∙ ok) w.halt-asked.ensures.ok
      | in-Reopen w ↦
          asked_once on g.R.Draws peers old new line lines.Reopen w.in-Reopen.is requests.Reopen (λ run members. refl)
          (λ run so_far last. refl) w.reopen-asked.new.self w.group-is w.reopen-asked.result u (sym w.asked-is ∙ ok) w.reopen-asked.ensures.ok
      | in-Show w ↦
          asked_once on g.R.Draws peers old new line lines.Show w.in-Show.is requests.Show (λ run members. refl)
          (λ run so_far last. refl) w.show-asked.new.self w.group-is w.show-asked.result u (sym w.asked-is ∙ ok) w.show-asked.ensures.ok
      | in-Now w ↦
          asked_once on g.R.Draws peers old new line lines.Now w.in-Now.is requests.Now (λ run members. refl)
          (λ run so_far last. refl) w.look-asked.new.self w.group-is w.look-asked.result u (sym w.asked-is ∙ ok) w.look-asked.ensures.ok
    ] in
    Ends-once on g.R.Draws peers old new was now line c.requires.rest asks c.report_last.result c.report_last.ensures.ok c.report_last.ensures.breaks
