use Rattle.std.proofs.Common.{refl, ap, ◌∙◌}
use Rattle.std.proofs.lemmas.Bool.{MatchBool-at_false, MatchBool-at_true}
use Rattle.run_report.specs.declared.stops.Stop.TheVariants.{Memory}
use Rattle.group_steps.specs.Devices.{devices}
use Rattle.run_report.proofs.ErrorLemmas.{match_error}
use Rattle.console_run.proofs.MailLemmas.{all_read, next_read, read_next, reading_begins, stopped_reading, unread}
use Rattle.console_run.proofs.line_run.read_mail.Goals as goal

pub mail-init : goal.mail-init
mail-init g c = record {
  reading = λ peers. reading_begins (devices g.D.Disk g.G.Signer g.V.Verifier c.args.verifier.now) g.R.Draws peers c.args.group.now
      (g.K.Sink.shows c.args.out.now);
  stays = record { rules = refl; place = refl };
}

pub returns-in_err-read_next-clause-runs : goal.returns-in_err-read_next-clause-runs
returns-in_err-read_next-clause-runs g c peers =
    match_error _ _ _ Memory c.from_residual.ensures.1
    (unread (devices g.D.Disk g.G.Signer g.V.Verifier c.args.verifier.now) g.R.Draws peers c.args.group.now c.mail.group c.read_next.new.self
    (g.K.Sink.shows c.args.out.now) (g.K.Sink.shows c.mail.out) (g.K.Sink.shows c.mail.out) (c.mail.invariant.reading peers) c.in_err-read_next.ensures.err)

pub returns-in_err-report_last-clause-runs : goal.returns-in_err-report_last-clause-runs
returns-in_err-report_last-clause-runs g c peers =
    let on = devices g.D.Disk g.G.Signer g.V.Verifier c.args.verifier.now in
    match_error _ _ _ c.in_err-report_last.field-0.0 c.from_residual-in_err-report_last.ensures.1
    (stopped_reading on g.R.Draws peers c.args.group.now c.mail.group c.read_next.new.self (g.K.Sink.shows c.args.out.now) (g.K.Sink.shows c.mail.out)
    (g.K.Sink.shows c.report_last.new.out) (c.mail.invariant.reading peers)
    (next_read on g.R.Draws peers c.mail.group c.read_next.new.self (MatchBool-at_true _ _ c.if-branch.true c.in_ok-read_next.ensures.ok))
    c.in_err-report_last.field-0.0 c.in_err-report_last.ensures.breaks)

pub mail-preserved : goal.mail-preserved
mail-preserved g c =
    let on = devices g.D.Disk g.G.Signer g.V.Verifier c.args.verifier.now in
    record {
      reading = λ peers.
          read_next on g.R.Draws peers c.args.group.now c.mail.group c.read_next.new.self (g.K.Sink.shows c.args.out.now) (g.K.Sink.shows c.mail.out)
          (g.K.Sink.shows c.report_last.new.out) (c.mail.invariant.reading peers)
          (next_read on g.R.Draws peers c.mail.group c.read_next.new.self (MatchBool-at_true _ _ c.if-branch.true c.in_ok-read_next.ensures.ok))
          c.in_ok-report_last.ensures.ok;
      stays = record {
        rules = c.in_ok-read_next.ensures.stays.rules ∙ c.mail.invariant.stays.rules;
        place = c.in_ok-read_next.ensures.stays.place ∙ c.mail.invariant.stays.place;
      };
    }

pub mail-smaller : goal.mail-smaller
mail-smaller g c = c.in_ok-read_next.ensures.nearer c.if-branch.true

pub returns-clause-runs : goal.returns-clause-runs
returns-clause-runs g c peers =
    all_read (devices g.D.Disk g.G.Signer g.V.Verifier c.args.verifier.now) g.R.Draws peers c.args.group.now c.mail.group c.read_next.new.self
    (g.K.Sink.shows c.args.out.now) (g.K.Sink.shows c.mail.out) (g.K.Sink.shows c.mail.out) (c.mail.invariant.reading peers)
    (MatchBool-at_false _ _ c.if-branch.false c.in_ok-read_next.ensures.ok)

pub returns-clause-stays : goal.returns-clause-stays
returns-clause-stays g c = record {
  rules = c.in_ok-read_next.ensures.stays.rules ∙ c.mail.invariant.stays.rules;
  place = c.in_ok-read_next.ensures.stays.place ∙ c.mail.invariant.stays.place;
}

pub returns-clause-rest : goal.returns-clause-rest
returns-clause-rest g c =
    let all = MatchBool-at_false _ _ c.if-branch.false c.in_ok-read_next.ensures.ok in
    ap (λ held. held.members.mail) all.now ∙ all.at_rest.1
