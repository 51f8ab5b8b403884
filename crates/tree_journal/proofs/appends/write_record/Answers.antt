use Rattle.std.proofs.Common.{◌≡◌, ◌∙◌, ℕ, List, Some, sym, ap, subst, arith}
use Rattle.gd_disk.specs.Disks.{Only}
use Rattle.gd_disk.specs.MomentLaws.{weaker}
use Rattle.tree_journal.specs.Crashes.{IsBeforeOrAfter}
use Rattle.tree_journal.specs.Records.{AreRecordsFrom, IsRecordAt, bodies_from}
use Rattle.journal_gates.proofs.AnswerLemmas.{on_err}
use Rattle.tree_journal.proofs.AppendLemmas.{ready, after_all, new_file, new_bodies, in_file}
use Rattle.tree_journal.proofs.AppendStands.{new_stands}
use Rattle.tree_journal.proofs.appends.write_record.Goals as goal

pub write_gated-requires-clause-there : goal.write_gated-requires-clause-there
write_gated-requires-clause-there g c file is =
    let made = ready file c.args.gate c.args.body.now c.requires.few (c.requires.last file is) in
    omega (arith, in_file file c.args.gate c.args.body.now made)

pub returns-in_err-write_gated-clause-any_moment : goal.returns-in_err-write_gated-clause-any_moment
returns-in_err-write_gated-clause-any_moment g c bodies opens =
    let made = ready opens.0 c.args.gate c.args.body.now c.requires.few (c.requires.last opens.0 opens.1) in
    let moments = c.write_gated.ensures.any_moment made.front made.shut made.behind (record { text = opens.1 ∙ ap Some made.text; place = made.place })
    (subst (λ (file : List ℕ). Only file (g.D.Disk.may_leave c.args.disk.now)) made.text (c.requires.durable opens.0 opens.1)) in
    weaker g.D.Disk c.args.disk.now c.write_gated.new.disk _ (IsBeforeOrAfter bodies c.args.body.now)
    (after_all opens.0 c.args.gate c.args.body.now made _ c.put_together.ensures.text bodies opens.2) moments

pub returns-in_err-write_gated-clause-in_doubt : goal.returns-in_err-write_gated-clause-in_doubt
returns-in_err-write_gated-clause-in_doubt g c bodies opens =
    let made = ready opens.0 c.args.gate c.args.body.now c.requires.few (c.requires.last opens.0 opens.1) in
    let doubt = c.in_err-write_gated.ensures.in_doubt made.front made.shut made.behind (record { text = opens.1 ∙ ap Some made.text; place = made.place }) in
    on_err c.from_residual.result (λ file is.
    after_all opens.0 c.args.gate c.args.body.now made _ c.put_together.ensures.text bodies opens.2 file (doubt file is))

pub returns-clause-any_moment : goal.returns-clause-any_moment
returns-clause-any_moment g c bodies opens =
    let made = ready opens.0 c.args.gate c.args.body.now c.requires.few (c.requires.last opens.0 opens.1) in
    let moments = c.write_gated.ensures.any_moment made.front made.shut made.behind (record { text = opens.1 ∙ ap Some made.text; place = made.place })
    (subst (λ (file : List ℕ). Only file (g.D.Disk.may_leave c.args.disk.now)) made.text (c.requires.durable opens.0 opens.1)) in
    weaker g.D.Disk c.args.disk.now c.write_gated.new.disk _ (IsBeforeOrAfter bodies c.args.body.now)
    (after_all opens.0 c.args.gate c.args.body.now made _ c.put_together.ensures.text bodies opens.2) moments

pub returns-clause-ok : goal.returns-clause-ok
returns-clause-ok g c bodies opens =
    let made = ready opens.0 c.args.gate c.args.body.now c.requires.few (c.requires.last opens.0 opens.1) in (
      _,
      c.in_ok-write_gated.ensures.done opens.0 opens.1 ∙ ap Some (new_file opens.0 c.args.gate c.args.body.now made _ c.put_together.ensures.text),
      new_bodies opens.0 c.args.gate c.args.body.now made bodies opens.2,
    )

pub returns-clause-ahead : goal.returns-clause-ahead
returns-clause-ahead g c file now at bodies reached is new read =
    let made = ready file c.args.gate c.args.body.now c.requires.few (c.requires.last file is) in
    let text : _ ≡ now = cc (c.in_ok-write_gated.ensures.done file is ∙ ap Some (new_file file c.args.gate c.args.body.now made _ c.put_together.ensures.text), new) in
    ap (λ (l : List ℕ). bodies_from l at) (sym text) ∙ made.ahead at bodies reached read

pub returns-clause-before : goal.returns-clause-before
returns-clause-before g c file now at to bodies reached is new stand =
    let made = ready file c.args.gate c.args.body.now c.requires.few (c.requires.last file is) in
    let text : _ ≡ now = cc (c.in_ok-write_gated.ensures.done file is ∙ ap Some (new_file file c.args.gate c.args.body.now made _ c.put_together.ensures.text), new) in
    subst (λ (l : List ℕ). AreRecordsFrom l at bodies to) text (made.stay at to bodies reached stand)

pub returns-clause-there : goal.returns-clause-there
returns-clause-there g c file now is new =
    let made = ready file c.args.gate c.args.body.now c.requires.few (c.requires.last file is) in
    let text : _ ≡ now = cc (c.in_ok-write_gated.ensures.done file is ∙ ap Some (new_file file c.args.gate c.args.body.now made _ c.put_together.ensures.text), new) in
    subst (λ (l : List ℕ). IsRecordAt l c.args.gate c.args.body.now) text made.there

pub returns-clause-stands : goal.returns-clause-stands
returns-clause-stands g c at reached =
    new_stands g.D.Disk c.args.disk.now c.write_gated.new.disk c.write_gated.ensures.disk.keeps c.args.gate c.args.body.now _ c.put_together.ensures.text
    c.requires.few c.requires.last c.in_ok-write_gated.ensures.done at reached c.in_ok-write_gated.ensures.durable
