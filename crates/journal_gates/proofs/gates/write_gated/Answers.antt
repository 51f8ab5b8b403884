use Rattle.std.proofs.Common.{◌≡◌, ◌∙◌, ◌+◌, ◌++◌, ◌∷◌, length, Some, sym, ap, arith, inl, inr, get_or, drop}
use Rattle.gd_disk.specs.Disks.{written}
use Rattle.gd_disk.specs.MomentLaws.{shown_before}
use Rattle.journal_gates.specs.Gates.{IsGated, gated}
use Rattle.journal_gates.proofs.AnswerLemmas.{on_err, known_some}
use Rattle.journal_gates.proofs.GateLemmas.{torn_behind, torn_gate, written_behind, length-written}
use Rattle.journal_gates.proofs.GatedMoments.{after_first, after_both}
use Rattle.journal_gates.proofs.gates.write_gated.Goals as goal

pub returns-in_err-write_through-clause-in_doubt : goal.returns-in_err-write_through-clause-in_doubt
returns-in_err-write_through-clause-in_doubt g c front shut behind split =
    let torn = c.in_err-write_through.ensures.in_doubt (front ++ shut ∷ behind) split.text in
    let known : IsGated front shut c.args.piece.now behind torn.0 =
    inl (drop (c.args.gate + 1) torn.0, torn_behind front shut behind c.args.piece.now c.args.gate (sym split.place) (length c.args.piece.now) torn.0 torn.2) in
    on_err c.from_residual.result (known_some (IsGated front shut c.args.piece.now behind) _ torn.0 torn.1 known)

pub returns-in_err-write_through-clause-any_moment : goal.returns-in_err-write_through-clause-any_moment
returns-in_err-write_through-clause-any_moment g c front shut behind split only =
    after_first g.D.Disk front shut behind c.args.piece.now c.args.gate (sym split.place) c.args.disk.now c.write_through.new.disk only
    (c.write_through.ensures.any_moment (front ++ shut ∷ behind) split.text)

pub write_through-requires-2 : goal.write_through-requires-2
write_through-requires-2 g c file is =
    let was = shown_before g.D.Disk c.args.disk.now c.write_through.new.disk c.write_through.ensures.disk.keeps file is in
    let now = c.in_ok-write_through.ensures.done was.0 was.1 in
    let same : written was.0 (c.args.gate + 1) c.args.piece.now ≡ file = cc (is, now) in
    let long = c.requires.there was.0 was.1 in
    let most = length-written was.0 (c.args.gate + 1) c.args.piece.now (omega (arith, long)) in
    omega (arith, most, ap length same)

pub returns-in_err-write_through-2-clause-in_doubt : goal.returns-in_err-write_through-2-clause-in_doubt
returns-in_err-write_through-2-clause-in_doubt g c front shut behind split =
    let file = front ++ shut ∷ behind in
    let piece = c.args.piece.now in
    let gate = c.args.gate in
    let text = written_behind front shut behind piece gate (sym split.place) in
    let there = c.in_ok-write_through.ensures.done file split.text ∙ ap Some text in
    let torn = c.in_err-write_through-2.ensures.in_doubt (gated front shut piece behind) there in
    let known : IsGated front shut piece behind torn.0 =
    inr (get_or torn.0 gate 0, torn_gate front shut behind piece gate (sym split.place) torn.0 torn.2) in
    on_err c.from_residual-in_err-write_through-2.result (known_some (IsGated front shut piece behind) _ torn.0 torn.1 known)

pub returns-in_err-write_through-2-clause-any_moment : goal.returns-in_err-write_through-2-clause-any_moment
returns-in_err-write_through-2-clause-any_moment g c front shut behind split only =
    let piece = c.args.piece.now in
    let text = written_behind front shut behind piece c.args.gate (sym split.place) in
    let there = c.in_ok-write_through.ensures.done (front ++ shut ∷ behind) split.text ∙ ap Some text in
    after_both g.D.Disk front shut behind piece c.args.gate (sym split.place) c.args.disk.now c.write_through.new.disk only
    (c.write_through.ensures.any_moment (front ++ shut ∷ behind) split.text) c.write_through-2.new.disk
    (c.in_ok-write_through.ensures.durable _ there) (c.write_through-2.ensures.any_moment (gated front shut piece behind) there)

pub returns-clause-any_moment : goal.returns-clause-any_moment
returns-clause-any_moment g c front shut behind split only =
    let piece = c.args.piece.now in
    let text = written_behind front shut behind piece c.args.gate (sym split.place) in
    let there = c.in_ok-write_through.ensures.done (front ++ shut ∷ behind) split.text ∙ ap Some text in
    after_both g.D.Disk front shut behind piece c.args.gate (sym split.place) c.args.disk.now c.write_through.new.disk only
    (c.write_through.ensures.any_moment (front ++ shut ∷ behind) split.text) c.write_through-2.new.disk
    (c.in_ok-write_through.ensures.durable _ there) (c.write_through-2.ensures.any_moment (gated front shut piece behind) there)
