use Rattle.std.proofs.Common.{◌≡◌, ◌∙◌, ap, false, Some, subst, sym}
use Rattle.group_terms.specs.declared.phases.Phase1.{Phase1}
use Rattle.group_peers.specs.Peers.{is_peer, phase_of, with_peer}
use Rattle.member_steps.specs.Views.{View}
use Rattle.member_steps.proofs.PeerLemmas.{noted_found}
use Rattle.member_steps.proofs.members.Members.use_first.Goals as goal

pub returns-clause-phase : goal.returns-clause-phase
returns-clause-phase g c =
    let was = c.self.inside.peers.items in
    let m = c.args.member.now in
    let phase = c.draw_phase-phase.result in
    let named : phase.member ≡ m = ap (λ (phase : Phase1). phase.member) c.draw_phase-phase.ensures.phase in
    let unused : is_peer was m ≡ false = subst (λ all. is_peer all m ≡ false) (sym (ap (λ (view : View). view.all) c.self.view_is)) c.requires.unused in
    ap (λ peers. phase_of peers m) c.note.ensures.items
    ∙ subst (λ name. phase_of (with_peer was phase) name ≡ Some phase) named (noted_found was phase (ap (is_peer was) named ∙ unused))
