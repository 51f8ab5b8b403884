use Rattle.std.proofs.Common.{◌≡◌, ◌∙◌, None, refl, sym, ap, subst}
use Rattle.std.specs.Prelude.{is_some}
use Rattle.pull_sessions.specs.Builds.{IsFirstFrom, IsSecondOf, begun_session}
use Rattle.pull_sessions.specs.Sessions.{with_session}
use Rattle.pull_sessions.specs.declared.answers.Kept.TheVariants as kept
use Rattle.server_steps.specs.Views.{server_of}
use Rattle.group_server.specs.Private.Accepted.{AcceptsFirst}
use Rattle.group_server.proofs.AcceptLemmas.{HasDrawn, began, out_drawn, out_first}
use Rattle.group_server.proofs.SoundLemmas.{answered, sound_alike, sound_beside}
use Rattle.group_server.proofs.accepting.begin_session.Goals as goal

-- nothing was drawn
pub returns-in_err-last-clause-accepts : goal.returns-in_err-last-clause-accepts
returns-in_err-last-clause-accepts g c rules =
    let view = server_of c.args.core.now rules c.args.sessions.now in
    answered (λ answer. AcceptsFirst g.D.Disk g.G.Signer g.R.Draws c.args.member.now c.args.first c.args.datagram.now answer view view) _ c.from_residual.ensures.1
    (out_first g.D.Disk g.G.Signer g.R.Draws view c.args.member.now c.args.first c.args.datagram.now view refl)

pub returns-in_err-last-clause-sound : goal.returns-in_err-last-clause-sound
returns-in_err-last-clause-sound g c idle sound = sound

pub second_message-requires : goal.second_message-requires
second_message-requires g c = ap is_some c.requires.is_there

-- the nonce was
pub returns-in_err-second-clause-accepts : goal.returns-in_err-second-clause-accepts
returns-in_err-second-clause-accepts g c rules =
    let view = server_of c.args.core.now rules c.args.sessions.now in
    let new = server_of c.draw-block.new.self rules c.args.sessions.now in
    let drawn : HasDrawn g.R.Draws c.args.core.now c.draw-block.new.self =
    record { place = c.draw-block.ensures.place; blocks = c.draw-block.ensures.blocks; rest = c.draw-block.ensures.rest } in
    answered (λ answer. AcceptsFirst g.D.Disk g.G.Signer g.R.Draws c.args.member.now c.args.first c.args.datagram.now answer view new) _
    c.from_residual-in_err-second.ensures.1
    (out_drawn g.D.Disk g.G.Signer g.R.Draws view c.args.member.now c.args.first c.args.datagram.now new drawn refl refl)

pub returns-in_err-second-clause-sound : goal.returns-in_err-second-clause-sound
returns-in_err-second-clause-sound g c idle sound =
    sound_beside c.args.core.now.queue c.draw-block.new.self.queue c.args.sessions.now.sas (ap (λ core. core.queue) c.draw-block.ensures.rest) sound

pub hold_first-requires : goal.hold_first-requires
hold_first-requires g c =
    let made = c.in_ok-second.ensures.is in record {
      first =
          subst (λ last. IsFirstFrom c.args.sessions.now.sas c.args.member.now last c.args.first) (sym c.in_ok-last.ensures) c.requires;
      kept = record {
        second = c.in_ok-second.second.kept;
        is = refl;
        sa = c.requires.sa;
        is_there = c.requires.is_there;
        policy = made.policy;
        kek = made.kek;
        tek = made.tek;
        is_text =
            subst (IsSecondOf c.requires.sa.phase c.args.first c.nonce_from-nr.result made.policy) (sym c.in_ok-second.ensures.same)
            (made.is_text c.requires.sa c.requires.is_there);
      };
    }

pub returns-clause-accepts : goal.returns-clause-accepts
returns-clause-accepts g c rules =
    let view = server_of c.args.core.now rules c.args.sessions.now in
    let new = server_of c.draw-block.new.self rules c.hold_first.new.self in
    let second = c.in_ok-second.second in
    let drawn : HasDrawn g.R.Draws c.args.core.now c.draw-block.new.self =
    record { place = c.draw-block.ensures.place; blocks = c.draw-block.ensures.blocks; rest = c.draw-block.ensures.rest } in
    let held : c.hold_first.new.self ≡ with_session c.args.sessions.now c.args.member.now
    (begun_session c.args.first c.nonce_from-nr.result c.args.datagram.now (kept.Datagram second.sent None)) =
    c.hold_first.ensures ∙ (λ i. with_session c.args.sessions.now c.args.member.now
    (begun_session c.args.first c.nonce_from-nr.result (c.in_ok-last.ensures i) (kept.Datagram (c.in_ok-second.ensures.same i) None))) in
    began g.D.Disk g.G.Signer g.R.Draws view c.args.member.now c.args.first c.args.datagram.now new c.nonce_from-nr.result second.sent
    c.requires.sa c.requires.is_there (c.nonce_from-nr.ensures ∙ c.draw-block.ensures.block) c.in_ok-second.ensures.is drawn refl held

pub returns-clause-sound : goal.returns-clause-sound
returns-clause-sound g c idle sound =
    sound_alike c.args.member.now c.args.sessions.now c.hold_first.new.self c.args.core.now.queue c.draw-block.new.self.queue
    (begun_session c.args.first c.nonce_from-nr.result c.in_ok-last.last (kept.Datagram c.in_ok-second.second.kept None))
    (ap (λ core. core.queue) c.draw-block.ensures.rest) c.hold_first.ensures refl idle sound
