use Rattle.std.proofs.Common.{◌≡◌, [], ◌∷◌, Bool, sym, subst}
use Rattle.group_run.specs.Blocks.{marked}
use Rattle.member_steps.specs.Views.{members_with}
use Rattle.group_run.proofs.after_turns.mark_loss.Goals as goal

pub returns-then-goes : goal.returns-then-goes
returns-then-goes c datagram later =
    let mail = (c.args.member.now, datagram) ∷ later in
    subst (λ (goes : Bool). members_with c.set_loss.new.self mail ≡ marked (goes ∷ []) (members_with c.args.members.now mail)) (sym c.if-goes.true)
    (c.set_loss.ensures.all mail)
