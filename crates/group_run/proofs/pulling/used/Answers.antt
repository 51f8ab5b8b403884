use Rattle.std.proofs.Common.{◌≡◌, MatchBool, refl, sym, subst}
use Rattle.member_steps.specs.Acts.{IsFirstUse}
use Rattle.member_steps.specs.Views.{members_with}
use Rattle.group_run.proofs.MemberLemmas.{no_owner, owner_peer}
use Rattle.group_run.proofs.pulling.used.Goals as goal

pub use_first-requires-clause-unused : goal.use_first-requires-clause-unused
use_first-requires-clause-unused g c = no_owner c.args.members.now.all c.args.member.now (sym c.in-None.ensures)

pub returns-in-Some-clause-used : goal.returns-in-Some-clause-used
returns-in-Some-clause-used g c mail =
    let now = members_with c.args.members.now mail in
    subst (λ b. MatchBool b (now ≡ now) (IsFirstUse (g.P.Draws.block_at c.args.draws.now) c.args.member.now now now))
    (sym (owner_peer c.args.members.now.all c.args.member.now c.in-Some.phase (sym c.in-Some.ensures))) refl

pub returns-in-None-clause-used : goal.returns-in-None-clause-used
returns-in-None-clause-used g c mail =
    let old = members_with c.args.members.now mail in
    let new = members_with c.use_first.new.self mail in
    subst (λ b. MatchBool b (new ≡ old) (IsFirstUse (g.P.Draws.block_at c.args.draws.now) c.args.member.now old new))
    (sym (no_owner c.args.members.now.all c.args.member.now (sym c.in-None.ensures))) (c.use_first.ensures.used mail)
