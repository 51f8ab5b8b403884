use Rattle.std.proofs.Common.{◌∙◌, length, ap, sym, subst, refl, rules, arith}
use Rattle.std.specs.Vec.Iter.{into_iter_items}
use Rattle.server_steps.specs.Private.Told.{AreDatagrams, settled_all}
use Rattle.server_steps.proofs.SessionLemmas.{all_settled, nothing_left}
use Rattle.server_steps.proofs.replying.settle_sessions.Goals as goal

pub settle_session-requires : goal.settle_session-requires
settle_session-requires c = (subst AreDatagrams c.in-Some.ensures.steps.0 c.loop-member.invariant.datagrams).0

pub loop-member-init : goal.loop-member-init
loop-member-init c = record {
  datagrams = subst AreDatagrams (sym (c.into_iter-member-iterator.ensures.into_iter_gives.0 ∙ c.into_vec-member-items.ensures)) c.requires;
  settles = refl;
  counts = search rules;
}

pub loop-member-preserved : goal.loop-member-preserved
loop-member-preserved c =
    let at = c.loop-member in
    let steps = c.in-Some.ensures.steps in
    let was = at.invariant.counts in
    let gone = steps.1 in
    let short = ap length steps.0 in
    record {
      datagrams = (subst AreDatagrams steps.0 at.invariant.datagrams).1;
      settles = ap (λ sessions. settled_all sessions (into_iter_items c.next.new.self)) c.settle_session.ensures ∙ sym (ap (settled_all at.sessions) steps.0)
          ∙ at.invariant.settles;
      counts = omega (arith, was, gone, short);
    }

pub returns : goal.returns
returns c replies is =
    let at = c.loop-member in
    let empty = nothing_left (into_iter_items at.member-iterator) (sym at.invariant.counts ∙ c.in-None.ensures.steps.0) in
    let all = c.into_iter-member-iterator.ensures.into_iter_gives.0 ∙ c.into_vec-member-items.ensures ∙ is in
    sym (ap (settled_all at.sessions) empty) ∙ at.invariant.settles ∙ ap (settled_all c.args.sessions.now) all ∙ all_settled c.args.sessions.now replies
