use Rattle.std.proofs.Common.{◌∙◌, ◌∷◌, Ok, refl, subst, sym}
use Rattle.group_peers.specs.Pulls.{Takes}
use Rattle.member_steps.specs.Steps.{IsKeeping}
use Rattle.member_steps.specs.Views.{members_with}
use Rattle.member_steps.proofs.TakeLemmas.{still_peer, takes_keys}
use Rattle.member_steps.proofs.members.Members.take.Goals as goal

pub keep-answer-requires-clause-peer : goal.keep-answer-requires-clause-peer
keep-answer-requires-clause-peer c =
    let was = c.self.inside.peers.items in
    let m = c.args.member.now in
    let datagram = c.args.datagram.now in
    still_peer was c.take.new.self.items m datagram c.in-Told.keyed
    (subst (λ pulled. Takes was m datagram (Ok pulled) c.take.new.self.items) c.in-Told.is c.in_ok-take.ensures.takes)

pub returns-in-Told-clause-takes : goal.returns-in-Told-clause-takes
returns-in-Told-clause-takes c later =
    let members = c.self.inside in
    let was = members.peers.items in
    let next = c.take.new.self in
    let m = c.args.member.now in
    let datagram = c.args.datagram.now in
    let told = subst (λ pulled. Takes was m datagram (Ok pulled) next.items) c.in-Told.is c.in_ok-take.ensures.takes in
    subst (λ old. IsKeeping m (members_with old ((m, datagram) ∷ later)) c.keep-answer.result (members_with c.keep-answer.new.self later)) c.self.view_is
    (takes_keys (record { all = was; place = members.place; spare = members.peers.spare })
    (record { all = next.items; place = members.place; spare = next.spare })
    c.keep-answer.new.self m datagram c.in-Told.keyed c.keep-answer.result (sym c.loses.ensures ∙ c.if-loses.false) refl told c.keep-answer.ensures.takes later)
