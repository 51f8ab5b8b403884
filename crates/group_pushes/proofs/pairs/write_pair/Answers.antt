use Rattle.std.proofs.Common.{◌≡◌, ◌-◌, ◌+◌, ◌^◌, ◌∙◌, List, length, ap, subst, sym}
use Rattle.group_terms.specs.declared.keys.Wrap.{Wrap}
use Rattle.group_model.specs.Wraps.{IsBetween}
use Rattle.group_model.specs.declared.entries.PushPair.{PushPair}
use Rattle.push_msg.specs.declared.writers.PushHead.{PushHead}
use Rattle.push_msg.specs.Texts.{IsPushText, membership_push, traffic_push}
use Rattle.group_pushes.specs.Private.Jobs.{AreArraysAfter}
use Rattle.group_pushes.proofs.PairLemmas.{Laws, a_pair, front_within, no_pair, wraps_are}
use Rattle.group_pushes.proofs.pairs.write_pair.Goals as goal

pub returns-in_default : goal.returns-in_default
returns-in_default g c list changes limit stands keeps drawn is_step =
    let tree = c.args.tree.now in
    let step = c.args.marked.now in
    let values = c.args.values.now in
    let wraps = c.in_ok-wraps.wraps in
    let are = wraps_are tree step list changes values limit stands drawn is_step wraps c.in_ok-wraps.ensures.wraps in
    no_pair tree step list changes values limit stands drawn is_step g.G.Signer c.args.signer.now c.args.spi.now wraps are
    (sym (ap length c.as_slice.ensures) ∙ c.in_default.ensures.cases)

pub update_arrays-requires-clause-within : goal.update_arrays-requires-clause-within
update_arrays-requires-clause-within g c =
    let wraps = c.in_ok-wraps.wraps in
    let between : List Wrap = c.in-Some.between.now in
    front_within (IsBetween (2 ^ (c.args.tree.now.depth + 1))) wraps between _ (sym c.as_slice.ensures ∙ c.in-Some.ensures.cases.0) c.in_ok-wraps.ensures.within

pub returns : goal.returns
returns g c list changes limit stands keeps drawn is_step =
    let tree = c.args.tree.now in
    let step = c.args.marked.now in
    let kept = c.args.tree.now.kept in
    let values = c.args.values.now in
    let signer = c.args.signer.now in
    let wraps = c.in_ok-wraps.wraps in
    let between = c.in-Some.between.now in
    let arrays = c.as_slice-2.result.now in
    let are = wraps_are tree step list changes values limit stands drawn is_step wraps c.in_ok-wraps.ensures.wraps in
    let pair : PushPair = record {
      first = c.heads.result.0.sequence;
      membership = c.in_ok-membership.membership;
      traffic = c.in_ok-traffic.traffic;
      wraps = wraps;
    } in
    let number : c.heads.result.0.sequence ≡ step.sequence - 1 = ap (λ (head : PushHead). head.sequence) c.heads.ensures.first ∙ ap (λ n. n - 1) c.sequence.ensures in
    let laws : Laws = record {
      marks = c.a_mark_is_that_of_a_child.ensures.child;
      lasts = c.the_last_value_is_that_of_the_last_change.ensures;
      each = c.each_leaf_has_its_place.ensures;
    } in
    a_pair tree step list changes values limit stands drawn is_step laws kept keeps g.G.Signer signer c.args.spi.now pair between _ arrays c.keks.result.0 c.keks.result.1
    c.prove_room.ensures are (sym c.as_slice.ensures ∙ c.in-Some.ensures.cases.0) number
    (subst (AreArraysAfter kept values between) (sym c.as_slice-2.ensures) c.in_ok-arrays.ensures.arrays)
    c.keks.ensures.old c.keks.ensures.new c.keks.ensures.old_iv c.keks.ensures.new_iv c.in_ok-membership.ensures.kind
    (subst (λ head. IsPushText (g.G.Signer.signature signer) (g.G.Signer.size_of signer) c.keks.result.0
    (membership_push head (g.G.Signer.kind_of signer) arrays) c.in_ok-membership.membership)
    (λ i. record { spi = ap (λ (head : PushHead). head.spi) c.heads.ensures.first i; sequence = c.heads.result.0.sequence }) c.in_ok-membership.ensures.text)
    (subst (λ head. IsPushText (g.G.Signer.signature signer) (g.G.Signer.size_of signer) c.keks.result.1
    (traffic_push head values.traffic) c.in_ok-traffic.traffic)
    (c.heads.ensures.second ∙ ap (λ n. record { spi = c.args.spi.now; sequence = n }) c.sequence.ensures) c.in_ok-traffic.ensures)
