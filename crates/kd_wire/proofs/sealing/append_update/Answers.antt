use Rattle.std.proofs.Common.{◌≡◌, ◌++◌, ℕ, List, length, refl, ap, sym, ◌∙◌}
use Rattle.std.proofs.lemmas.List.{get_or_default}
use Rattle.group_terms.specs.Octets.{data_octets}
use Rattle.kd_wire.proofs.TextLemmas.{one_more}
use Rattle.kd_wire.specs.Private.Heads.{sealer_head}
use Rattle.kd_wire.specs.Texts.{key_head}
use Rattle.kd_wire.proofs.sealing.append_update.Goals as goal

pub returns-clause-ok : goal.returns-clause-ok
returns-clause-ok c =
    let old = c.args.out.now in
    let by = c.args.job.now.by in
    let gives = c.args.job.now.gives in
    let sealed = c.args.sealed.now in
    let head : List ℕ = sealer_head by in
    let key : List ℕ = key_head gives.id gives.made in
    let after_head = c.append_sealer.new.out in
    let after_key = c.append_key_head.new.out in
    let first : after_head ≡ old ++ head = c.in_ok-append_sealer.ensures.ok in
    let second = one_more old head after_head key after_key first c.in_ok-append_key_head.ensures.ok in
    let third = one_more old (head ++ key) after_key sealed c.extend.new.self second c.in_ok-extend.ensures.ok in
    let long : length sealed ≡ data_octets = c.requires in
    third ∙ ap (λ text. old ++ text) (sym (rw long refl))

pub returns-clause-octets : goal.returns-clause-octets
returns-clause-octets c = λ k d within. rw (get_or_default c.args.sealed.now k d 0 within) (c.type_inv.sealed k).fits
