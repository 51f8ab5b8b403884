use Rattle.std.proofs.Common.{◌≡◌, ◌∙◌, ◌∷◌, ◌++◌, [], List, false, ap, subst, sym}
use Rattle.std.specs.List.{IsDistinct, list_any}
use Rattle.std.specs.Str.{bytes_eq}
use Rattle.pull_sessions.specs.Fits.{AllFit}
use Rattle.pull_sessions.specs.Sessions.{AreApart, cookies_of, is_taken_by, members_of, new_sa}
use Rattle.pull_sessions.specs.declared.sas.Sa.{Sa}
use Rattle.pull_sessions.proofs.FitLemmas.{one_fits}
use Rattle.pull_sessions.proofs.SaLemmas.{free, key_goes_last}
use Rattle.pull_sessions.proofs.sas.Sas.push.Goals as goal

pub invariant_of-self-in_err-reserve-2 : goal.invariant_of-self-in_err-reserve-2
invariant_of-self-in_err-reserve-2 c =
    let same = c.reserve.ensures.items in (
      subst AreApart (sym same) c.self.invariant.0,
      c.reserve-2.ensures.keys ∙ c.self.invariant.1 ∙ ap cookies_of (sym same),
      c.self.invariant.2 ∙ ap members_of (sym same),
      subst AllFit (sym same) c.self.invariant.3,
    )

pub invariant_of-self-in_err-reserve-3 : goal.invariant_of-self-in_err-reserve-3
invariant_of-self-in_err-reserve-3 c =
    let same = c.reserve.ensures.items in (
      subst AreApart (sym same) c.self.invariant.0,
      c.reserve-2.ensures.keys ∙ c.self.invariant.1 ∙ ap cookies_of (sym same),
      c.reserve-3.ensures.keys ∙ c.self.invariant.2 ∙ ap members_of (sym same),
      subst AllFit (sym same) c.self.invariant.3,
    )

pub invariant_of-self-2 : goal.invariant_of-self-2
invariant_of-self-2 c =
    let sas = c.self.inside.list.items in
    let phase = c.args.phase in
    let none : list_any (is_taken_by phase) sas ≡ false = ap (list_any (is_taken_by phase)) c.self.view_is ∙ c.requires in
    let new : sas ++ new_sa phase ∷ [] ≡ c.push_reserved.new.self.items =
    sym (c.push_reserved.ensures.items ∙ ap (λ (sas : List Sa). sas ++ new_sa phase ∷ []) c.reserve.ensures.items) in
    let cookies : c.insert.new.self.keys ≡ cookies_of c.push_reserved.new.self.items =
    key_goes_last (λ (sa : Sa). sa.phase.cookies) sas (new_sa phase) c.reserve-2.new.self.keys c.insert.new.self.keys c.insert.result
    (c.reserve-2.ensures.keys ∙ c.self.invariant.1) (free phase sas none).0 (c.insert.ensures.succeeds c.in_ok-reserve-2.ensures.ok) c.insert.ensures.keys
    ∙ ap cookies_of new in
    let members : c.insert-2.new.self.keys ≡ members_of c.push_reserved.new.self.items =
    key_goes_last (λ (sa : Sa). sa.phase.member) sas (new_sa phase) c.reserve-3.new.self.keys c.insert-2.new.self.keys c.insert-2.result
    (c.reserve-3.ensures.keys ∙ c.self.invariant.2) (free phase sas none).1 (c.insert-2.ensures.succeeds c.in_ok-reserve-3.ensures.ok) c.insert-2.ensures.keys
    ∙ ap members_of new in (
      record {
        cookies = subst (IsDistinct bytes_eq) cookies c.insert.ensures.unique;
        members = subst (IsDistinct bytes_eq) members c.insert-2.ensures.unique;
      },
      cookies,
      members,
      subst AllFit new (one_fits sas phase c.self.invariant.3 c.prove_phase_fits.ensures),
    )
