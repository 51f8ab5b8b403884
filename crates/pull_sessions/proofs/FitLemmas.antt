-- What fits stays so.
use Rattle.std.proofs.Common.{◌≡◌, ℕ, zero, suc, Bool, true, false, List, [], ◌∷◌, ◌++◌, Option, None, Some, cond, refl, sym, ap, ◌∙◌, subst, inl, inr}
use Rattle.std.specs.Prelude.{option_and_then}
use Rattle.std.specs.List.{find}
use Rattle.std.proofs.lemmas.Bool.{cases_Bool, cond-true, cond-false}
use Rattle.group_terms.specs.Names.{Name}
use Rattle.group_terms.specs.declared.phases.Phase1.{Phase1}
use Rattle.pull_msgs.specs.Fits.{PhaseFits}
use Rattle.pull_sessions.specs.Fits.{AllFit, IfSession, SaFits, SessionFits}
use Rattle.pull_sessions.specs.Private.Places.{with_session_at}
use Rattle.pull_sessions.specs.Sessions.{is_of, new_sa, sa_of, session_of, sessions_ended}
use Rattle.pull_sessions.specs.declared.sas.Sa.{Sa}
use Rattle.pull_sessions.specs.declared.sas.Session.{Session}

pub no_session : IfSession None
no_session one is = absurd (cc)

pub that_session : (session : Session) → SessionFits session → IfSession (Some session)
that_session session fits one is = subst SessionFits (only is) fits
  where
    only : {a b : Session} → Some a ≡ Some b → a ≡ b
    only e = cc

pub new_fits : (phase : Phase1) → PhaseFits phase → SaFits (new_sa phase)
new_fits phase fits = record { phase = fits; session = no_session }

pub one_fits : (sas : List Sa) (phase : Phase1) → AllFit sas → PhaseFits phase → AllFit (sas ++ new_sa phase ∷ [])
one_fits [] phase all fits = (new_fits phase fits, tt)
one_fits (sa ∷ sas) phase all fits = (all.0, one_fits sas phase all.1 fits)

pub put_fits : (sas : List Sa) (i : ℕ) (session : Option Session) → AllFit sas → IfSession session → AllFit (with_session_at sas i session)
put_fits [] zero session all fits = tt
put_fits [] (suc i) session all fits = tt
put_fits (sa ∷ sas) zero session all fits = (record { phase = all.0.phase; session = fits }, all.1)
put_fits (sa ∷ sas) (suc i) session all fits = (all.0, put_fits sas i session all.1 fits)

pub ended_fit : (sas : List Sa) → AllFit sas → AllFit (sessions_ended sas)
ended_fit [] all = tt
ended_fit (sa ∷ sas) all = (new_fits sa.phase all.0.phase, ended_fit sas all.1)

pub found_fits : (p : Sa → Bool) (sas : List Sa) (sa : Sa) → AllFit sas → find p sas ≡ Some sa → SaFits sa
found_fits p [] sa all is = absurd (cc)
found_fits p (first ∷ sas) sa all is = elim (cases_Bool (p first)) [
  | inl here ↦ subst SaFits (only (sym (cond-true (p first) (Some first) (find p sas) here) ∙ is)) all.0
  | inr other ↦ found_fits p sas sa all.1 (sym (cond-false (p first) (Some first) (find p sas) other) ∙ is)
]
  where
    only : {a b : Sa} → Some a ≡ Some b → a ≡ b
    only e = cc

pub session_fits : (sas : List Sa) (m : Name) → AllFit sas → IfSession (session_of sas m)
session_fits sas m all one is = by_sa (sa_of sas m) refl is
  where
    by_sa : (found : Option Sa) → sa_of sas m ≡ found → option_and_then (λ (sa : Sa). sa.session) found ≡ Some one → SessionFits one
    by_sa None at is = absurd (cc)
    by_sa (Some sa) at is = (found_fits (is_of m) sas sa all at).session one is
