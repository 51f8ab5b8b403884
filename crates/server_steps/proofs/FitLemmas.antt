-- What waits fits, once a join or a leave was granted; and batches that are due one after the other are a valid list.
use Rattle.std.proofs.Common.{◌≡◌, ℕ, ◌^◌, Bool, false, eqb, List, [], ◌∷◌, ◌++◌, Option, Some, None, length, subst}
use Rattle.std.specs.List.{fold}
use Rattle.std.proofs.lemmas.Bool.{cond_both, eqb-false}
use Rattle.std.proofs.lemmas.List.Sums.{fold-append}
use Rattle.group_terms.specs.Changes.{is_pending}
use Rattle.group_terms.specs.Names.{Name}
use Rattle.group_terms.specs.declared.changes.Change.{Change}
use Rattle.group_terms.specs.declared.changes.Change.TheVariants.{Out, In}
use Rattle.group_values.specs.Values.{Made, batches_made}
use Rattle.group_model.specs.Laws.{Laws}
use Rattle.group_model.specs.Places.{Fits, FitInTurn, Holders, holders_after, holders_of, is_member, no_holders}
use Rattle.group_model.specs.Refusals.{leaves_taken, why_no_join, why_no_leave}
use Rattle.group_model.specs.declared.entries.Refusal.{Refusal}
use Rattle.group_model.specs.declared.entries.Refusal.TheVariants.{NeedsReopen, NotMember, AlreadyPending, TreeFull}
use Rattle.gcks_core.specs.Stored.{AreDueFrom}

-- a batch that fits after a list makes it longer
pub fit_more : (holders : Holders) (batches : List (List Change)) (batch : List Change) → FitInTurn holders batches
    → Fits (fold holders_after holders batches) batch → FitInTurn holders (batches ++ batch ∷ [])
fit_more holders [] batch valid fits = (fits, tt)
fit_more holders (first ∷ batches) batch valid fits = (valid.0, fit_more (holders_after holders first) batches batch valid.1 fits)

-- batches that are due one after the other are a valid list
pub valid_from : (depth limit : ℕ) (before : List (List Change)) (list : List Made) → AreDueFrom depth limit before list
    → FitInTurn (holders_of depth before) (batches_made list)
valid_from depth limit before [] due = tt
valid_from depth limit before (made ∷ list) due = (
  due.0.carried.fits,
  subst (λ holders. FitInTurn holders (batches_made list)) (fold-append holders_after (no_holders depth) before (made.changes ∷ []))
      (valid_from depth limit (before ++ made.changes ∷ []) list due.1),
)

module _ (laws : Laws) (needs_reopen : Bool) (depth : ℕ) (holders : Holders) (queue : List Change) (fits : Fits holders queue) (m : Name) where
  pub fits_joined : length holders ≡ 2 ^ depth → is_member holders m ≡ false → why_no_join needs_reopen depth holders queue m ≡ None
      → Fits holders (queue ++ In m ∷ [])
  fits_joined each stranger =
      cond_both needs_reopen (Some NeedsReopen) _ fits_at (λ _ some. absurd (cc some))
      (λ _. cond_both (is_pending queue m) (Some AlreadyPending) _ fits_at (λ _ some. absurd (cc some))
      (λ free. cond_both (eqb (leaves_taken depth holders queue) (2 ^ depth)) (Some (TreeFull (leaves_taken depth holders queue))) _ fits_at
      (λ _ some. absurd (cc some))
      (λ left none. laws.joins_fit depth holders queue m each fits stranger free (eqb-false (leaves_taken depth holders queue) (2 ^ depth) left))))
    where
      fits_at : Option Refusal → Type 0
      fits_at refusal = refusal ≡ None → Fits holders (queue ++ In m ∷ [])

  pub fits_left : why_no_leave needs_reopen depth holders queue m ≡ None → Fits holders (queue ++ Out m ∷ [])
  fits_left =
      cond_both needs_reopen (Some NeedsReopen) _ fits_at (λ _ some. absurd (cc some))
      (λ _. cond_both (is_member holders m) _ (Some NotMember) fits_at
      (λ member. cond_both (is_pending queue m) (Some AlreadyPending) _ fits_at (λ _ some. absurd (cc some))
      (λ free none. laws.leaves_fit holders queue m fits member free))
      (λ _ some. absurd (cc some)))
    where
      fits_at : Option Refusal → Type 0
      fits_at refusal = refusal ≡ None → Fits holders (queue ++ Out m ∷ [])
