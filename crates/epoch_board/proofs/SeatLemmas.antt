-- What the seats of a board know stays true, where one of them learns something true.
-- Two lemmas serve all steps: one seat learns something true (`AllFit-set`), a new seat begins with something true (`AllFit-push`).
use Rattle.std.proofs.Common.{◌≡◌, ◌≢◌, ℕ, List, [], ◌∷◌, ◌++◌, subst, sym, ◌∙◌, ⊎_elim, set}
use Rattle.std.proofs.lemmas.List.{append-nil}
use mathlib.Core.Option.{some}
use lib.ListN.{get_elem?}
use Rattle.atomic_table.proofs.Lists.{at_set, at_snoc}
use Rattle.epoch_board.specs.declared.moments.Moment.{Moment}
use Rattle.epoch_board.specs.declared.moments.Moment.TheVariants.{Looked}
use Rattle.epoch_board.specs.declared.rule.View.{View}
use Rattle.epoch_board.specs.declared.rule.View.TheVariants.{Publishes, Follows}
use Rattle.epoch_board.specs.Moments.{pairs_in}
use Rattle.epoch_board.specs.Pairs.{StartsWith}
use Rattle.epoch_board.specs.Private.Rule.{moments_of, beside_of, Fits}
use Rattle.epoch_board.proofs.PairLemmas.{StartsWith-more, pairs_in-append}

-- what every seat knows is true
abbrev pub AllFit : ℕ → List Moment → List View → Type 0
AllFit owner log views = (seat : ℕ) (view : View) → get_elem? views seat ≡ some view → Fits owner log seat view

-- what a seat knows begins the history
pub Fits-begins : (owner : ℕ) (log : List Moment) (seat : ℕ) (view : View) → Fits owner log seat view → StartsWith log (moments_of view)
Fits-begins owner log seat (Publishes known beside) fits = fits.1
Fits-begins owner log seat (Follows known) fits = fits

-- who does not publish knows nothing wrong after one more moment
pub Fits-more : (owner : ℕ) (log more : List Moment) (seat : ℕ) (view : View) → seat ≢ owner
    → Fits owner log seat view → Fits owner (log ++ more) seat view
Fits-more owner log more seat (Publishes known beside) other fits = absurd (other fits.0)
Fits-more owner log more seat (Follows known) other fits = StartsWith-more log more known fits

-- nobody knows anything wrong after one more look
pub Fits-look : (owner : ℕ) (log : List Moment) (seat : ℕ) (view : View) → Fits owner log seat view → Fits owner (log ++ Looked ∷ []) seat view
Fits-look owner log seat (Publishes known beside) fits = (
  fits.0,
  StartsWith-more log (Looked ∷ []) known fits.1,
  pairs_in-append log (Looked ∷ []) ∙ (append-nil (pairs_in log) ∙ fits.2),
  StartsWith-more log (Looked ∷ []) beside fits.3,
)
Fits-look owner log seat (Follows known) fits = StartsWith-more log (Looked ∷ []) known fits

-- one seat learns something true, and what the others know is true
pub AllFit-set : (owner : ℕ) (log : List Moment) (views : List View) (seat : ℕ) (view : View)
    → ((other : ℕ) (known : View) → other ≢ seat → get_elem? views other ≡ some known → Fits owner log other known)
    → Fits owner log seat view → AllFit owner log (set views seat view)
AllFit-set owner log views seat view others fits at known there = ⊎_elim
    (λ (same : (at ≡ seat) × (view ≡ known)). let P : ℕ → View → Type 0 = Fits owner log in
    subst (λ (k : ℕ). P k known) (sym same.0) (subst (λ (v : View). P seat v) same.1 fits))
    (λ (another : (at ≢ seat) × (get_elem? views at ≡ some known)). others at known another.0 another.1)
    (at_set views seat at view known there)

-- a new seat knows something true
pub AllFit-push : (owner : ℕ) (log : List Moment) (views : List View) (view : View) → AllFit owner log views
    → ((seat : ℕ) → Fits owner log seat view) → AllFit owner log (views ++ view ∷ [])
AllFit-push owner log views view all fits seat known there = ⊎_elim (λ was. all seat known was)
    (λ (same : view ≡ known). let P : View → Type 0 = Fits owner log seat in subst P same (fits seat))
    (at_snoc views view known seat there)
