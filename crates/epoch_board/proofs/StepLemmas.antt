-- Each step on a board keeps its rule.
-- What is left of each step is one goal, `(search rules, search rules, looks _ _ _)`. The word is given by its inverse (`pair_of word`), so the log needs no
-- bounds.
use Rattle.std.proofs.Common.{◌≡◌, ◌≢◌, ℕ, zero, suc, List, [], ◌∷◌, ◌++◌, refl, ap, subst, sym, ◌∙◌, ⊎_elim, set, slice_index, slice_set}
use Rattle.std.proofs.lemmas.List.{append-nil}
use mathlib.Core.Option.{some, some-injective, some-ne-none}
use lib.ListN.{get_elem?}
use Rattle.atomic_table.specs.Table.{Me, Allows, Splits, Joins, opening}
use Rattle.atomic_table.specs.Table.Act.{keeps}
use Rattle.atomic_table.proofs.Lists.{at_set, set_again}
use Rattle.epoch_board.specs.declared.pairs.Seen.{Seen}
use Rattle.epoch_board.specs.declared.moments.Moment.{Moment}
use Rattle.epoch_board.specs.declared.moments.Moment.TheVariants.{Published, Looked}
use Rattle.epoch_board.specs.declared.rule.View.{View}
use Rattle.epoch_board.specs.declared.rule.View.TheVariants.{Publishes, Follows}
use Rattle.epoch_board.specs.Moments.{pairs_in}
use Rattle.epoch_board.specs.Pairs.{last_pair, StartsWith}
use Rattle.epoch_board.specs.Private.Rule.{pair_of, moments_of, beside_of, Fits, IsInOrder, follower_of, with_beside, Adds, Sees, Compares}
use Rattle.epoch_board.proofs.PairLemmas.{last_pair-push, StartsWith-itself, StartsWith-more, pairs_in-append, pairs_in-begins}
use Rattle.epoch_board.proofs.SeatLemmas.{AllFit, Fits-begins, Fits-more, Fits-look, AllFit-set, AllFit-push}

-- what the publisher was told begins the history
told : (log : List Moment) (view : View) (known beside : List Moment) → view ≡ Publishes known beside → StartsWith log beside
    → StartsWith log (beside_of view)
told log view known beside is begins = let P : View → Type 0 = λ view. StartsWith log (beside_of view) in subst P (sym is) begins

module _ {S : Type 0} where
  -- at the start nothing was published
  pub opens : IsInOrder {S = S} (opening (0 ∷ []) [] (Publishes [] []))
  opens = record {
    owner = 0;
    log = [];
    word = 0;
    words = refl;
    shows = refl;
    fits = first_fits;
  }
    where
      first_fits : AllFit 0 [] (Publishes [] [] ∷ [])
      first_fits zero view at = let P : View → Type 0 = Fits 0 [] 0 in subst P (some-injective _ _ at) (refl, ([], refl), refl, ([], refl))
      first_fits (suc seat) view at = absurd (some-ne-none view (sym at))

  -- the publisher publishes one pair more
  pub publishes : (slots id word : ℕ) (me : Me S View) (known beside : List Moment) → me.0 ≡ Publishes known beside
      → Allows IsInOrder slots id me 0 (λ _. word) (λ _. Adds me word)
  publishes slots id word me known beside is state rule homes at below =
      let P : View → Type 0 = Fits rule.owner rule.log id in
      let fits : P (Publishes known beside) = subst P is (rule.fits id me.0 at) in
      let mine : moments_of me.0 ≡ known = ap moments_of is in
      let begins : StartsWith rule.log (beside_of me.0) = told rule.log me.0 known beside is fits.3 in
      let now : StartsWith rule.log (moments_of me.0) = Fits-begins rule.owner rule.log id me.0 (rule.fits id me.0 at) in
      let more : List Moment = Published (pair_of word) ∷ [] in
      let log : List Moment = rule.log ++ more in
      let pairs : pairs_in log ≡ pairs_in rule.log ++ pair_of word ∷ [] = pairs_in-append rule.log more in (
        Publishes log (beside_of me.0),
        keeps,
        tt,
        record {
          owner = rule.owner;
          log = log;
          word = word;
          words = ap (λ words. slice_set words 0 word) rule.words;
          shows = sym (ap last_pair pairs ∙ last_pair-push (pairs_in rule.log) (pair_of word));
          fits = AllFit-set rule.owner log state.views id _
              (λ other view another there.
              Fits-more rule.owner rule.log more other view (λ same. another (same ∙ sym fits.0)) (rule.fits other view there))
              (fits.0, StartsWith-itself log log refl, refl, StartsWith-more rule.log more (beside_of me.0) begins);
        },
        record {
          moments = log;
          seat = refl;
          ends = (now.0, ap (λ all. all ++ more) now.1);
          pairs = pairs ∙ ap (λ all. all ++ pair_of word ∷ []) (fits.2 ∙ ap pairs_in (sym mine));
        },
      )

  -- a pass sees all that was published
  pub looks : (slots id : ℕ) (me : Me S View) → Allows IsInOrder slots id me 0 (λ word. word) (Sees me)
  looks slots id me state rule homes at below =
      let now : StartsWith rule.log (moments_of me.0) = Fits-begins rule.owner rule.log id me.0 (rule.fits id me.0 at) in
      let more : List Moment = Looked ∷ [] in
      let log : List Moment = rule.log ++ more in
      let pairs : pairs_in log ≡ pairs_in rule.log = pairs_in-append rule.log more ∙ append-nil (pairs_in rule.log) in (
        Follows log,
        keeps,
        tt,
        record {
          owner = rule.owner;
          log = log;
          word = rule.word;
          words = ap (λ words. slice_set words 0 (slice_index words 0)) rule.words;
          shows = rule.shows ∙ ap last_pair (sym pairs);
          fits = AllFit-set rule.owner log state.views id _ (λ other view _ there. Fits-look rule.owner rule.log other view (rule.fits other view there))
              (StartsWith-itself log log refl);
        },
        record {
          moments = log;
          seat = refl;
          ends = (now.0, ap (λ all. all ++ more) now.1);
          pairs = pairs_in-begins log (moments_of me.0) (StartsWith-more rule.log more (moments_of me.0) now);
          last = ap (λ words. pair_of (slice_index words 0)) rule.words ∙ rule.shows ∙ ap last_pair (sym pairs);
        },
      )

  -- the publisher learns the whole history
  pub compares : (slots id : ℕ) (me : Me S View) (known beside : List Moment) → me.0 ≡ Publishes known beside
      → Allows IsInOrder slots id me 0 (λ word. word) (Compares me)
  compares slots id me known beside is state rule homes at below =
      let P : View → Type 0 = Fits rule.owner rule.log id in
      let fits : P (Publishes known beside) = subst P is (rule.fits id me.0 at) in
      let begins : StartsWith rule.log (beside_of me.0) = told rule.log me.0 known beside is fits.3 in (
        Publishes rule.log [],
        keeps,
        tt,
        record {
          owner = rule.owner;
          log = rule.log;
          word = rule.word;
          words = ap (λ words. slice_set words 0 (slice_index words 0)) rule.words;
          shows = rule.shows;
          fits = AllFit-set rule.owner rule.log state.views id _ (λ other view _ there. rule.fits other view there)
              (fits.0, StartsWith-itself rule.log rule.log refl, refl, (rule.log, refl));
        },
        record {
          moments = rule.log;
          seat = refl;
          goes_on = Fits-begins rule.owner rule.log id me.0 (rule.fits id me.0 at);
          told = begins;
          pairs = fits.2 ∙ ap pairs_in (sym (ap moments_of is));
          told_pairs = pairs_in-begins rule.log (beside_of me.0) begins;
        },
      )

  -- a new pass is told what a seat knows
  pub tells : (id : ℕ) (view : View) → Splits (IsInOrder {S = S}) id view view (follower_of view)
  tells id view state rule at = record {
    owner = rule.owner;
    log = rule.log;
    word = rule.word;
    words = rule.words;
    shows = rule.shows;
    fits = AllFit-push rule.owner rule.log (set state.views id view) (follower_of view)
        (subst (λ (views : List View). AllFit rule.owner rule.log views) (sym (set_again state.views id view at)) rule.fits)
        (λ seat. Fits-begins rule.owner rule.log id view (rule.fits id view at));
  }

  -- the publisher keeps what another seat knows beside its own
  pub takes_in : (id other : ℕ) (view known : View) (own beside : List Moment) → view ≡ Publishes own beside
      → Joins (IsInOrder {S = S}) id view other known (with_beside view known) (Follows [])
  takes_in id other view known own beside is state rule at another there =
      let P : View → Type 0 = Fits rule.owner rule.log id in
      let mine : P (Publishes own beside) = subst P is (rule.fits id view at) in
      let theirs : Fits rule.owner rule.log other known = ⊎_elim
      (λ (same : (other ≡ id) × (with_beside view known ≡ known)). absurd (another same.0))
      (λ (apart : (other ≢ id) × (get_elem? state.views other ≡ some known)). rule.fits other known apart.1)
      (at_set state.views id other (with_beside view known) known there) in
      let first : AllFit rule.owner rule.log (set state.views id (with_beside view known)) =
      AllFit-set rule.owner rule.log state.views id _ (λ seat seats _ here. rule.fits seat seats here) (
        mine.0,
        Fits-begins rule.owner rule.log id view (rule.fits id view at),
        mine.2 ∙ ap pairs_in (sym (ap moments_of is)),
        Fits-begins rule.owner rule.log other known theirs,
      ) in
      record {
        owner = rule.owner;
        log = rule.log;
        word = rule.word;
        words = rule.words;
        shows = rule.shows;
        fits = AllFit-set rule.owner rule.log (set state.views id (with_beside view known)) other (Follows [])
            (λ seat seats _ here. first seat seats here) (rule.log, refl);
      }
