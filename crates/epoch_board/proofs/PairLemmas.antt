-- What a board shows after more was published, and lists that begin with others.
-- `is_less (slice_index_or (pair ∷ pairs) (suc k + 1) d)` does not compute: `ap` with `{x = suc (k + 1)} {y = suc k + 1} (omega arith)`.
use Rattle.std.proofs.Common.{◌≡◌, zero, suc, ◌+◌, false, length, slice_index_or, arith, List, [], ◌∷◌, ◌++◌, refl, ap, subst, sym, ◌∙◌}
use Rattle.std.proofs.lemmas.List.{append_assoc, append-nil, length-append, nil_from_length}
use Rattle.epoch_board.specs.declared.pairs.Seen.{Seen}
use Rattle.epoch_board.specs.declared.moments.Moment.{Moment}
use Rattle.epoch_board.specs.declared.moments.Moment.TheVariants.{Published, Looked}
use Rattle.epoch_board.specs.Moments.{pairs_in}
use Rattle.epoch_board.specs.Pairs.{zero_pair, last_pair_after, last_pair, StartsWith, is_less, NeverFalls}

pub last_pair_after-append : (pair : Seen) (pairs later : List Seen)
    → last_pair_after pair (pairs ++ later) ≡ last_pair_after (last_pair_after pair pairs) later
last_pair_after-append pair [] later = refl
last_pair_after-append pair (next ∷ pairs) later = last_pair_after-append next pairs later

-- the pair that was published last is shown
pub last_pair-push : (pairs : List Seen) (pair : Seen) → last_pair (pairs ++ pair ∷ []) ≡ pair
last_pair-push pairs pair = last_pair_after-append zero_pair pairs (pair ∷ [])

module _ {X : Type 0} where
  pub StartsWith-itself : (list that : List X) → that ≡ list → StartsWith list that
  StartsWith-itself list that same = ([], sym (append-nil that ∙ same))

  -- what a list begins with, it begins with still, once there is more of it
  pub StartsWith-more : (list more that : List X) → StartsWith list that → StartsWith (list ++ more) that
  StartsWith-more list more that begins = (begins.0 ++ more, ap (λ all. all ++ more) begins.1 ∙ append_assoc that begins.0 more)

-- the pairs of one part of a history, and then those of the next
pub pairs_in-append : (moments later : List Moment) → pairs_in (moments ++ later) ≡ pairs_in moments ++ pairs_in later
pairs_in-append [] later = refl
pairs_in-append (Published pair ∷ moments) later = ap (λ pairs. pair ∷ pairs) (pairs_in-append moments later)
pairs_in-append (Looked ∷ moments) later = pairs_in-append moments later

-- where a history begins with another one, so do its pairs
pub pairs_in-begins : (moments those : List Moment) → StartsWith moments those → StartsWith (pairs_in moments) (pairs_in those)
pairs_in-begins moments those begins = (pairs_in begins.0, ap pairs_in begins.1 ∙ pairs_in-append those begins.0)

-- two lists that begin with each other are equal
pub StartsWith-both : (published seen : List Seen) → StartsWith seen published → StartsWith published seen → seen ≡ published
StartsWith-both published seen after before =
    let grown : length seen ≡ length published + length after.0 = ap length after.1 ∙ length-append published after.0 in
    let begun : length published ≡ length seen + length before.0 = ap length before.1 ∙ length-append seen before.0 in
    after.1 ∙ ap (λ more. published ++ more) (nil_from_length after.0 (omega arith)) ∙ append-nil published

-- where the middle pair is no less than the first, and the last no less than the middle, the last is no less than the first
is_less-chain : (last middle first : Seen) → is_less last middle ≡ false → is_less middle first ≡ false → is_less last first ≡ false
is_less-chain last middle first after before = grind arith

is_less-itself : (pair : Seen) → is_less pair pair ≡ false
is_less-itself pair = grind arith

-- no pair is less than 0, 0
is_less-start : (pair : Seen) → is_less pair zero_pair ≡ false
is_less-start pair = grind arith

NeverFalls-tail : (pair : Seen) (pairs : List Seen) → NeverFalls (pair ∷ pairs) → NeverFalls pairs
NeverFalls-tail pair pairs never k default low high =
    ap (λ place. is_less (slice_index_or (pair ∷ pairs) place default) (slice_index_or pairs k default))
    {x = suc (k + 1)} {y = suc k + 1} (omega arith)
    ∙ never (suc k) default (omega arith) (omega arith)

NeverFalls-start : (pairs : List Seen) → NeverFalls pairs → NeverFalls (zero_pair ∷ pairs)
NeverFalls-start [] never k default low high = absurd (omega arith)
NeverFalls-start (pair ∷ pairs) never zero default low high = is_less-start pair
NeverFalls-start (pair ∷ pairs) never (suc k) default low high =
    ap (λ place. is_less (slice_index_or (zero_pair ∷ pair ∷ pairs) place default) (slice_index_or (pair ∷ pairs) k default))
    {x = suc k + 1} {y = suc (k + 1)} (omega arith)
    ∙ never k default (omega arith) (omega arith)

-- what is shown after more was published is no less than before
is_less-after : (pair : Seen) (pairs : List Seen) → NeverFalls (pair ∷ pairs) → is_less (last_pair_after pair pairs) pair ≡ false
is_less-after pair [] never = is_less-itself pair
is_less-after pair (next ∷ later) never =
    is_less-chain (last_pair_after next later) next pair
    (is_less-after next later (NeverFalls-tail pair (next ∷ later) never))
    (never 0 pair (omega arith) (omega arith))

is_less-later : (pair : Seen) (earlier later : List Seen) → NeverFalls (pair ∷ earlier ++ later)
    → is_less (last_pair_after pair (earlier ++ later)) (last_pair_after pair earlier) ≡ false
is_less-later pair [] later never = is_less-after pair later never
is_less-later pair (next ∷ earlier) later never = is_less-later next earlier later (NeverFalls-tail pair (next ∷ earlier ++ later) never)

pub is_less-last_pair : (later earlier : List Seen) → NeverFalls later → StartsWith later earlier
    → is_less (last_pair later) (last_pair earlier) ≡ false
is_less-last_pair later earlier never begins =
    let P : List Seen → Type 0 = λ pairs. is_less (last_pair pairs) (last_pair earlier) ≡ false in
    subst P (sym begins.1) (is_less-later zero_pair earlier begins.0 (NeverFalls-start (earlier ++ begins.0) (subst NeverFalls begins.1 never)))
