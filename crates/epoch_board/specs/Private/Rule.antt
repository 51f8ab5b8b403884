-- What holds of a board at any moment, and what a step on it tells.
use Rattle.std.specs.Prelude.{◌≡◌, ℕ, ◌+◌, ◌*◌, ◌/◌, ◌%◌, ◌^◌, List, [], ◌∷◌, ◌++◌}
use mathlib.Core.Option.{some}
use lib.ListN.{get_elem?}
use Rattle.atomic_table.specs.Seated.{TableId}
use Rattle.atomic_table.specs.Table.{State, Me}
use Rattle.epoch_board.specs.declared.pairs.Seen.{Seen}
use Rattle.epoch_board.specs.declared.moments.Moment.{Moment}
use Rattle.epoch_board.specs.declared.moments.Moment.TheVariants.{Published, Looked}
use Rattle.epoch_board.specs.declared.rule.View.{View}
use Rattle.epoch_board.specs.declared.rule.View.TheVariants.{Publishes, Follows}
use Rattle.epoch_board.specs.Moments.{pairs_in, EndsWith}
use Rattle.epoch_board.specs.Pairs.{last_pair, StartsWith}
use Rattle.epoch_board.specs.Passes.{PassState, PublisherState}

-- a pair in one word: the epoch in its upper half, the sequence number in its lower
abbrev pub word_of : Seen → ℕ
word_of pair = pair.epoch * 2 ^ 32 + pair.sequence

-- the pair in a word
abbrev pub pair_of : ℕ → Seen
pair_of word = record { epoch = word / 2 ^ 32; sequence = word % 2 ^ 32 }

-- the history as far as a seat knows it
abbrev pub moments_of : View → List Moment
moments_of (Publishes known beside) = known
moments_of (Follows known) = known

-- what contracts see of a publisher's seat, and of that of a pass
abbrev pub publisher_state : TableId → View → PublisherState
publisher_state board view = record { board = board; published = pairs_in (moments_of view); moments = moments_of view }

abbrev pub pass_state : TableId → View → PassState
pass_state board view = record { board = board; seen = pairs_in (moments_of view); moments = moments_of view }

-- the other first part of the history that a publisher was told of
abbrev pub beside_of : View → List Moment
beside_of (Publishes known beside) = beside
beside_of (Follows known) = []

-- What a seat knows begins the history. The publisher's seat is this one, and it knows of all that was published; what it was told of begins the
-- history, too.
abbrev pub Fits : ℕ → List Moment → ℕ → View → Type 0
Fits owner log seat (Publishes known beside) = (seat ≡ owner) × StartsWith log known × (pairs_in log ≡ pairs_in known) × StartsWith log beside
Fits owner log seat (Follows known) = StartsWith log known

-- one seat is the publisher's, the one word is the last pair that was published, and what each seat knows is true
pub record IsInOrder {S : Type 0} (state : State S View) : Type 0 where
  pub owner : ℕ
  pub log : List Moment
  pub word : ℕ
  pub words : state.words ≡ word ∷ []
  pub shows : pair_of word ≡ last_pair (pairs_in log)
  pub fits : (seat : ℕ) (view : View) → get_elem? state.views seat ≡ some view → Fits owner log seat view

-- what a new pass knows that is made beside this seat
abbrev pub follower_of : View → View
follower_of view = Follows (moments_of view)

-- what the publisher knows once it was told what another seat knows
abbrev pub with_beside : View → View → View
with_beside view other = Publishes (moments_of view) (moments_of other)

module _ {S : Type 0} where
  -- the store is a moment, which published the pair in the word
  pub record Adds (old : Me S View) (word : ℕ) (new : Me S View) : Type 0 where
    pub moments : List Moment
    pub seat : new ≡ (Publishes moments (beside_of old.0), old.1)
    pub ends : EndsWith (Published (pair_of word)) (moments_of old.0) moments
    pub pairs : pairs_in moments ≡ pairs_in (moments_of old.0) ++ pair_of word ∷ []

  -- the load is a moment, at which the pair in the word was the last that was published
  pub record Sees (old : Me S View) (word : ℕ) (new : Me S View) : Type 0 where
    pub moments : List Moment
    pub seat : new ≡ (Follows moments, old.1)
    pub ends : EndsWith Looked (moments_of old.0) moments
    pub pairs : StartsWith (pairs_in moments) (pairs_in (moments_of old.0))
    pub last : pair_of word ≡ last_pair (pairs_in moments)

  -- the whole history is known, which begins with what the publisher was told of; that is kept no longer
  pub record Compares (old : Me S View) (word : ℕ) (new : Me S View) : Type 0 where
    pub moments : List Moment
    pub seat : new ≡ (Publishes moments [], old.1)
    pub goes_on : StartsWith moments (moments_of old.0)
    pub told : StartsWith moments (beside_of old.0)
    pub pairs : pairs_in moments ≡ pairs_in (moments_of old.0)
    pub told_pairs : StartsWith (pairs_in moments) (pairs_in (beside_of old.0))
