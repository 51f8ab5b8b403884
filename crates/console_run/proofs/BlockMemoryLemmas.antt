-- Where memory runs out in a history with blocks.
use Rattle.std.proofs.Common.{◌≡◌, Bool, true, false, List, [], ◌∷◌, ◌++◌, sym, refl, subst, inl, inr}
use Rattle.std.specs.List.{AllByRecursion}
use Rattle.std.proofs.lemmas.Bool.{false≢true, or_parts}
use Rattle.std.proofs.lemmas.List.{append-nil}
use Rattle.group_model.specs.Answers.{any_ran_out, ran_out}
use Rattle.group_model.specs.declared.entries.Asked.{Asked}
use Rattle.group_model.specs.declared.entries.Asked.TheVariants as requests
use Rattle.group_model.specs.declared.entries.Entry.{Entry}
use Rattle.console_run.specs.Memory.{EndsBlock, EndsWithoutMemory, in_block_after, is_turn}

-- whether a block is open after entries
pub in_block_all : Bool → List Entry → Bool
in_block_all b [] = b
in_block_all b (entry ∷ entries) = in_block_all (in_block_after b entry.asked) entries

pub in_block-append : (b : Bool) (first second : List Entry) → in_block_all b (first ++ second) ≡ in_block_all (in_block_all b first) second
unfolding in_block_all
in_block-append b [] second = refl
in_block-append b (entry ∷ first) second = in_block-append (in_block_after b entry.asked) first second

pub in_block-one : (b : Bool) (entry : Entry) → in_block_all b (entry ∷ []) ≡ in_block_after b entry.asked
unfolding in_block_all
in_block-one b entry = refl

pub in_block-none : (b : Bool) → in_block_all b [] ≡ b
unfolding in_block_all
in_block-none b = refl

-- it ran out in none of the first entries
pub ends_then : (b : Bool) (first second : List Entry) → any_ran_out first ≡ false → EndsWithoutMemory (in_block_all b first) second
    → EndsWithoutMemory b (first ++ second)
unfolding in_block_all
ends_then b [] second none h = h
ends_then b (entry ∷ first) second none h =
    let parts = or_parts (ran_out entry.answer) (any_ran_out first) none in
    (inr (inl parts.0), ends_then (in_block_after b entry.asked) first second parts.1 h)

-- or in none at all
pub ends_enough : (b : Bool) (entries : List Entry) → any_ran_out entries ≡ false → EndsWithoutMemory b entries
ends_enough b entries none = subst (EndsWithoutMemory b) (append-nil entries) (ends_then b entries [] none tt)

-- in turns it may run out in any
turn_keeps : (asked : Asked) → is_turn asked ≡ true → in_block_after true asked ≡ true
turn_keeps requests.Together2 h = absurd (false≢true h)
turn_keeps asked h = refl

ends_turns : (turns later : List Entry) → AllByRecursion (λ (turn : Entry). is_turn turn.asked ≡ true) turns → EndsBlock later → EndsBlock (turns ++ later)
ends_turns [] later all h = h
ends_turns (turn ∷ turns) later all h = inr (all.0, ends_turns turns later all.1 h)

pub turns_end : (turns later : List Entry) → AllByRecursion (λ (turn : Entry). is_turn turn.asked ≡ true) turns → EndsBlock later
    → EndsWithoutMemory true later → EndsWithoutMemory true (turns ++ later)
turns_end [] later all h k = k
turns_end (turn ∷ turns) later all h k = (
  inr (inr (refl, (all.0, ends_turns turns later all.1 h))),
  subst (λ b. EndsWithoutMemory b (turns ++ later)) (sym (turn_keeps turn.asked all.0)) (turns_end turns later all.1 h k),
)
