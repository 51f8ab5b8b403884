-- Where memory may run out in a run.
use Rattle.std.specs.Prelude.{◌≡◌, ◌⊎◌, Bool, true, false, List, [], ◌∷◌}
use Rattle.group_model.specs.Answers.{ran_out}
use Rattle.group_model.specs.declared.entries.Asked.{Asked}
use Rattle.group_model.specs.declared.entries.Asked.TheVariants.{Batch, Leave, Serve, Together, Together2}
use Rattle.group_model.specs.declared.entries.Entry.{Entry}

-- whether a block has begun and not ended, after a request
abbrev pub in_block_after : Bool → Asked → Bool
in_block_after in_block (Together lines) = true
in_block_after in_block Together2 = false
in_block_after in_block asked = in_block

-- whether it may be a turn of a block
abbrev pub is_turn : Asked → Bool
is_turn (Serve m datagram) = true
is_turn (Leave m) = true
is_turn Batch = true
is_turn asked = false

-- turns, and perhaps the mark of their block's end after them
abbrev pub EndsBlock : List Entry → Type 0
EndsBlock [] = Unit {0}
EndsBlock (entry ∷ entries) = ((entry.asked ≡ Together2) × (entries ≡ [])) ⊎ ((is_turn entry.asked ≡ true) × EndsBlock entries)

-- Where memory ran out, nothing more is asked; but where it ran out in a turn of a block, other turns may come, and the mark of its end.
abbrev pub EndsWithoutMemory : Bool → List Entry → Type 0
EndsWithoutMemory in_block [] = Unit {0}
EndsWithoutMemory in_block (entry ∷ entries) =
    ((entries ≡ []) ⊎ ((ran_out entry.answer ≡ false) ⊎ ((in_block ≡ true) × ((is_turn entry.asked ≡ true) × EndsBlock entries))))
    × EndsWithoutMemory (in_block_after in_block entry.asked) entries
