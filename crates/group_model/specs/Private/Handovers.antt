-- Leaves that changed hands over a batch.
use Rattle.std.specs.Prelude.{ℕ, ◌+◌, ◌^◌, ◌==◌, ◌||◌, Bool, List, [], ◌∷◌, ◌++◌, Option, if◌then◌else◌}
use Rattle.std.specs.List.{zip, find, list_any}
use Rattle.std.specs.Option.{option_map}
use Rattle.group_terms.specs.Names.{Name}
use Rattle.group_terms.specs.Positions.{is_below}
use Rattle.group_terms.specs.declared.changes.Change.{Change}
use Rattle.group_model.specs.declared.handovers.Handover.{Handover}
use Rattle.group_model.specs.Places.{is_held_by, holders_at}
use Rattle.group_model.specs.Fresh.{is_same_holder}

-- one leaf, where who has it changed
abbrev pub handed_over : ℕ → Option Name → Option Name → List Handover
handed_over leaf before after = if is_same_holder before after then [] else record { leaf = leaf; before = before; after = after } ∷ []

-- all leaves from one on
abbrev pub all_handed_over : ℕ → List (Option Name × Option Name) → List Handover
all_handed_over leaf [] = []
all_handed_over leaf (pair ∷ pairs) = handed_over leaf pair.0 pair.1 ++ all_handed_over (leaf + 1) pairs

-- those of the batch at this index of the list
abbrev pub handovers_at : ℕ → List (List Change) → ℕ → List Handover
handovers_at depth batches index = all_handed_over (2 ^ depth) (zip (holders_at depth batches index) (holders_at depth batches (index + 1)))

-- the leaf that m got
abbrev pub taken_by : Name → List Handover → Option ℕ
taken_by m handovers =
    option_map (λ (handover : Handover). handover.leaf) (find (λ (handover : Handover). is_held_by m handover.after) handovers)

-- whether a leaf was that of m
abbrev pub was_of : Name → List Handover → Bool
was_of m handovers = list_any (λ (handover : Handover). is_held_by m handover.before) handovers

-- whether v is the root, or one of the leaves is v or below it
abbrev pub renews : ℕ → ℕ → List Handover → Bool
renews depth v handovers = v == 1 || list_any (λ (handover : Handover). is_below depth v handover.leaf) handovers
