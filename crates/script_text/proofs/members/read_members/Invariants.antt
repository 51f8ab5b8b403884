use Rattle.std.proofs.Common.{◌≡◌, ◌≤◌, ℕ, List, ◌++◌, Some, length}
use Rattle.script_text.specs.Words.{words_of}
use Rattle.script_text.specs.Lines.{names_of}
use Rattle.script_text.proofs.members.read_members.Given as goal

-- the words so far are names
abbrev pub invariant-loop-word : goal.invariant-loop-word
invariant-loop-word l = record {
  few : length l.members ≤ 8;
  words : (done : List (List ℕ)) × (words_of l.fn.text ≡ done ++ words_of l.rest) × (length done ≡ length l.members) × (names_of done ≡ Some l.members);
}

abbrev pub decreases-loop-word : goal.decreases-loop-word
decreases-loop-word l = length (words_of l.rest)
