-- What the definitions give where a wrong word, limit, order or number would give something else.
use Rattle.std.proofs.Common.{◌≡◌, ◌+◌, ℕ, [], ◌∷◌, ◌++◌, Some, None, true, map, refl}
use Rattle.std.specs.Prelude.{codes, replicate}
use Rattle.std.specs.Fmt.{decimal}
use Rattle.group_model.specs.declared.entries.PushPair.{PushPair}
use Rattle.script_text.specs.Lines.{line_of, line_of_words, members_of, number_in}
use Rattle.script_text.specs.Report.{derived_word, end_text, line_with, pair_lines, push_line}
use Rattle.script_text.specs.Words.{words_of}
use Rattle.script_text.specs.declared.lines.Line.TheVariants.{End, Key, Now, Together}

asks_for_a_key : line_of_words (codes "key" ∷ codes "a" ∷ []) ≡ Some (Key (codes "a"))
asks_for_a_key = refl

lines_of_one_word : map line_of (codes "now" ∷ codes " together " ∷ codes "end" ∷ codes "now a" ∷ codes "End" ∷ []) ≡ Some Now ∷ Some Together ∷ Some End ∷ None ∷ None ∷ []
unfolding line_of words_of
lines_of_one_word = refl

line_of_201_octets : line_of (replicate 201 35) ≡ None
unfolding line_of
line_of_201_octets = refl

greatest_number : number_in (codes "4294967295") ≡ Some 4294967295
greatest_number = refl

number_past_its_limit : number_in (codes "4294967296") ≡ None
number_past_its_limit = refl

nine_names : members_of (replicate 9 (codes "a")) ≡ None
nine_names = refl

pushes_of_a_pair : (pair : PushPair) → pair_lines (Some pair) ≡ push_line pair.first pair.membership ++ push_line (pair.first + 1) pair.traffic
pushes_of_a_pair pair = refl

end_at_a_line : (line : ℕ) → end_text 2 line ≡ line_with (codes "end" ∷ codes "2" ∷ codes "line" ∷ decimal line ∷ [])
unfolding end_text
end_at_a_line line = refl

yes_and_none : derived_word true ≡ codes "yes"
yes_and_none = refl
