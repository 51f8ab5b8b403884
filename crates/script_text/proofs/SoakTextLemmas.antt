-- The script of the soak, read: its octets are cut into the texts of its lines, and each text is read as its line.
use Rattle.std.proofs.Common.{◌≡◌, ℕ, zero, suc, ◌+◌, ◌%◌, ◌<◌, ◌≤◌, ◌==◌, Bool, false, List, [], ◌∷◌, ◌++◌, Some, map, refl, ap, ap₂, sym, ◌∙◌, arith, inl, inr, append_assoc, codes}
use Rattle.std.specs.Fmt.{digits}
use Rattle.std.specs.List.{AllByRecursion, flat_map, list_any, range_with_len, slice_split}
use Rattle.std.proofs.lemmas.Bool.{cases_eq, or_parts}
use Rattle.std.proofs.lemmas.List.Elements.{All-from_recursion}
use Rattle.std.proofs.lemmas.List.Splits.{slice_split_at}
use Rattle.script_text.specs.Lines.{line_of}
use Rattle.script_text.specs.Soak.{joins_from, leaves_from, next_state, number_drawn, round_from, rounds_from, soak_lines, soak_member, soak_script, state_after}
use Rattle.script_text.specs.Words.{words_of}
use Rattle.script_text.specs.Written.{ended_line, line_text}
use Rattle.script_text.specs.declared.lines.Line.{Line}
use Rattle.script_text.specs.declared.lines.Line.TheVariants.{Allow, Join, Leave, Batch, DeliverAll, Together, End}

-- octet 10 ends a line
abbrev pub ends_line : ℕ → Bool
ends_line octet = octet == 10

-- a line reads back as it was written, and has no line end in it
pub record ReadsBack (line : Line) : Type 0 where
  pub reads : line_of (line_text line) ≡ Some line
  pub whole : list_any ends_line (line_text line) ≡ false

-- ---- names

-- what two functions give alike along numbers, they give alike at each of them
pub alike_at : {X : Type 0} (f g : ℕ → X) (start len n : ℕ) → map f (range_with_len start len) ≡ map g (range_with_len start len)
    → start ≤ n → n < start + len → f n ≡ g n
alike_at f g start zero n same from to = absurd (omega (arith, from, to))
alike_at f g start (suc len) n same from to = elim (cases_eq n start) [
  | inl at ↦ ap f at ∙ (cc) ∙ sym (ap g at)
  | inr later ↦ alike_at f g (start + 1) len n (cc) (omega (arith, later, from)) (omega (arith, to))
]

joins_read : map (λ n. line_of (line_text (Join (soak_member n)))) (range_with_len 0 80) ≡ map (λ n. Some (Join (soak_member n))) (range_with_len 0 80)
unfolding digits line_of words_of
joins_read = refl

joins_whole : map (λ n. list_any ends_line (line_text (Join (soak_member n)))) (range_with_len 0 80) ≡ map (λ n. false) (range_with_len 0 80)
unfolding digits
joins_whole = refl

leaves_read : map (λ n. line_of (line_text (Leave (soak_member n)))) (range_with_len 0 80) ≡ map (λ n. Some (Leave (soak_member n))) (range_with_len 0 80)
unfolding digits line_of words_of
leaves_read = refl

leaves_whole : map (λ n. list_any ends_line (line_text (Leave (soak_member n)))) (range_with_len 0 80) ≡ map (λ n. false) (range_with_len 0 80)
unfolding digits
leaves_whole = refl

join_back : (n : ℕ) → n < 80 → ReadsBack (Join (soak_member n))
join_back n few = record {
  reads = alike_at (λ n. line_of (line_text (Join (soak_member n)))) (λ n. Some (Join (soak_member n))) 0 80 n joins_read (omega arith) (omega (arith, few));
  whole = alike_at (λ n. list_any ends_line (line_text (Join (soak_member n)))) (λ n. false) 0 80 n joins_whole (omega arith) (omega (arith, few));
}

leave_back : (n : ℕ) → n < 80 → ReadsBack (Leave (soak_member n))
leave_back n few = record {
  reads = alike_at (λ n. line_of (line_text (Leave (soak_member n)))) (λ n. Some (Leave (soak_member n))) 0 80 n leaves_read (omega arith) (omega (arith, few));
  whole = alike_at (λ n. list_any ends_line (line_text (Leave (soak_member n)))) (λ n. false) 0 80 n leaves_whole (omega arith) (omega (arith, few));
}

pub number_drawn-below : (x : ℕ) → number_drawn x < 80
unfolding number_drawn
number_drawn-below x = omega arith

-- ---- all lines

allow_back : ReadsBack (Allow (codes "*"))
unfolding line_of words_of
allow_back = record { reads = refl; whole = refl }

together_back : ReadsBack Together
unfolding line_of words_of
together_back = record { reads = refl; whole = refl }

end_back : ReadsBack End
unfolding line_of words_of
end_back = record { reads = refl; whole = refl }

batch_back : ReadsBack Batch
unfolding line_of words_of
batch_back = record { reads = refl; whole = refl }

deliver_all_back : ReadsBack DeliverAll
unfolding line_of words_of
deliver_all_back = record { reads = refl; whole = refl }

both : {X : Type 0} (P : X → Type 0) (xs ys : List X) → AllByRecursion P xs → AllByRecursion P ys → AllByRecursion P (xs ++ ys)
both P [] ys first second = second
both P (x ∷ xs) ys first second = (first.0, both P xs ys first.1 second)

abbrev ReadBack : List Line → Type 0
ReadBack = AllByRecursion ReadsBack

joins_back : (number n : ℕ) → ReadBack (joins_from number n)
unfolding joins_from
joins_back number zero = tt
joins_back number (suc n) = (join_back (number % 80) (omega arith), joins_back (number + 1) n)

leaves_back : (x n : ℕ) → ReadBack (leaves_from x n)
unfolding leaves_from
leaves_back x zero = tt
leaves_back x (suc n) = (leave_back (number_drawn (next_state x)) (number_drawn-below (next_state x)), leaves_back (next_state x) n)

round_back : (x : ℕ) → ReadBack (round_from x)
round_back x =
    let leaves = leaves_from (next_state x) 5 in (
      together_back,
      both ReadsBack (joins_from (number_drawn (next_state x)) 12) (End ∷ (leaves ++ (Batch ∷ DeliverAll ∷ []))) (joins_back (number_drawn (next_state x)) 12)
          (end_back, both ReadsBack leaves (Batch ∷ DeliverAll ∷ []) (leaves_back (next_state x) 5) (batch_back, (deliver_all_back, tt))),
    )

rounds_back : (x n : ℕ) → ReadBack (rounds_from x n)
unfolding rounds_from
rounds_back x zero = tt
rounds_back x (suc n) = both ReadsBack (round_from x) (rounds_from (state_after x 6) n) (round_back x) (rounds_back (state_after x 6) n)

pub soak_reads_back : (number : ℕ) → AllByRecursion ReadsBack (soak_lines number)
unfolding soak_lines
soak_reads_back number = (allow_back, rounds_back number 40)

-- ---- texts

all_read : (lines : List Line) → AllByRecursion ReadsBack lines → map line_of (map line_text lines) ≡ map Some lines
all_read [] back = refl
all_read (line ∷ lines) back = ap₂ (λ first rest. first ∷ rest) back.0.reads (all_read lines back.1)

whole_of : (octets : List ℕ) → list_any ends_line octets ≡ false → AllByRecursion (λ octet. ends_line octet ≡ false) octets
whole_of [] whole = tt
whole_of (octet ∷ octets) whole = let parts = or_parts (ends_line octet) (list_any ends_line octets) whole in (parts.0, whole_of octets parts.1)

all_cut : (lines : List Line) → AllByRecursion ReadsBack lines → slice_split ends_line (flat_map ended_line lines) ≡ map line_text lines ++ [] ∷ []
all_cut [] back = refl
all_cut (line ∷ lines) back =
    let text = line_text line in
    let others = flat_map ended_line lines in
    ap (slice_split ends_line) (append_assoc text (10 ∷ []) others)
    ∙ slice_split_at ends_line text 10 others (All-from_recursion (λ octet. ends_line octet ≡ false) text (whole_of text back.0.whole)) refl
    ∙ ap (λ texts. text ∷ texts) (all_cut lines back.1)

-- each text of a soak is read as its line
pub texts_read : (number : ℕ) → map line_of (map line_text (soak_lines number)) ≡ map Some (soak_lines number)
texts_read number = all_read (soak_lines number) (soak_reads_back number)

-- octet 10 cuts the script of a soak into the texts of its lines, with nothing after the last line end
pub script_cut : (number : ℕ) → slice_split (λ octet. octet == 10) (soak_script number) ≡ map line_text (soak_lines number) ++ [] ∷ []
unfolding soak_script
script_cut number = all_cut (soak_lines number) (soak_reads_back number)
