-- The script of the soak is a script: it has few lines, each of the grammar where it stands, and each of its blocks is ended.
use Rattle.std.proofs.Common.{◌≡◌, ◌∙◌, ℕ, zero, suc, ◌*◌, ◌<◌, List, [], ◌∷◌, ◌++◌, Option, Some, None, length, map, refl, sym, ap, arith, append_assoc}
use Rattle.std.specs.Prelude.{option_and_then}
use Rattle.std.specs.Fmt.{digits}
use Rattle.std.specs.List.{AllByRecursion, range_with_len}
use Rattle.std.proofs.lemmas.List.{length-append, length-map}
use Rattle.std.proofs.lemmas.Option.{none-some, same_Some}
use Rattle.script_text.specs.Soak.{joins_from, leaves_from, next_state, number_drawn, round_from, rounds_from, soak_lines, soak_script, state_after}
use Rattle.script_text.specs.Written.{line_text}
use Rattle.script_text.specs.declared.lines.Line.{Line}
use Rattle.script_text.specs.declared.lines.Line.TheVariants.{Batch, DeliverAll, End}
use Rattle.script_text.proofs.SoakLemmas.{rounds_from-more, rounds_from-none}
use Rattle.script_text.proofs.SoakTextLemmas.{ReadsBack, alike_at, number_drawn-below, script_cut, soak_reads_back}
use Rattle.console_run.specs.Blocks.{AreLines, BlockSoFar, after_line, after_texts}
use Rattle.console_run.specs.Scripts.{lines_of_parts, script_lines}

-- ---- texts

no_rest : (texts : List (List ℕ)) → lines_of_parts (texts ++ [] ∷ []) ≡ texts
no_rest [] = refl
no_rest (text ∷ []) = refl
no_rest (text ∷ next ∷ texts) = ap (λ others. text ∷ others) (no_rest (next ∷ texts))

-- the lines of the script are the texts of the soak's lines
pub soak_texts : (number : ℕ) → script_lines (soak_script number) ≡ map line_text (soak_lines number)
soak_texts number = ap lines_of_parts (script_cut number) ∙ no_rest (map line_text (soak_lines number))

-- the state of a script after lines, one after the other
abbrev after_lines : BlockSoFar → List Line → Option BlockSoFar
after_lines block [] = Some block
after_lines block (line ∷ lines) = option_and_then (λ (next : BlockSoFar). after_lines next lines) (after_line block line)

each_next : (f g : BlockSoFar → Option BlockSoFar) → ((next : BlockSoFar) → f next ≡ g next) → (o : Option BlockSoFar)
    → option_and_then f o ≡ option_and_then g o
each_next f g same None = refl
each_next f g same (Some next) = same next

-- texts that read back lead where their lines do
texts_lead : (lines : List Line) → AllByRecursion ReadsBack lines → (block : BlockSoFar) → after_texts block (map line_text lines) ≡ after_lines block lines
texts_lead [] back block = refl
texts_lead (line ∷ lines) back block =
    ap (λ read. option_and_then (λ (next : BlockSoFar). after_texts next (map line_text lines)) (option_and_then (after_line block) read)) back.0.reads
    ∙ each_next (λ (next : BlockSoFar). after_texts next (map line_text lines)) (λ (next : BlockSoFar). after_lines next lines) (texts_lead lines back.1)
    (after_line block line)

-- ---- lines

after_first : (o : Option BlockSoFar) (lines others : List Line) (mid : BlockSoFar)
    → ((next : BlockSoFar) → after_lines next lines ≡ Some mid → after_lines next (lines ++ others) ≡ after_lines mid others)
    → option_and_then (λ (next : BlockSoFar). after_lines next lines) o ≡ Some mid
    → option_and_then (λ (next : BlockSoFar). after_lines next (lines ++ others)) o ≡ after_lines mid others
after_first None lines others mid each is = absurd (none-some mid is)
after_first (Some next) lines others mid each is = each next is

-- lines, and others after them
lines_after : (lines others : List Line) (block mid : BlockSoFar) → after_lines block lines ≡ Some mid
    → after_lines block (lines ++ others) ≡ after_lines mid others
lines_after [] others block mid is = ap (λ (block : BlockSoFar). after_lines block others) (same_Some block mid is)
lines_after (line ∷ lines) others block mid is = after_first (after_line block line) lines others mid (λ next. lines_after lines others next mid) is

-- outside a block
abbrev outside : Option BlockSoFar
outside = Some None

-- twelve joins, from any number on, name nobody twice, and the block ends after them
joins_end : map (λ first. after_lines (Some []) (joins_from first 12 ++ End ∷ [])) (range_with_len 0 80) ≡ map (λ first. outside) (range_with_len 0 80)
unfolding digits joins_from
joins_end = refl

block_ends : (first : ℕ) (others : List Line) → first < 80 → after_lines (Some []) (joins_from first 12 ++ (End ∷ others)) ≡ after_lines None others
block_ends first others below =
    ap (after_lines (Some [])) (sym (append_assoc (joins_from first 12) (End ∷ []) others))
    ∙ lines_after (joins_from first 12 ++ End ∷ []) others (Some []) None
    (alike_at (λ first. after_lines (Some []) (joins_from first 12 ++ End ∷ [])) (λ first. outside) 0 80 first joins_end (omega arith) (omega (arith, below)))

leaves_stand : (x n : ℕ) (others : List Line) → after_lines None (leaves_from x n ++ others) ≡ after_lines None others
unfolding leaves_from
leaves_stand x zero others = refl
leaves_stand x (suc n) others = leaves_stand (next_state x) n others

rounds_stand : (x n : ℕ) → after_lines None (rounds_from x n) ≡ outside
rounds_stand x zero = ap (after_lines None) (rounds_from-none x 0 refl)
rounds_stand x (suc n) =
    let y = next_state x in
    let others = rounds_from (state_after y 5) n in
    ap (after_lines None) (rounds_from-more x (suc n) n refl)
    ∙ block_ends (number_drawn y) (leaves_from y 5 ++ (Batch ∷ DeliverAll ∷ others)) (number_drawn-below y)
    ∙ leaves_stand y 5 (Batch ∷ DeliverAll ∷ others)
    ∙ rounds_stand (state_after y 5) n

soak_stands : (number : ℕ) → after_lines None (soak_lines number) ≡ outside
unfolding soak_lines
soak_stands number = rounds_stand number 40

-- ---- how many

length-round_from : (x : ℕ) → length (round_from x) ≡ 21
unfolding joins_from leaves_from
length-round_from x = refl

length-rounds_from : (x n : ℕ) → length (rounds_from x n) ≡ n * 21
unfolding rounds_from
length-rounds_from x zero = refl
length-rounds_from x (suc n) =
    omega (arith, length-append (round_from x) (rounds_from (state_after x 6) n), length-round_from x, length-rounds_from (state_after x 6) n)

length-soak_lines : (number : ℕ) → length (soak_lines number) ≡ 841
unfolding soak_lines
length-soak_lines number = omega (arith, length-rounds_from number 40)

-- ---- the script

pub soak_is_of_lines : (number : ℕ) → AreLines (script_lines (soak_script number))
soak_is_of_lines number = record {
  few = omega (arith, ap length (soak_texts number), length-map (soak_lines number) line_text, length-soak_lines number);
  stand = ap (after_texts None) (soak_texts number) ∙ texts_lead (soak_lines number) (soak_reads_back number) None ∙ soak_stands number;
}
