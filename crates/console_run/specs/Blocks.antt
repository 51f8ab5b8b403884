-- Blocks of lines in a script: `together`, then lines that workers run side by side, then `end`. Which lines may stand where, and which block is open.
use Rattle.std.specs.Prelude.{◌≡◌, ℕ, ◌≤◌, ◌&&◌, nat_lt, Bool, not, List, [], ◌∷◌, ◌++◌, length, Option, None, Some, if◌then◌else◌}
use Rattle.std.specs.List.{list_any}
use Rattle.std.specs.Option.{option_and_then}
use Rattle.group_terms.specs.Names.{Name, same_name}
use Rattle.register_workers.specs.Own.{named_by}
use Rattle.register_workers.specs.declared.lines.BlockAsk.{BlockAsk}
use Rattle.register_workers.specs.declared.lines.BlockAsk.TheVariants as asks
use Rattle.script_text.specs.Lines.{line_of}
use Rattle.script_text.specs.declared.lines.Line.{Line}
use Rattle.script_text.specs.declared.lines.Line.TheVariants.{Nothing, Join, Again, Leave, Batch, Now, Together, End}
use Rattle.console_run.specs.Scripts.{most_lines}

-- how many lines a block has at most
abbrev pub most_asks : ℕ
most_asks = 512

-- what a line asks in a block; None where no block has such a line
abbrev pub ask_in_block : Line → Option BlockAsk
ask_in_block (Join m) = Some (asks.Join m)
ask_in_block (Again m) = Some (asks.Again m)
ask_in_block (Leave m) = Some (asks.Leave m)
ask_in_block Batch = Some asks.Batch
ask_in_block Now = Some asks.Now
ask_in_block line = None

-- whether a line of a block names a member
abbrev pub names_member : Name → BlockAsk → Bool
names_member m ask = list_any (same_name m) (named_by ask)

-- whether one of these lines does
abbrev pub names : List BlockAsk → Name → Bool
names so_far m = list_any (names_member m) so_far

-- whether one more line fits after these: there is room for it, and it names nobody a second time
abbrev pub fits_block : List BlockAsk → BlockAsk → Bool
fits_block so_far ask = nat_lt (length so_far) most_asks && not (list_any (names so_far) (named_by ask))

-- The state of a script between two lines: no block is open, or one with these lines so far.
abbrev pub BlockSoFar : Type 0
BlockSoFar = Option (List BlockAsk)

-- with one more line, where it fits
abbrev pub with_ask : List BlockAsk → BlockAsk → Option BlockSoFar
with_ask so_far ask = if fits_block so_far ask then Some (Some (so_far ++ ask ∷ [])) else None

-- a block that has lines may end
abbrev pub ended : List BlockAsk → Option BlockSoFar
ended [] = None
ended (ask ∷ others) = Some None

-- the state after a line in a block; None where it may not stand there. A line that does nothing does not count.
abbrev pub after_in_block : List BlockAsk → Line → Option BlockSoFar
after_in_block so_far Nothing = Some (Some so_far)
after_in_block so_far End = ended so_far
after_in_block so_far line = option_and_then (with_ask so_far) (ask_in_block line)

-- the state after a line outside a block
abbrev pub after_outside : Line → Option BlockSoFar
after_outside Together = Some (Some [])
after_outside End = None
after_outside line = Some None

-- the state after a line; None where it may not stand there
abbrev pub after_line : BlockSoFar → Line → Option BlockSoFar
after_line None line = after_outside line
after_line (Some so_far) line = after_in_block so_far line

-- after a text, if it is a line of the grammar
abbrev pub after_text : BlockSoFar → List ℕ → Option BlockSoFar
after_text block text = option_and_then (after_line block) (line_of text)

-- after texts, one after the other
abbrev pub after_texts : BlockSoFar → List (List ℕ) → Option BlockSoFar
after_texts block [] = Some block
after_texts block (text ∷ texts) = option_and_then (λ (next : BlockSoFar). after_texts next texts) (after_text block text)

-- what a block has after texts, none of which ends it
abbrev pub inside_block : List BlockAsk → List (List ℕ) → Option (List BlockAsk)
inside_block so_far [] = Some so_far
inside_block so_far (text ∷ texts) =
    option_and_then (option_and_then (λ (next : List BlockAsk). inside_block next texts)) (after_text (Some so_far) text)

-- no more lines than there may be, each of the grammar where it stands, and each block is ended
pub record AreLines (lines : List (List ℕ)) : Type 0 where
  pub few : length lines ≤ most_lines
  pub stand : after_texts None lines ≡ Some None
