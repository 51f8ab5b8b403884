-- What words of the command line and lines of a script say, and no run of the console shows in full: each row is computed.
use Rattle.std.proofs.Common.{◌≡◌, ◌++◌, ℕ, List, [], ◌∷◌, Option, Some, None, map, refl}
use Rattle.std.specs.Prelude.{codes, replicate}
use Rattle.command_words.specs.Commands.{command_of}
use Rattle.command_words.specs.declared.commands.Command.{Command}
use Rattle.command_words.specs.declared.commands.Opening.{Opening}
use Rattle.command_words.specs.declared.commands.Opening.TheVariants.{New, Open, Soak}
use Rattle.script_text.specs.Lines.{line_of}
use Rattle.script_text.specs.Numbers.{decimal_in}
use Rattle.script_text.specs.Words.{words_of}
use Rattle.script_text.specs.declared.lines.Line.TheVariants.{Nothing, Allow, Deny, Join, Again, Lose, Leave, Batch, Deliver, DeliverAll, Key, Derive, Halt, Reopen, Show}
use Rattle.run_report.specs.Reports.{line_at, status_of}
use Rattle.run_report.specs.declared.endings.Ending.TheVariants.{Whole, NoGroup, BadLine, Source, Sink, Memory, NotOpened}

-- ---- words of the command line

-- how a group is opened, the limit, the seed, and the number of workers
abbrev asks : Opening → ℕ → ℕ → ℕ → Option Command
asks opening limit seed workers = Some (record { opening = opening; limit = limit; seed = seed; workers = workers })

-- what words say that have spaces between them
abbrev says : List ℕ → Option Command
says text = command_of (words_of text)

words_ask_for_a_group : map says (
    codes "--new 2" ∷
    codes "--new=2" ∷
    codes "--new 00000000000000000009" ∷
    codes "--open" ∷
    codes "--open --limit 4" ∷
    codes "--limit=4 --open" ∷
    codes "--seed 18446744073709551615 --new 1" ∷
    codes "--seed=0 --limit=4294967295 --new=1" ∷
    codes "--limit 1 --new=3 --seed 7" ∷
    codes "--new 2 --workers 3" ∷
    codes "--workers=1 --open" ∷
    codes "--seed 5 --workers 16 --limit=9 --open" ∷
    codes "--soak 7" ∷
    codes "--soak=7 --workers 8" ∷
    codes "--soak=18446744073709551615" ∷
    codes "--limit 4 --seed 9 --soak 0" ∷ [])
    ≡
    asks (New 2) 4294967295 0 1 ∷
    asks (New 2) 4294967295 0 1 ∷
    asks (New 9) 4294967295 0 1 ∷
    asks Open 4294967295 0 1 ∷
    asks Open 4 0 1 ∷
    asks Open 4 0 1 ∷
    asks (New 1) 4294967295 18446744073709551615 1 ∷
    asks (New 1) 4294967295 0 1 ∷
    asks (New 3) 1 7 1 ∷
    asks (New 2) 4294967295 0 3 ∷
    asks Open 4294967295 0 1 ∷
    asks Open 9 5 16 ∷
    asks (Soak 7) 4294967295 0 1 ∷
    asks (Soak 7) 4294967295 0 8 ∷
    asks (Soak 18446744073709551615) 4294967295 0 1 ∷
    asks (Soak 0) 4 9 1 ∷ []
unfolding command_of words_of
words_ask_for_a_group = refl

other_words_ask_for_none : map says (
    codes "" ∷
    codes "--new" ∷
    codes "--new 0" ∷
    codes "--new 10" ∷
    codes "--new +2" ∷
    codes "--new= 2" ∷
    codes "--new 000000000000000000002" ∷
    codes "--new 2 --new 2" ∷
    codes "--new 2 --open" ∷
    codes "--open --open" ∷
    codes "--open=1" ∷
    codes "--open 1" ∷
    codes "--limit 4" ∷
    codes "--open --limit 0" ∷
    codes "--open --limit 4294967296" ∷
    codes "--open --limit 4 --limit 4" ∷
    codes "--open --seed 18446744073709551616" ∷
    codes "--open --seed 7 --seed=8" ∷
    codes "--workers 2" ∷
    codes "--open --workers" ∷
    codes "--open --workers 0" ∷
    codes "--open --workers 17" ∷
    codes "--open --workers=2 --workers 2" ∷
    codes "--soak" ∷
    codes "--soak 18446744073709551616" ∷
    codes "--soak 7 --soak=7" ∷
    codes "--soak 7 --open" ∷
    codes "--new 2 --soak 7" ∷
    codes "--open --help" ∷
    codes "--version" ∷ [])
    ≡ replicate 30 None
unfolding command_of words_of
other_words_ask_for_none = refl

-- ---- lines of a script

lines_of_the_grammar : map line_of (
    codes "" ∷
    codes "   " ∷
    codes "#" ∷
    (codes "  #join" ++ 9 ∷ 97 ∷ 32 ∷ 255 ∷ 0 ∷ 13 ∷ []) ∷
    replicate 200 32 ∷
    codes "batch" ∷
    codes "  batch  " ∷
    codes "allow *" ∷
    codes "  allow b*" ∷
    codes "deny bob" ∷
    codes "join a" ∷
    codes "again a" ∷
    codes "lose a" ∷
    codes " leave   a " ∷
    codes "join abcdefghijklmnopqrstuvwxyz_56789" ∷
    codes "derive 2 b" ∷
    codes "derive 0 a a" ∷
    codes "  derive  0000000007  a  b " ∷
    codes "derive 4294967295 a b c d e f g h" ∷
    codes "deliver a 1" ∷
    codes " deliver  a   0000000000 " ∷
    codes "deliver a 4294967295" ∷
    codes "deliver-all" ∷
    codes "key a" ∷
    codes "halt" ∷
    codes "  reopen" ∷
    codes "show  " ∷ [])
    ≡ map Some (
    Nothing ∷
    Nothing ∷
    Nothing ∷
    Nothing ∷
    Nothing ∷
    Batch ∷
    Batch ∷
    Allow (codes "*") ∷
    Allow (codes "b*") ∷
    Deny (codes "bob") ∷
    Join (codes "a") ∷
    Again (codes "a") ∷
    Lose (codes "a") ∷
    Leave (codes "a") ∷
    Join (codes "abcdefghijklmnopqrstuvwxyz_56789") ∷
    Derive 2 (codes "b" ∷ []) ∷
    Derive 0 (codes "a" ∷ codes "a" ∷ []) ∷
    Derive 7 (codes "a" ∷ codes "b" ∷ []) ∷
    Derive 4294967295 (codes "a" ∷ codes "b" ∷ codes "c" ∷ codes "d" ∷ codes "e" ∷ codes "f" ∷ codes "g" ∷ codes "h" ∷ []) ∷
    Deliver (codes "a") 1 ∷
    Deliver (codes "a") 0 ∷
    Deliver (codes "a") 4294967295 ∷
    DeliverAll ∷
    Key (codes "a") ∷
    Halt ∷
    Reopen ∷
    Show ∷ [])
unfolding line_of words_of
lines_of_the_grammar = refl

other_lines : map line_of (
    replicate 201 32 ∷
    codes "join abcdefghijklmnopqrstuvwxyz_567890" ∷
    codes "allow" ∷
    codes "allow A" ∷
    codes "allow **" ∷
    codes "allow *b" ∷
    codes "deny a b" ∷
    codes "again" ∷
    codes "lose A" ∷
    codes "join A" ∷
    codes "join #a" ∷
    codes "Join a" ∷
    codes "join" ∷
    codes "join a b" ∷
    codes "leave a #b" ∷
    codes "batch a" ∷
    codes "batches" ∷
    (codes "join" ++ 9 ∷ codes "a") ∷
    (codes "join a" ++ 9 ∷ []) ∷
    (codes "batch" ++ 13 ∷ []) ∷
    (13 ∷ []) ∷
    codes "derive" ∷
    codes "derive 1" ∷
    codes "derive a" ∷
    codes "derive 1 A" ∷
    codes "derive +1 a" ∷
    codes "derive 4294967296 a" ∷
    codes "derive 00000000001 a" ∷
    codes "derive 1 a b c d e f g h i" ∷
    codes "derive 1 a #" ∷
    codes "deliver" ∷
    codes "deliver a" ∷
    codes "deliver a 1 2" ∷
    codes "deliver a 4294967296" ∷
    codes "deliver a 00000000001" ∷
    codes "deliver a b" ∷
    codes "deliver A 1" ∷
    codes "deliver-all a" ∷
    codes "deliver-all a 1" ∷
    codes "key" ∷
    codes "key A" ∷
    codes "key a b" ∷
    codes "halt a" ∷
    codes "reopen x" ∷
    codes "show 1" ∷
    codes "Show" ∷ [])
    ≡ replicate 46 None
unfolding line_of words_of
other_lines = refl

numbers_of_3_digits_below_5 : map (decimal_in 3 5) (codes "0" ∷ codes "004" ∷ codes "0004" ∷ codes "5" ∷ codes "" ∷ codes "+4" ∷ codes "4 " ∷ [])
    ≡ Some 0 ∷ Some 4 ∷ None ∷ None ∷ None ∷ None ∷ None ∷ []
numbers_of_3_digits_below_5 = refl

-- ---- endings

status_of_each_ending : map status_of (Whole ∷ NoGroup ∷ BadLine 7 ∷ Source ∷ Sink ∷ Memory ∷ NotOpened ∷ []) ≡ 0 ∷ 1 ∷ 2 ∷ 3 ∷ 4 ∷ 5 ∷ 6 ∷ []
status_of_each_ending = refl

line_of_each_ending : map line_at (Whole ∷ NoGroup ∷ BadLine 7 ∷ Source ∷ Sink ∷ Memory ∷ NotOpened ∷ []) ≡ 0 ∷ 0 ∷ 7 ∷ 0 ∷ 0 ∷ 0 ∷ 0 ∷ []
line_of_each_ending = refl
