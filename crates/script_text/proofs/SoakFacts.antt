-- What the definitions of the soak give, beside what a program gives that was written apart from them.
use Rattle.std.proofs.Common.{◌≡◌, ℕ, zero, suc, List, [], ◌∷◌, ◌++◌, Some, None, drop, map, take, refl}
use Rattle.std.specs.Prelude.{codes}
use Rattle.std.specs.Fmt.{digits}
use Rattle.script_text.specs.Soak.{joins_from, leaves_from, next_state, number_drawn, rounds_from, soak_line_of, soak_lines, soak_member, soak_script, state_after}
use Rattle.script_text.specs.declared.lines.Line.TheVariants.{Allow, Join, Leave, Batch, DeliverAll, Together, End}

-- the next n numbers that are drawn, from a state on
abbrev drawn_from : ℕ → ℕ → List ℕ
drawn_from x zero = []
drawn_from x (suc n) = number_drawn (next_state x) ∷ drawn_from (next_state x) n

numbers_of_the_soak : drawn_from 7 240 ≡
    78 ∷ 31 ∷ 33 ∷ 33 ∷ 25 ∷ 19 ∷ 24 ∷ 4 ∷ 59 ∷ 6 ∷ 35 ∷ 35 ∷ 32 ∷ 0 ∷ 29 ∷ 2 ∷ 45 ∷ 19 ∷ 76 ∷ 31 ∷ 56 ∷ 33 ∷ 54 ∷ 18 ∷
    13 ∷ 64 ∷ 40 ∷ 25 ∷ 53 ∷ 32 ∷ 72 ∷ 77 ∷ 70 ∷ 75 ∷ 13 ∷ 19 ∷ 9 ∷ 27 ∷ 52 ∷ 72 ∷ 45 ∷ 55 ∷ 48 ∷ 50 ∷ 60 ∷ 24 ∷ 64 ∷ 64 ∷
    66 ∷ 10 ∷ 52 ∷ 14 ∷ 77 ∷ 28 ∷ 74 ∷ 11 ∷ 48 ∷ 16 ∷ 66 ∷ 43 ∷ 79 ∷ 53 ∷ 3 ∷ 20 ∷ 75 ∷ 25 ∷ 20 ∷ 3 ∷ 72 ∷ 18 ∷ 41 ∷ 38 ∷
    70 ∷ 3 ∷ 8 ∷ 45 ∷ 38 ∷ 21 ∷ 50 ∷ 54 ∷ 72 ∷ 15 ∷ 16 ∷ 32 ∷ 17 ∷ 79 ∷ 18 ∷ 67 ∷ 79 ∷ 19 ∷ 45 ∷ 1 ∷ 77 ∷ 34 ∷ 8 ∷ 38 ∷
    35 ∷ 76 ∷ 45 ∷ 63 ∷ 16 ∷ 6 ∷ 5 ∷ 12 ∷ 51 ∷ 11 ∷ 35 ∷ 24 ∷ 54 ∷ 71 ∷ 1 ∷ 3 ∷ 68 ∷ 40 ∷ 45 ∷ 14 ∷ 2 ∷ 61 ∷ 70 ∷ 7 ∷
    7 ∷ 46 ∷ 58 ∷ 30 ∷ 50 ∷ 28 ∷ 32 ∷ 74 ∷ 65 ∷ 33 ∷ 10 ∷ 69 ∷ 23 ∷ 1 ∷ 65 ∷ 55 ∷ 73 ∷ 3 ∷ 9 ∷ 74 ∷ 40 ∷ 20 ∷ 64 ∷ 75 ∷
    42 ∷ 13 ∷ 73 ∷ 54 ∷ 17 ∷ 63 ∷ 41 ∷ 18 ∷ 75 ∷ 13 ∷ 25 ∷ 49 ∷ 19 ∷ 76 ∷ 77 ∷ 10 ∷ 47 ∷ 60 ∷ 0 ∷ 67 ∷ 21 ∷ 22 ∷ 71 ∷ 34 ∷
    71 ∷ 58 ∷ 63 ∷ 74 ∷ 58 ∷ 70 ∷ 68 ∷ 53 ∷ 46 ∷ 32 ∷ 49 ∷ 17 ∷ 24 ∷ 5 ∷ 51 ∷ 33 ∷ 38 ∷ 77 ∷ 46 ∷ 44 ∷ 69 ∷ 8 ∷ 67 ∷ 48 ∷
    76 ∷ 0 ∷ 38 ∷ 7 ∷ 26 ∷ 71 ∷ 6 ∷ 10 ∷ 28 ∷ 21 ∷ 69 ∷ 0 ∷ 41 ∷ 2 ∷ 31 ∷ 60 ∷ 30 ∷ 69 ∷ 30 ∷ 18 ∷ 20 ∷ 45 ∷ 67 ∷ 32 ∷
    53 ∷ 53 ∷ 21 ∷ 1 ∷ 13 ∷ 64 ∷ 55 ∷ 1 ∷ 12 ∷ 53 ∷ 14 ∷ 20 ∷ 22 ∷ 1 ∷ 53 ∷ 44 ∷ 0 ∷ 4 ∷ 2 ∷ 54 ∷ 14 ∷ 61 ∷ 30 ∷ 0 ∷ []
unfolding next_state number_drawn
numbers_of_the_soak = refl

numbers_of_the_greatest_soak : drawn_from 18446744073709551615 6 ≡ 8 ∷ 23 ∷ 37 ∷ 2 ∷ 64 ∷ 67 ∷ []
unfolding next_state number_drawn
numbers_of_the_greatest_soak = refl

first_round : take 22 (soak_lines 7) ≡
    Allow (codes "*") ∷ Together ∷ Join (soak_member 78) ∷ Join (soak_member 79) ∷ Join (soak_member 0) ∷
    Join (soak_member 1) ∷ Join (soak_member 2) ∷ Join (soak_member 3) ∷ Join (soak_member 4) ∷ Join (soak_member 5) ∷
    Join (soak_member 6) ∷ Join (soak_member 7) ∷ Join (soak_member 8) ∷ Join (soak_member 9) ∷ End ∷
    Leave (soak_member 31) ∷ Leave (soak_member 33) ∷ Leave (soak_member 33) ∷ Leave (soak_member 25) ∷ Leave (soak_member 19) ∷
    Batch ∷ DeliverAll ∷ []
unfolding joins_from leaves_from next_state number_drawn rounds_from soak_lines state_after
first_round = refl

last_round : drop 820 (soak_lines 7) ≡
    Together ∷ Join (soak_member 2) ∷ Join (soak_member 3) ∷ Join (soak_member 4) ∷ Join (soak_member 5) ∷
    Join (soak_member 6) ∷ Join (soak_member 7) ∷ Join (soak_member 8) ∷ Join (soak_member 9) ∷ Join (soak_member 10) ∷
    Join (soak_member 11) ∷ Join (soak_member 12) ∷ Join (soak_member 13) ∷ End ∷ Leave (soak_member 54) ∷
    Leave (soak_member 14) ∷ Leave (soak_member 61) ∷ Leave (soak_member 30) ∷ Leave (soak_member 0) ∷ Batch ∷
    DeliverAll ∷ []
unfolding joins_from leaves_from next_state number_drawn rounds_from soak_lines state_after
last_round = refl

lines_at_places : map (soak_line_of 7) (0 ∷ 1 ∷ 21 ∷ 22 ∷ 840 ∷ 841 ∷ 4294967295 ∷ []) ≡
    Some (Allow (codes "*")) ∷ Some Together ∷ Some DeliverAll ∷ Some Together ∷ Some DeliverAll ∷ None ∷ None ∷ []
unfolding joins_from leaves_from next_state number_drawn rounds_from soak_lines state_after
lines_at_places = refl

names_of_numbers : map soak_member (0 ∷ 9 ∷ 10 ∷ 79 ∷ []) ≡ codes "m0" ∷ codes "m9" ∷ codes "m10" ∷ codes "m79" ∷ []
unfolding digits
names_of_numbers = refl

-- a text with its line end, and what comes after it
abbrev ended : List ℕ → List ℕ → List ℕ
ended text rest = text ++ 10 ∷ rest

first_octets : take 26 (soak_script 7) ≡ ended (codes "allow *") (ended (codes "together") (ended (codes "join m78") []))
unfolding digits joins_from leaves_from next_state number_drawn rounds_from soak_lines soak_script state_after
first_octets = refl

last_octets : drop 7429 (soak_script 7) ≡ ended (codes "leave m0") (ended (codes "batch") (ended (codes "deliver-all") []))
unfolding digits joins_from leaves_from next_state number_drawn rounds_from soak_lines soak_script state_after
last_octets = refl
