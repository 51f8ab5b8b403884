-- The script of the soak, one line after the other.
use Rattle.std.proofs.Common.{◌≡◌, ℕ, zero, suc, ◌+◌, ◌<◌, ◌≤◌, ◌/◌, ◌%◌, ◌&&◌, ◌||◌, true, List, [], ◌∷◌, ◌++◌, Option, Some, None, length, drop, refl, ap, sym, ◌∙◌, arith, append_assoc}
use Rattle.std.specs.Prelude.{MatchOption, slice_get, nat_le, ◌==◌}
use Rattle.std.proofs.lemmas.Bool.{and_from, le-leb, or_left, or_right}
use Rattle.std.proofs.lemmas.Fmt.{decimal_digit, decimal_step}
use Rattle.std.proofs.lemmas.List.{length-drop}
use Rattle.std.proofs.lemmas.Option.{slice_get_past}
use Rattle.group_terms.specs.Names.{is_name, is_name_octet}
use Rattle.script_text.specs.Soak.{joins_from, leaves_from, next_state, number_drawn, round_from, rounds_from, soak_member, state_after}
use Rattle.script_text.specs.declared.lines.Line.{Line}
use Rattle.script_text.specs.declared.lines.Line.TheVariants.{Join, Leave, Batch, DeliverAll, Together, End}

-- ---- what is left of a part of a round

pub joins_from-none : (number n : ℕ) → n ≡ 0 → joins_from number n ≡ []
unfolding joins_from
joins_from-none number n none = ap (joins_from number) none

pub joins_from-more : (number n next m : ℕ) → n ≡ suc m → next ≡ number + 1 → joins_from number n ≡ Join (soak_member (number % 80)) ∷ joins_from next m
unfolding joins_from
joins_from-more number n next m more step =
    ap (joins_from number) more ∙ ap (λ next. Join (soak_member (number % 80)) ∷ joins_from next m) (sym step)

pub leaves_from-none : (x n : ℕ) → n ≡ 0 → leaves_from x n ≡ []
unfolding leaves_from
leaves_from-none x n none = ap (leaves_from x) none

pub leaves_from-more : (x n m : ℕ) → n ≡ suc m → leaves_from x n ≡ Leave (soak_member (number_drawn (next_state x))) ∷ leaves_from (next_state x) m
unfolding leaves_from
leaves_from-more x n m more = ap (leaves_from x) more

pub state_after-none : (x n : ℕ) → n ≡ 0 → state_after x n ≡ x
unfolding state_after
state_after-none x n none = ap (state_after x) none

pub state_after-more : (x n m : ℕ) → n ≡ suc m → state_after x n ≡ state_after (next_state x) m
unfolding state_after
state_after-more x n m more = ap (state_after x) more

-- ---- a round

pub rounds_from-none : (x n : ℕ) → n ≡ 0 → rounds_from x n ≡ []
unfolding rounds_from
rounds_from-none x n none = ap (rounds_from x) none

-- the lines of a round, and then those of the others
regroup : (joins leaves last rest : List Line) → (joins ++ (End ∷ (leaves ++ last))) ++ rest ≡ joins ++ (End ∷ (leaves ++ (last ++ rest)))
regroup joins leaves last rest =
    append_assoc joins (End ∷ (leaves ++ last)) rest ∙ ap (λ others. joins ++ (End ∷ others)) (append_assoc leaves last rest)

rounds_from-one : (x m : ℕ) → rounds_from x (suc m) ≡ round_from x ++ rounds_from (state_after x 6) m
unfolding rounds_from
rounds_from-one x m = refl

pub rounds_from-more : (x n m : ℕ) → n ≡ suc m → rounds_from x n
    ≡ Together ∷ (joins_from (number_drawn (next_state x)) 12 ++ (End ∷ (leaves_from (next_state x) 5
    ++ (Batch ∷ DeliverAll ∷ rounds_from (state_after (next_state x) 5) m))))
rounds_from-more x n m more =
    ap (rounds_from x) more
    ∙ rounds_from-one x m
    ∙ ap (λ lines. Together ∷ lines) (regroup (joins_from (number_drawn (next_state x)) 12) (leaves_from (next_state x) 5) (Batch ∷ DeliverAll ∷ []) (rounds_from (state_after x 6) m))
    ∙ ap (λ state. Together ∷ (joins_from (number_drawn (next_state x)) 12 ++ (End ∷ (leaves_from (next_state x) 5 ++ (Batch ∷ DeliverAll ∷ rounds_from state m)))))
    (state_after-more x 6 5 refl)

-- ---- the line at a place

-- the line that is taken after the lines before a place is the line at that place
pub taken_at : (lines : List Line) (place : ℕ) (taken : Option Line) (rest : List Line)
    → MatchOption taken (drop place lines ≡ []) (λ line. drop place lines ≡ line ∷ rest) → taken ≡ slice_get lines place
taken_at [] zero None rest h = refl
taken_at [] zero (Some line) rest h = absurd (apart h)
  where
    apart : [] ≡ line ∷ rest → ⊥
    apart e = cc
taken_at [] (suc place) None rest h = refl
taken_at [] (suc place) (Some line) rest h = absurd (apart h)
  where
    apart : [] ≡ line ∷ rest → ⊥
    apart e = cc
taken_at (first ∷ lines) zero None rest h = cc
taken_at (first ∷ lines) zero (Some line) rest h = cc
taken_at (first ∷ lines) (suc place) taken rest h = taken_at lines place taken rest h

-- where nothing is left, there is no line at that place or a later one
pub none_after : (lines : List Line) (place later : ℕ) → drop place lines ≡ [] → place ≤ later → slice_get lines later ≡ None
none_after lines place later none le = slice_get_past lines later (omega (arith, le, length-drop place lines, ap length none))

-- ---- names

-- a decimal digit may stand in a name
digit_is_of_a_name : (d : ℕ) → d < 10 → is_name_octet (48 + d) ≡ true
digit_is_of_a_name d small =
    or_right (nat_le 97 (48 + d) && nat_le (48 + d) 122) ((nat_le 48 (48 + d) && nat_le (48 + d) 57) || (48 + d) == 95)
    (or_left (nat_le 48 (48 + d) && nat_le (48 + d) 57) ((48 + d) == 95)
    (and_from (nat_le 48 (48 + d)) (nat_le (48 + d) 57) (le-leb 48 (48 + d) (omega arith)) (le-leb (48 + d) 57 (omega arith))))

-- a name of one digit
pub is_name-one : (n : ℕ) → n < 10 → is_name (109 ∷ (48 + n) ∷ []) ≡ true
is_name-one n small = ap (λ b. b && true) (digit_is_of_a_name n small)

pub soak_member-one : (n : ℕ) → n < 10 → 109 ∷ (48 + n) ∷ [] ≡ soak_member n
soak_member-one n small = ap (λ digits. 109 ∷ digits) (sym (decimal_digit n small))

-- a name of two
pub is_name-two : (tens ones : ℕ) → tens < 10 → ones < 10 → is_name (109 ∷ (48 + tens) ∷ (48 + ones) ∷ []) ≡ true
is_name-two tens ones first second =
    ap (λ b. b && (is_name_octet (48 + ones) && true)) (digit_is_of_a_name tens first) ∙ ap (λ b. b && true) (digit_is_of_a_name ones second)

pub soak_member-two : (n : ℕ) → 10 ≤ n → n < 100 → 109 ∷ (48 + n / 10) ∷ (48 + n % 10) ∷ [] ≡ soak_member n
soak_member-two n some few =
    let tens : n / 10 < 10 = omega arith in
    ap (λ digits. 109 ∷ digits)
    (sym (decimal_step n some (omega arith) ∙ ap (λ front. front ++ (48 + n % 10) ∷ []) (decimal_digit (n / 10) tens)))
