-- A text, its octets and its lines.
-- `rw` by a test finds nothing in a fold over `octet ∷ octets`: `cut_parts` unfolds it by `ap (λ b. fold cut_more (cond b ended kept) octets)`.
use Rattle.std.proofs.Common.{Fits, w8, get_or, true, ◌≡◌, ℕ, suc, ◌<◌, cond, List, [], ◌∷◌, ◌++◌, length, sym, refl, ap, ◌∙◌, arith, inl, inr}
use Rattle.std.specs.List.{fold, slice_split, onto_first}
use Rattle.std.proofs.lemmas.Bool.{cases_Bool, lt-ltb, and_from}
use Rattle.std.proofs.lemmas.List.{append_assoc, append-nil}
use Rattle.std.proofs.lemmas.List.Sums.{fold-append}
use Rattle.console_run.specs.Scripts.{are_octets, ends_line, unfinished, lines_of_parts, script_lines}
use Rattle.console_run.specs.Private.Cuts.{Cut, cut_more, cut_of}

-- what a slice of octets has is octets
pub small_octets : (octets : List ℕ) → ((i : ℕ) → Fits w8 (get_or octets i 0)) → are_octets octets ≡ true
small_octets [] h = refl
small_octets (octet ∷ octets) h = and_from _ _ (lt-ltb octet 256 (h 0).fits) (small_octets octets (λ i. h (suc i)))

pub cut_of-more : (octets : List ℕ) (octet : ℕ) → cut_of (octets ++ octet ∷ []) ≡ cut_more (cut_of octets) octet
cut_of-more octets octet = fold-append cut_more (record { lines = []; rest = [] }) octets (octet ∷ [])

-- what came before the parts belongs to the first
parts_onto : List ℕ → List (List ℕ) → List (List ℕ)
parts_onto rest [] = rest ∷ []
parts_onto rest (part ∷ parts) = (rest ++ part) ∷ parts

onto_begun : (octet : ℕ) (parts : List (List ℕ)) → parts_onto [] (onto_first octet parts) ≡ onto_first octet parts
unfolding parts_onto
onto_begun octet [] = refl
onto_begun octet (part ∷ parts) = refl

split_begun : (octets : List ℕ) → parts_onto [] (slice_split ends_line octets) ≡ slice_split ends_line octets
unfolding parts_onto
split_begun [] = refl
split_begun (octet ∷ octets) = elim (cases_Bool (ends_line octet)) [
  | inl ends ↦ rw ends refl
  | inr goes ↦ rw goes (onto_begun octet (slice_split ends_line octets))
]

onto_more : (rest : List ℕ) (octet : ℕ) (parts : List (List ℕ)) → parts_onto (rest ++ octet ∷ []) parts ≡ parts_onto rest (onto_first octet parts)
unfolding parts_onto
onto_more rest octet [] = refl
onto_more rest octet (part ∷ parts) = ap (λ first. first ∷ parts) (append_assoc rest (octet ∷ []) part)

-- octet by octet, and between the line ends, a text is cut alike
cut_parts : (lines : List (List ℕ)) (rest octets : List ℕ)
    → (fold cut_more (record { lines = lines; rest = rest }) octets).lines ++ (fold cut_more (record { lines = lines; rest = rest }) octets).rest ∷ []
    ≡ lines ++ parts_onto rest (slice_split ends_line octets)
unfolding parts_onto
cut_parts lines rest [] = ap (λ last. lines ++ last ∷ []) (sym (append-nil rest))
cut_parts lines rest (octet ∷ octets) =
    let ended : Cut = record { lines = lines ++ rest ∷ []; rest = [] } in
    let kept : Cut = record { lines = lines; rest = rest ++ octet ∷ [] } in
    let after = slice_split ends_line octets in
    elim (cases_Bool (ends_line octet)) [
      | inl ends ↦ ap (λ (c : Cut). c.lines ++ c.rest ∷ []) (ap (λ b. fold cut_more (cond b ended kept) octets) ends) ∙ cut_parts (lines ++ rest ∷ []) [] octets
          ∙ ap (λ others. (lines ++ rest ∷ []) ++ others) (split_begun octets) ∙ append_assoc lines (rest ∷ []) after
          ∙ ap (λ first. lines ++ first ∷ after) (sym (append-nil rest))
          ∙ sym (ap (λ b. lines ++ parts_onto rest (cond b ([] ∷ after) (onto_first octet after))) ends)
      | inr goes ↦ ap (λ (c : Cut). c.lines ++ c.rest ∷ []) (ap (λ b. fold cut_more (cond b ended kept) octets) goes)
          ∙ cut_parts lines (rest ++ octet ∷ []) octets
          ∙ ap (λ others. lines ++ others) (onto_more rest octet after)
          ∙ sym (ap (λ b. lines ++ parts_onto rest (cond b ([] ∷ after) (onto_first octet after))) goes)
    ]

lines_and_last : (lines : List (List ℕ)) (last : List ℕ) → lines_of_parts (lines ++ last ∷ []) ≡ lines ++ unfinished last
lines_and_last [] last = refl
lines_and_last (line ∷ []) last = refl
lines_and_last (line ∷ next ∷ lines) last = ap (λ others. line ∷ others) (lines_and_last (next ∷ lines) last)

pub lines_cut : (octets : List ℕ) → script_lines octets ≡ (cut_of octets).lines ++ unfinished (cut_of octets).rest
lines_cut octets =
    ap lines_of_parts (sym (split_begun octets) ∙ sym (cut_parts [] [] octets)) ∙ lines_and_last (cut_of octets).lines (cut_of octets).rest

pub unfinished-some : (line : List ℕ) → 0 < length line → unfinished line ≡ line ∷ []
unfinished-some [] some = absurd (omega (arith, some))
unfinished-some (octet ∷ octets) some = refl
